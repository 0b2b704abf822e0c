-- What every fork of rules that go on with others satisfies, of walks, and of first-level and nested translation: the one traversal of their
-- trees.
use Prim.Native.Nat.{ℕ, zero, suc, ◌+◌, ◌-◌, ◌*◌, ◌≤◌}
use mathlib.Core.Bool.{Bool, true, false}
use mathlib.Core.List.{List, []}
use mathlib.Core.Path.{◌≡◌, refl, sym, ◌∙◌, subst}
use native.Mathlib.Nat.{suc-mul}
use native.Mathlib.Omega.{arith}
use borrow.Author.Tests.{eqb-true}
use lib.Dec.{eqb}
use Rattle.std.specs.Prelude.{if◌then◌else◌}
use Rattle.image.specs.EntryKind.{EntryKind, words_of, first_level_entry}
use Rattle.image.specs.Rules.{Rules, answer, fetch, map_rules}
use Rattle.image.proofs.Forks.{Every, every-answer, every-fetch, every_more, every-outside, every_map}
use Rattle.image.proofs.Trees.{Outside}
use Rattle.dma.specs.Translation.{overflows}
use Rattle.dma.specs.Walk.{Step, done, down, on_step, place_in, walk_rules}
use Rattle.dma.proofs.Walks.{every-walk}
use Rattle.pasid.specs.declared.ScalableRegisters.{ScalableRegisters}
use Rattle.pasid.specs.declared.table.PasidEntry.{PasidEntry}
use Rattle.first.specs.First.{unfetchable_reason}
use Rattle.second.specs.Second.{Walked, fault as no_page, at_top, no_second_entry, second_step}
use Rattle.second.specs.declared.step.Wanted.{Wanted}
use Rattle.nested.specs.Pages.{Pages, reached, fault, FirstHanded, first_handed, no_first_entry, wanted_of_entry, wanted_of_page, to_entry, to_page, intermediate_rules, locate, host_page_rules, walk_step, first_rules, pages_rules}
use Rattle.nested.specs.Then.{then_rules}
use Rattle.nested.specs.Way.{Located, located, lost, on_located, entry_rules, ended, way_rules}

-- what is answered where an entry can't be fetched is of a kind, and no way through the rules reads more than so many words
abbrev pub Forks : {A : Type 0} → (A → Type 0) → (most : ℕ) → Rules A → Type 0
Forks Kind most q = Every (λ kind at a. Kind a) (λ a. Unit {0}) most q

module _ {A : Type 0} (Kind : A → Type 0) where
  pub forks-answer : (most : ℕ) (a : A) → Forks Kind most (answer a)
  forks-answer most a = every-answer _ _ most a tt

  pub forks-more : (least most : ℕ) (q : Rules A) → least ≤ most → Forks Kind least q → Forks Kind most q
  forks-more least most q h forks = every_more _ _ least most q h forks

  pub forks-if : (most : ℕ) (t : Bool) (p q : Rules A) → (t ≡ true → Forks Kind most p) → (t ≡ false → Forks Kind most q)
      → Forks Kind most (if t then p else q)
  forks-if most true p q x y = x refl
  forks-if most false p q x y = y refl

  pub forks-outside : (most : ℕ) (q : Rules A) → Forks Kind most q → Outside Kind q
  forks-outside most q forks = every-outside (λ kind at a. Kind a) (λ a. Unit {0}) Kind (λ kind at a h. h) most q forks

module _ {A B : Type 0} (Kind : B → Type 0) where
  pub forks-map : (f : A → B) (most : ℕ) (q : Rules A) → Forks (λ a. Kind (f a)) most q → Forks Kind most (map_rules f q)
  forks-map f most q h = every_map f _ _ most q h

  -- rules that go on with others read the words of both; what follows is asked only of answers that come up
  pub forks-then : (ended : A → B) (next : A → Rules B) (Here : A → Type 0) (first rest : ℕ) (q : Rules A)
      → Every (λ kind at a. Kind (ended a)) Here first q → ((a : A) → Here a → Forks Kind rest (next a))
      → Forks Kind (first + rest) (then_rules ended next q)
  unfolding Every then_rules
  forks-then ended next Here first rest (answer a) is after = forks-more Kind rest (first + rest) (next a) (omega arith) (after a is)
  forks-then ended next Here first rest (fetch kind at outside later) is after =
      let fits = is.0 in
      let left : first + rest - words_of kind ≡ first - words_of kind + rest = omega arith in
      (omega arith, is.1, λ e. rw left (forks-then ended next Here (first - words_of kind) rest (later e) (is.2 e) after))

-- a walk by levels reads a word for each
pub forks-walk : {S A : Type 0} (Kind : A → Type 0) (address : ℕ) (none : S → A) (step : (level place : ℕ) → S → (e : ℕ) → Step S A)
    → ((s : S) → Kind (none s)) → (level table : ℕ) (s : S) → Forks Kind level (walk_rules address none step level table s)
forks-walk Kind address none step lacks level table s =
    every-walk address none step (λ kind at a. Kind a) (λ a. Unit {0}) (λ level table. Unit {0}) level (λ table s here. tt) (λ n table s here. lacks s)
    (λ n place s e a few told. tt) (λ n place s e next t told. tt) level table s (omega arith) tt

-- with a way to its entries, besides what the way reads
module _ {S A : Type 0} (kind : EntryKind) (address : ℕ) (find : S → (place : ℕ) → Rules (Located S A)) (none : S → A)
    (step : (level place : ℕ) → S → (e : ℕ) → Step S A) (Kind : A → Type 0) (lacks : (s : S) → Kind (none s)) (way : ℕ)
    (finds : (s : S) (place : ℕ) → Forks (λ l. Kind (ended kind address find none step l)) way (find s place)) where
  abbrev walk : (level table : ℕ) → S → Rules A
  walk = way_rules kind address find none step

  along : (x a b : ℕ) → x + (a + b) ≡ a + (b + x)
  along x a b = omega arith

  pub forks-way : (level table : ℕ) (s : S) → Forks Kind (level * (way + words_of kind)) (walk level table s)
  unfolding way_rules
  forks-way zero table s = forks-answer Kind _ (none s)
  forks-way (suc n) table s =
      subst (λ (w : ℕ). Forks Kind w (then_rules (ended kind address find none step) next (find s (place_in address table n))))
      (sym (suc-mul n (way + words_of kind) ∙ along (n * (way + words_of kind)) way (words_of kind)))
      (forks-then Kind (ended kind address find none step) next (λ l. Unit {0}) way (words_of kind + n * (way + words_of kind))
      (find s (place_in address table n)) (finds s (place_in address table n)) (λ l here. after l (forks-way n)))
    where
      next : Located S A → Rules A
      next l = on_located l answer (entry_rules kind address find none step (suc n) (walk n))

      stepped : (x : Step S A) → ((table : ℕ) (s : S) → Forks Kind (n * (way + words_of kind)) (walk n table s))
          → Forks Kind (n * (way + words_of kind)) (on_step x answer (walk n))
      stepped (done a) ih = forks-answer Kind _ a
      stepped (down to t) ih = ih to t

      after : (l : Located S A) → ((table : ℕ) (s : S) → Forks Kind (n * (way + words_of kind)) (walk n table s))
          → Forks Kind (words_of kind + n * (way + words_of kind)) (next l)
      after (located place t) ih =
          every-fetch _ _ (words_of kind + n * (way + words_of kind)) (n * (way + words_of kind)) kind place (none t) _ refl (lacks t)
          (λ e. stepped (step (suc n) place t e) ih)
      after (lost a) ih = forks-answer Kind _ a

module _ (r : ScalableRegisters) (p : PasidEntry) where
  -- an entry on the way that can't be fetched is 7Bh or 78h
  forks-intermediate : (Kind : Walked → Type 0) → ((top : Bool) → Kind (no_page (if top then 0x7B else 0x78) p.fpd))
      → (wanted : Wanted) (address : ℕ) (flags : List ℕ) → Forks Kind p.second_levels (intermediate_rules r p wanted address flags)
  unfolding intermediate_rules
  forks-intermediate Kind lacks wanted address flags =
      forks-if Kind p.second_levels (overflows r.base p.second_levels address) (answer (no_page 0x74 p.fpd)) _
      (λ over. forks-answer Kind p.second_levels _)
      (λ within.
      forks-walk Kind address (no_second_entry r p wanted) (second_step r p wanted) (λ above. lacks above.top) p.second_levels p.second_top
      (at_top flags))

  -- the second level reads so many words where it is walked
  module _ (most : ℕ) (second : p.kind ≡ 3 → p.second_levels ≤ most) where
    pub forks-locate : (Kind : Located FirstHanded Pages → Type 0) → ((top : Bool) → Kind (lost (fault (if top then 0x7B else 0x78) p.fpd)))
        → (s : FirstHanded) (place : ℕ) → Forks Kind most (locate r p s place)
    unfolding locate
    forks-locate Kind lacks s place =
        forks-if Kind most (eqb p.kind 3) _ (answer (located place s))
        (λ three.
        forks-map Kind (to_entry s.top place) most _
        (forks-more _ p.second_levels most _ (second (eqb-true p.kind 3 three))
        (forks-intermediate (λ w. Kind (to_entry s.top place w)) lacks (wanted_of_entry p) place s.flags)))
        (λ other. forks-answer Kind most _)

    -- what is answered where an entry can't be fetched: 70h or 73h of the first level, 78h or 7Bh of the second
    module _ (Kind : Pages → Type 0) (first : (top : Bool) → Kind (fault (unfetchable_reason top) p.fpd))
        (lacks : (top : Bool) → Kind (fault (if top then 0x7B else 0x78) p.fpd)) (address : ℕ) (write : Bool) where
      pub forks-first : (level table : ℕ) (s : FirstHanded)
          → Forks Kind (level * (most + words_of first_level_entry)) (first_rules r p address write level table s)
      forks-first =
          forks-way first_level_entry address (locate r p) (no_first_entry p) (walk_step r p address write) Kind (λ s. first s.top) most
          (forks-locate _ lacks)

      forks-page : (a : Pages) → Forks Kind most (host_page_rules r p write a)
      unfolding host_page_rules
      forks-page (reached frame level host flags) =
          forks-if Kind most (eqb p.kind 3) _ (answer (reached frame level host flags))
          (λ three.
          forks-map Kind (to_page host) most _
          (forks-more _ p.second_levels most _ (second (eqb-true p.kind 3 three))
          (forks-intermediate (λ w. Kind (to_page host w)) lacks (wanted_of_page write) host flags)))
          (λ other. forks-answer Kind most _)
      forks-page (fault reason fpd) = forks-answer Kind most _

      -- the levels of the first level, each with those of the second, and those of the second for the page
      pub forks-pages : Forks Kind (p.first_levels * (most + words_of first_level_entry) + most) (pages_rules r p address write)
      forks-pages =
          forks-then Kind (λ w. w) (host_page_rules r p write) (λ a. Unit {0}) (p.first_levels * (most + words_of first_level_entry)) most
          (first_rules r p address write p.first_levels p.first_top (first_handed true []))
          (forks-first p.first_levels p.first_top (first_handed true [])) (λ a here. forks-page a)
