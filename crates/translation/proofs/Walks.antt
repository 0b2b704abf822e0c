-- A walk with joined rights beside the untranslated walk of one kind of request, read or write: of an address in the page where the
-- first one ends, or of the same address.
use Prim.Native.Nat.{ℕ, zero, suc, ◌/◌, ◌≤◌, ◌<◌}
use mathlib.Core.Bool.{Bool, true, false}
use mathlib.Core.Path.{◌≡◌, refl, ap, sym, ◌∙◌, subst}
use native.Mathlib.Omega.{arith}
use Rattle.image.specs.Bits.{any_set, in_place}
use Rattle.std.specs.Prelude.{if◌then◌else◌}
use Rattle.image.specs.Memory.{Memory, Fetched, missing, found, entry, on_fetch}
use Rattle.image.specs.Rules.{run}
use Rattle.image.proofs.Forks.{every-run}
use Rattle.registers.specs.declared.Registers.{Registers}
use Rattle.dma.specs.InterruptRange.{span_at}
use Rattle.dma.specs.Page.{denied, own_right, leaf_at, page_reserved}
use Rattle.dma.specs.Translation as plain
use Rattle.dma.specs.Walk.{Step, done, on_step, place_in, walk_rules, step_over}
use Rattle.dma.proofs.Walks.{walk_step_lem, every-walk}
use Rattle.translation.specs.Completion.{Completion, page, empty, fault, entry_step, joined_rules}
use Rattle.translation.specs.Rights.{joined, right_of}
use Rattle.translation.specs.declared.Rights.{Rights}
use Rattle.translation.proofs.Entries.{step-cases, joined-right, none_left, check-clear, check-lost, check-own, page-low}
use Rattle.translation.proofs.Pages.{same_place}

-- a page of one of so many levels, at most the third
abbrev pub Within : (levels : ℕ) → Completion → Type 0
Within levels (page frame level rights) = (0 < level) × (level ≤ levels) × (level ≤ 3)
Within levels empty = Unit {0}
Within levels (fault reason fpd) = Unit {0}

-- an address for which a completion speaks: of the page, or the same where there is none
abbrev pub Near : (own address : ℕ) → Completion → Type 0
Near own address (page frame level rights) = own / span_at level ≡ address / span_at level
Near own address empty = own ≡ address
Near own address (fault reason fpd) = ⊥

-- what it says of untranslated requests of a kind
abbrev pub told : (write fpd : Bool) → Completion → plain.Translation
told write fpd (page frame level rights) = if right_of write rights then plain.leaf frame level else plain.fault (denied write) fpd
told write fpd empty = plain.fault (denied write) fpd
told write fpd (fault reason f) = plain.fault reason f

module _ (registers : Registers) (own : ℕ) (fpd : Bool) (m : Memory) where
  abbrev step : (level place : ℕ) → Rights → (e : ℕ) → Step Rights Completion
  step = entry_step registers fpd

  abbrev ended : (level table : ℕ) → Rights → Completion
  ended level table s = run (joined_rules registers own fpd level table s) m

  -- what is left of the walk after a step
  abbrev after : (n : ℕ) → Step Rights Completion → Completion
  after n x = on_step x (λ c. c) (λ next t. ended n next t)

  first : (n table : ℕ) (s : Rights) → ended (suc n) table s ≡ after n (step_over own (λ s. fault 0x07 fpd) step m n table s)
  first = walk_step_lem own (λ s. fault 0x07 fpd) step m

  pub within : (level table : ℕ) (s : Rights) → Within level (ended level table s)
  within level table s =
      every-run (λ kind at c. Within level c) (Within level) (λ kind at c is. is) level _ m
      (every-walk own (λ s. fault 0x07 fpd) step (λ kind at c. Within level c) (Within level) (λ n table. Unit {0}) level
      (λ table s h. tt) (λ n table s h. tt) ends (λ n place s e next t h. tt) level table s (omega arith) tt)
    where
      ends : (n place : ℕ) (s : Rights) (e : ℕ) (c : Completion) → n < level → done c ≡ step (suc n) place s e → Within level c
      ends n place s e c few =
          step-cases registers fpd (suc n) place s e (λ x. done c ≡ x → Within level c)
          (λ none h. let is : c ≡ empty = cc in rw is tt)
          (λ any set h. let is : c ≡ fault 0x0C fpd = cc in rw is tt)
          (λ any free none h. let is : c ≡ empty = cc in rw is tt)
          (λ any free left leaf h.
          let is : c ≡ page (in_place e 51 12) (suc n) (joined s e) = cc in
          rw is (omega arith, omega arith, page-low registers (suc n) s e any free left leaf))
          (λ any free left more h. let z : ◌≡◌ {A = ℕ} 0 1 = cc in absurd (omega arith))

  module _ (address : ℕ) (write : Bool) where
    -- a completion that says that the request is denied
    abbrev Denies : Completion → Type 0
    Denies c = Near own address c → told write fpd c ≡ plain.fault (denied write) fpd

    -- a right that is lost above is lost
    lost : (level table : ℕ) (s : Rights) → right_of write s ≡ false → Denies (ended level table s)
    unfolding run walk_rules step_over
    lost zero table s off = λ near. absurd near
    lost (suc n) table s off =
        subst Denies (sym (first n table s)) (by (entry 1 m (place_in own table n)) (λ next t. lost n next t))
      where
        still : (e : ℕ) → right_of write (joined s e) ≡ false
        still e = joined-right write s e ∙ rw off

        by : (f : Fetched) → ((next : ℕ) (t : Rights) → right_of write t ≡ false → Denies (ended n next t))
            → Denies (after n (on_fetch f (done (fault 0x07 fpd)) (step (suc n) (place_in own table n) s)))
        by missing ih = λ near. absurd near
        by (found e) ih =
            step-cases registers fpd (suc n) (place_in own table n) s e (λ x. Denies (after n x))
            (λ none near. refl)
            (λ any set near. absurd near)
            (λ any free none near. refl)
            (λ any free left leaf near. rw (still e))
            (λ any free left more. ih (in_place e 51 12) (joined s e) (still e))

    -- the untranslated walk ends as a completion says
    abbrev Told : Completion → plain.Translation → Type 0
    Told c t = Near own address c → t ≡ told write fpd c

    abbrev walk : (level table : ℕ) → plain.Translation
    walk level table = run (plain.page_rules registers address write fpd level table) m

    -- what is left of it after a step
    abbrev walk_after : (n : ℕ) → Step (Unit {0}) plain.Translation → plain.Translation
    walk_after n x = on_step x (λ t. t) (λ next t. walk n next)

    -- both read the same entry
    placed : (n table : ℕ) (c : Completion) → Within (suc n) c → Near own address c → place_in own table n ≡ place_in address table n
    placed n table (page frame level rights) is near = same_place own address table n level is.0 is.1 near
    placed n table empty is near = ap (λ (a : ℕ). place_in a table n) near
    placed n table (fault reason f) is near = absurd near

    pub walks-alike : (level table : ℕ) (s : Rights) → right_of write s ≡ true → Told (ended level table s) (walk level table)
    unfolding run walk_rules step_over
    walks-alike zero table s on near = absurd near
    walks-alike (suc n) table s on near =
        let here = placed n table (ended (suc n) table s) (within (suc n) table s) near in
        walk_step_lem address (λ s. plain.fault 0x07 fpd) (plain.page_step registers address write fpd) m n table tt
        ∙ ap (λ (p : ℕ). walk_after n (on_fetch (entry 1 m p) (done (plain.fault 0x07 fpd)) (plain.page_step registers address write fpd (suc n) p tt))) (sym here)
        ∙ by (entry 1 m (place_in own table n)) (λ next t. walks-alike n next t) (subst (Near own address) (first n table s) near)
        ∙ ap (told write fpd) (sym (first n table s))
      where
        same-own : (e : ℕ) → right_of write (joined s e) ≡ own_right write e
        same-own e = joined-right write s e ∙ rw on

        -- an entry that the joined walk takes, by whether it has this right
        ends : (e : ℕ) → any_set e 1 0 ≡ true → page_reserved registers (suc n) e ≡ false → leaf_at (suc n) e ≡ true
            → (has : Bool) → own_right write e ≡ has
            → walk_after n (plain.page_step registers address write fpd (suc n) (place_in own table n) tt e)
            ≡ told write fpd (page (in_place e 51 12) (suc n) (joined s e))
        ends e any free leaf true is = rw (check-own registers write (suc n) e any free is, leaf, same-own e, is)
        ends e any free leaf false is = rw (check-lost registers write (suc n) e any free is, same-own e, is)

        leads : ((next : ℕ) (t : Rights) → right_of write t ≡ true → Told (ended n next t) (walk n next))
            → (e : ℕ) → any_set e 1 0 ≡ true → page_reserved registers (suc n) e ≡ false → leaf_at (suc n) e ≡ false
            → (has : Bool) → own_right write e ≡ has
            → Told (ended n (in_place e 51 12) (joined s e))
            (walk_after n (plain.page_step registers address write fpd (suc n) (place_in own table n) tt e))
        leads ih e any free more true is near =
            rw (check-own registers write (suc n) e any free is, more) (ih (in_place e 51 12) (joined s e) (same-own e ∙ is) near)
        leads ih e any free more false is near =
            rw (check-lost registers write (suc n) e any free is)
            (sym (lost n (in_place e 51 12) (joined s e) (same-own e ∙ is) near))

        by : (f : Fetched) → ((next : ℕ) (t : Rights) → right_of write t ≡ true → Told (ended n next t) (walk n next))
            → Told (after n (on_fetch f (done (fault 0x07 fpd)) (step (suc n) (place_in own table n) s)))
            (walk_after n (on_fetch f (done (plain.fault 0x07 fpd)) (plain.page_step registers address write fpd (suc n) (place_in own table n) tt)))
        by missing ih = λ near. absurd near
        by (found e) ih =
            step-cases registers fpd (suc n) (place_in own table n) s e
            (λ x. Told (after n x) (walk_after n (plain.page_step registers address write fpd (suc n) (place_in own table n) tt e)))
            (λ none near. rw (check-clear registers write (suc n) e none))
            (λ any set near. absurd near)
            (λ any free none near. rw (check-lost registers write (suc n) e any free (sym (same-own e) ∙ none_left write (joined s e) none)))
            (λ any free left leaf near. ends e any free leaf (own_right write e) refl)
            (λ any free left more. leads ih e any free more (own_right write e) refl)
