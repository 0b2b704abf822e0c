-- First-level and nested translation keep what they reach where rights are switched on: page, host address and flags.
use Prim.Native.Nat.{ℕ, suc, ◌+◌, ◌-◌, ◌*◌, ◌%◌, ◌≤◌}
use mathlib.Core.Bool.{Bool, true, false}
use mathlib.Core.List.{List, [], ◌++◌}
use mathlib.Core.Path.{◌≡◌, refl, ap, sym, ◌∙◌}
use native.Mathlib.Omega.{arith}
use native.Mathlib.Nat.{div-one}
use lib.Dec.{eqb}
use lib.Pow.{mod-mod-pow}
use Rattle.image.specs.Bits.{bits}
use Rattle.std.specs.Prelude.{if◌then◌else◌}
use Rattle.image.specs.EntryKind.{first_level_entry}
use Rattle.image.specs.Rules.{Rules, answer, map_rules}
use Rattle.dma.specs.Page.{host_address}
use Rattle.dma.specs.Translation.{overflows}
use Rattle.dma.specs.Walk.{Step, done, down}
use Rattle.dma.proofs.Raised.{Raised}
use Rattle.pasid.specs.declared.ScalableRegisters.{ScalableRegisters}
use Rattle.pasid.specs.declared.table.PasidEntry.{PasidEntry}
use Rattle.first.specs.First.{FirstStep, first_step, on_first}
use Rattle.first.specs.First as first
use Rattle.second.specs.Second.{Walked, page, fault as no_page, at_top, second_rules}
use Rattle.second.specs.declared.step.Wanted.{Wanted}
use Rattle.nested.specs.Pages.{Pages, reached, fault, FirstHanded, first_handed, entry_flags, no_first_entry, wanted_of_entry, wanted_of_page, to_entry, to_page, intermediate_rules, locate, host_page_rules, walk_step, pages_rules}
use Rattle.nested.specs.Way.{Located, located}
use Rattle.rights.proofs.First.{FirstKept, same-clear, first-kept}
use Rattle.rights.proofs.Kept.{Keeps, keeps-answer, keeps-dead, keeps-map, keeps_then}
use Rattle.rights.proofs.Raised.{Goes}
use Rattle.rights.proofs.Second.{WalkedKept, WalkedDead, second-kept}
use Rattle.rights.proofs.Walks.{StepKeeps, WayKeeps, WayDead, keeps-way}

abbrev pub PagesKept : Pages → Pages → Type 0
PagesKept (reached frame level host flags) b = b ≡ reached frame level host flags
PagesKept (fault reason fpd) b = Unit {0}

abbrev pub PagesDead : Pages → Type 0
PagesDead (reached frame level host flags) = ⊥
PagesDead (fault reason fpd) = Unit {0}

pub pages-all : (a b : Pages) → PagesDead a → PagesKept a b
pages-all (reached frame level host flags) b dead = absurd dead
pages-all (fault reason fpd) b dead = tt

abbrev HandedKept : FirstHanded → FirstHanded → Type 0
HandedKept s s' = Goes s.writable s'.writable × (s.flags ≡ s'.flags)

pub to-page : (host : ℕ) (a b : Walked) → WalkedKept a b → PagesKept (to_page host a) (to_page host b)
to-page host (page frame level writable flags) (page frame' level' writable' flags') h = rw (h.0, h.1, h.3)
to-page host (page frame level writable flags) (no_page reason fpd) h = absurd h
to-page host (no_page reason fpd) b h = tt

pub page-lost : (host : ℕ) (a : Walked) → WalkedDead a → PagesDead (to_page host a)
page-lost host (page frame level writable flags) dead = absurd dead
page-lost host (no_page reason fpd) dead = tt

-- an address in a page that begins at a multiple of 8 is one where it was one
low_bits : (place n : ℕ) → place % 8 ≡ 0 → bits place (11 + n) 0 % 8 ≡ 0
unfolding bits
low_bits place n aligned =
    let wide : suc (11 + n) - 0 ≡ (9 + n) + 3 = omega arith in
    rw (wide, div-one place) (mod-mod-pow place (9 + n) 3 ∙ aligned)

multiples : (a b : ℕ) → a % 8 ≡ 0 → b % 8 ≡ 0 → (a + b) % 8 ≡ 0
multiples a b first second = omega arith

aligned-host : (level frame place : ℕ) → frame % 8 ≡ 0 → place % 8 ≡ 0 → host_address level frame place % 8 ≡ 0
aligned-host level frame place first second =
    multiples frame (bits place (11 + 9 * (level - 1)) 0) first (low_bits place (9 * (level - 1)) second)

module _ (r : ScalableRegisters) (haw : 2 ≤ r.base.haw) (p : PasidEntry) (second-top : p.second_top % 8 ≡ 0) where
  intermediate-kept : (wanted : Wanted) (address : ℕ) (flags flags' : List ℕ) → flags ≡ flags'
      → Keeps Raised WalkedKept WalkedDead (intermediate_rules r p wanted address flags) (intermediate_rules r p wanted address flags')
  unfolding intermediate_rules
  intermediate-kept wanted address flags flags' same = by (overflows r.base p.second_levels address)
    where
      by : (over : Bool)
          → Keeps Raised WalkedKept WalkedDead
          (if over then answer (no_page 0x74 p.fpd) else second_rules r p wanted address p.second_levels p.second_top (at_top flags))
          (if over then answer (no_page 0x74 p.fpd) else second_rules r p wanted address p.second_levels p.second_top (at_top flags'))
      by true = keeps-answer Raised WalkedKept WalkedDead _ _ tt
      by false = second-kept r haw p wanted address p.second_levels p.second_top flags flags' second-top same

  abbrev Ways : Located FirstHanded Pages → Located FirstHanded Pages → Type 0
  Ways = WayKeeps Raised PagesKept PagesDead pages-all HandedKept

  abbrev Lost : Located FirstHanded Pages → Type 0
  Lost = WayDead Raised PagesKept PagesDead pages-all HandedKept

  to-entry : (top top' : Bool) (place : ℕ) → place % 8 ≡ 0 → (a b : Walked) → WalkedKept a b → Ways (to_entry top place a) (to_entry top' place b)
  to-entry top top' place aligned (page frame level writable flags) (page frame' level' writable' flags') h =
      (rw (h.0, h.1), aligned-host level frame place h.4 aligned, (h.2, h.3))
  to-entry top top' place aligned (page frame level writable flags) (no_page reason fpd) h = absurd h
  to-entry top top' place aligned (no_page reason fpd) (page frame level writable flags) h = tt
  to-entry top top' place aligned (no_page reason fpd) (no_page reason' fpd') h = tt

  entry-lost : (top : Bool) (place : ℕ) (a : Walked) → WalkedDead a → Lost (to_entry top place a)
  entry-lost top place (page frame level writable flags) dead = absurd dead
  entry-lost top place (no_page reason fpd) dead = tt

  located-kept : (s s' : FirstHanded) (place : ℕ) → place % 8 ≡ 0 → HandedKept s s' → Keeps Raised Ways Lost (locate r p s place) (locate r p s' place)
  unfolding locate
  located-kept s s' place aligned held = by (eqb p.kind 3)
    where
      by : (nested : Bool)
          → Keeps Raised Ways Lost
          (if nested then map_rules (to_entry s.top place) (intermediate_rules r p (wanted_of_entry p) place s.flags) else answer (located place s))
          (if nested then map_rules (to_entry s'.top place) (intermediate_rules r p (wanted_of_entry p) place s'.flags) else answer (located place s'))
      by true =
          keeps-map Raised WalkedKept WalkedDead Ways Lost (to_entry s.top place) (to_entry s'.top place) (to-entry s.top s'.top place aligned)
          (entry-lost s.top place) _ _ (intermediate-kept (wanted_of_entry p) place s.flags s'.flags held.1)
      by false = keeps-answer Raised Ways Lost _ _ (refl, aligned, held)

  page-kept : (write : Bool) (a b : Pages) → PagesKept a b → Keeps Raised PagesKept PagesDead (host_page_rules r p write a) (host_page_rules r p write b)
  unfolding host_page_rules
  page-kept write (fault reason fpd) b h = keeps-dead Raised PagesKept PagesDead pages-all (fault reason fpd) tt (host_page_rules r p write b)
  page-kept write (reached frame level host flags) b h = rw h (by (eqb p.kind 3))
    where
      by : (nested : Bool)
          → Keeps Raised PagesKept PagesDead
          (if nested then map_rules (to_page host) (intermediate_rules r p (wanted_of_page write) host flags) else answer (reached frame level host flags))
          (if nested then map_rules (to_page host) (intermediate_rules r p (wanted_of_page write) host flags) else answer (reached frame level host flags))
      by true =
          keeps-map Raised WalkedKept WalkedDead PagesKept PagesDead (to_page host) (to_page host) (to-page host) (page-lost host) _ _
          (intermediate-kept (wanted_of_page write) host flags flags refl)
      by false = keeps-answer Raised PagesKept PagesDead _ _ refl

  page-dead : (write : Bool) (a : Pages) → PagesDead a → (q : Rules Pages) → Keeps Raised PagesKept PagesDead (host_page_rules r p write a) q
  unfolding host_page_rules
  page-dead write (reached frame level host flags) dead q = absurd dead
  page-dead write (fault reason fpd) dead q = keeps-dead Raised PagesKept PagesDead pages-all (fault reason fpd) tt q

  module _ (address : ℕ) (write : Bool) where
    abbrev Stepped : Step FirstHanded Pages → Step FirstHanded Pages → Type 0
    Stepped = StepKeeps Raised PagesKept PagesDead pages-all HandedKept

    step_kept : (level place : ℕ) (s s' : FirstHanded) (e e' : ℕ) → HandedKept s s' → Raised e e'
        → Stepped (walk_step r p address write level place s e) (walk_step r p address write level place s' e')
    step_kept level place s s' e e' held up =
        by (first_step r p write s.writable level e) (first_step r p write s'.writable level e')
        (first-kept r haw p write up s.writable s'.writable level held.0)
      where
        on : FirstHanded → (e : ℕ) → FirstStep → Step FirstHanded Pages
        on s e x =
            on_first x (λ table. down table (first_handed false (s.flags ++ entry_flags p write false place e)))
            (λ frame level. done (reached frame level (host_address level frame address) (s.flags ++ entry_flags p write true place e)))
            (λ reason fpd. done (fault reason fpd))

        -- rights are no flags
        same : (leaf : Bool) → s.flags ++ entry_flags p write leaf place e ≡ s'.flags ++ entry_flags p write leaf place e'
        same leaf = rw (same-clear r haw p write up leaf) (ap (λ (l : List ℕ). l ++ entry_flags p write leaf place e) held.1)

        stops : (reason : ℕ) (fpd : Bool) (y : FirstStep) → Stepped (done (fault reason fpd)) (on s' e' y)
        stops reason fpd (first.down table) = tt
        stops reason fpd (first.page frame level) = tt
        stops reason fpd (first.fault reason' fpd') = tt

        by : (x y : FirstStep) → FirstKept x y → Stepped (on s e x) (on s' e' y)
        by (first.down table) y h = rw h.0 (refl, h.1, (λ g. g, same false))
        by (first.page frame level) y h = rw h (ap (reached frame level (host_address level frame address)) (sym (same true)))
        by (first.fault reason fpd) y h = stops reason fpd y

    pub pages-kept : p.first_top % 8 ≡ 0 → Keeps Raised PagesKept PagesDead (pages_rules r p address write) (pages_rules r p address write)
    pages-kept first-top =
        keeps_then Raised PagesKept PagesDead PagesKept PagesDead (λ w. w) (λ w. w) (host_page_rules r p write) (host_page_rules r p write) (λ a b h. h)
        (page-kept write) (page-dead write) _ _
        (keeps-way Raised PagesKept PagesDead pages-all HandedKept address (no_first_entry p) (walk_step r p address write) (λ s s' held. tt) step_kept
        first_level_entry refl (locate r p) located-kept p.first_levels p.first_top (first_handed true []) (first_handed true []) first-top
        (λ h. h, refl))
