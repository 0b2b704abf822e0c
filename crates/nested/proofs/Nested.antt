-- Laws of intermediate addresses and of the way to a first-level entry.
use Prim.Native.Nat.{ℕ, zero, suc, ◌%◌, ◌^◌, ◌<◌, ◌≤◌}
use mathlib.Core.Bool.{true, false}
use mathlib.Core.List.{List}
use mathlib.Core.Path.{◌≡◌, sym}
use native.Mathlib.Nat.{div-one}
use native.Mathlib.Omega.{arith}
use borrow.Author.Tests.{eq-eqb, ne_eqb}
use Rattle.std.specs.Prelude.{Result, Ok, Err}
use Rattle.image.specs.Bits.{bits}
use Rattle.image.specs.Memory.{Memory}
use Rattle.image.specs.Place.{Place, last_tried}
use Rattle.image.specs.Rules.{Rules, run}
use Rattle.image.proofs.Places.{tried-map}
use Rattle.image.proofs.Trees.{Outside, run-map}
use Rattle.dma.specs.Page.{host_address}
use Rattle.dma.specs.Translation.{overflows}
use Rattle.faults.specs.declared.stop.Stop.{Stop}
use Rattle.pasid.specs.declared.ScalableRegisters.{ScalableRegisters}
use Rattle.pasid.specs.declared.reason.ScalableReason.{ScalableReason}
use Rattle.pasid.specs.declared.table.PasidEntry.{PasidEntry}
use Rattle.second.specs.Answers.{Grown}
use Rattle.second.specs.Second.{Walked, fault as no_page, at_top, second_rules}
use Rattle.second.specs.declared.step.Wanted.{Wanted}
use Rattle.second.specs.declared.step.Page.{Page}
use Rattle.nested.specs.Pages.{FirstHanded, wanted_of_entry, to_entry, intermediate_rules, locate}
use Rattle.nested.specs.Way.{located}
use Rattle.nested.proofs.Forks.{forks-outside, forks-locate}
use Rattle.nested.proofs.Ways.{IsLost}

-- the number of flags by a larger bound
pub grown-more : (w : Result Page (Stop ScalableReason)) (count most most' : ℕ) → most ≤ most' → Grown w count most → Grown w count most'
grown-more (Ok p) count most most' h g = (g.0, omega (arith, g.1))
grown-more (Err e) count most most' h g = tt

module _ (r : ScalableRegisters) (p : PasidEntry) (wanted : Wanted) (address : ℕ) (flags : List ℕ) where
  pub beyond : (m : Memory) → overflows r.base p.second_levels address ≡ true
      → no_page 0x74 p.fpd ≡ run (intermediate_rules r p wanted address flags) m
  unfolding intermediate_rules run
  beyond m h = rw h

  pub beyond-at : (m : Memory) (before : Place) → overflows r.base p.second_levels address ≡ true
      → before ≡ last_tried before (intermediate_rules r p wanted address flags) m
  unfolding intermediate_rules last_tried
  beyond-at m before h = rw h

  pub within : overflows r.base p.second_levels address ≡ false
      → second_rules r p wanted address p.second_levels p.second_top (at_top flags) ≡ intermediate_rules r p wanted address flags
  unfolding intermediate_rules
  within h = rw h

-- an entry stands at the address itself
pub itself : (r : ScalableRegisters) (p : PasidEntry) (s : FirstHanded) (place : ℕ) (m : Memory) → (p.kind ≡ 3 → ⊥) → located place s ≡ run (locate r p s place) m
unfolding locate run
itself r p s place m h = rw (ne_eqb p.kind 3 h)

-- or where the second level says
module _ (r : ScalableRegisters) (p : PasidEntry) (s : FirstHanded) (place : ℕ) (m : Memory) (is : p.kind ≡ 3) where
  abbrev way : Rules Walked
  way = intermediate_rules r p (wanted_of_entry p) place s.flags

  pub through : to_entry s.top place (run way m) ≡ run (locate r p s place) m
  unfolding locate
  through = rw (eq-eqb p.kind 3 is) (sym (run-map (to_entry s.top place) way m))

  pub through-at : (before : Place) → last_tried before way m ≡ last_tried before (locate r p s place) m
  unfolding locate
  through-at before = rw (eq-eqb p.kind 3 is) (sym (tried-map (to_entry s.top place) before way m))

-- an entry in a page of the second level is at a multiple of 8
pub host-aligned : (level frame place : ℕ) → 0 < level → level ≤ 3 → frame < 2 ^ 52 → frame % 4096 ≡ 0 → place % 8 ≡ 0
    → (host_address level frame place % 8 ≡ 0) × (host_address level frame place < 2 ^ 60)
unfolding bits
host-aligned zero frame place some few small aligned eight = absurd (omega arith)
host-aligned (suc zero) frame place some few small aligned eight = simp div-one (omega arith, omega arith)
host-aligned (suc (suc zero)) frame place some few small aligned eight = simp div-one (omega arith, omega arith)
host-aligned (suc (suc (suc zero))) frame place some few small aligned eight = simp div-one (omega arith, omega arith)
host-aligned (suc (suc (suc (suc n)))) frame place some few small aligned eight = absurd (omega arith)

-- an entry on the way that can't be fetched leads to no entry
pub no-entry : (r : ScalableRegisters) (p : PasidEntry) (s : FirstHanded) (place : ℕ) → Outside IsLost (locate r p s place)
no-entry r p s place =
    let most : ℕ = p.second_levels in
    forks-outside IsLost most (locate r p s place) (forks-locate r p most (λ three. omega arith) IsLost (λ top. tt) s place)
