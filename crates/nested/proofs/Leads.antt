-- What a walk of the second level tells of a position: the page itself, where the position's entry is, or a fault.
use Prim.Native.Nat.{ℕ, ◌+◌, ◌%◌, ◌<◌, ◌≤◌}
use mathlib.Core.Bool.{Bool, true, false, ◌||◌}
use mathlib.Core.List.{List}
use mathlib.Core.Path.{◌≡◌, refl}
use native.Mathlib.Omega.{arith}
use borrow.Author.Tests.{ne_eqb}
use lib.Dec.{eqb}
use lib.ListN.{take}
use Rattle.image.specs.Memory.{Memory}
use Rattle.image.specs.Place.{entry_at, last_tried}
use Rattle.image.specs.Rules.{Rules, run}
use Rattle.image.proofs.Choices.{above_zero}
use Rattle.std.specs.Prelude.{Ok, Err}
use Rattle.std.specs.declared.ops.ControlFlow.TheVariants.{Continue, Break}
use Rattle.dma.specs.Page.{host_address}
use Rattle.faults.specs.declared.stop.Stop.{Stop}
use Rattle.pasid.specs.Reason.{number_of}
use Rattle.pasid.specs.declared.reason.ScalableReason.{ScalableReason}
use Rattle.second.specs.Second.{Walked, page, fault as no_page, Reachable}
use Rattle.nested.specs.Pages.{FirstHanded, first_handed, intermediate_rules}
use Rattle.nested.specs.Positions.{place_at, wanted_at, PositionFits, WayTells}
use Rattle.nested.specs.declared.position.Position.{Position}
use Rattle.nested.specs.declared.position.Walk.{Walk}
use Rattle.nested.proofs.Nested.{host-aligned}
use Rattle.nested.proofs.Rests.{nested, page-found, entry_found, faulted, faulted-at}

module _ (w : Walk) (s : Position) (m : Memory) (before after : List ℕ) (place : ℕ) where
  abbrev given : FirstHanded
  given = first_handed s.top (take s.count before)

  -- what the second level is asked for
  abbrev asked : Rules Walked
  asked = intermediate_rules w.space.registers w.space.entry (wanted_at w.space.entry w.asked.write s.level) place (take s.count before)

  -- a page at a host address: at level 0 the one that is looked for, above it the one that the entry is in
  abbrev pub PageTells : (frame level host : ℕ) (writable : Bool) (count : ℕ) → Type 0
  PageTells frame level host writable count =
      (s.level ≡ 0 → WayTells (Ok (Break (record { frame = frame; level = level; host = host; count = count }))) w s m before after)
      × ((s.level ≡ 0 → ⊥) → WayTells (Ok (Continue (record { at = host; writable = writable; count = count }))) w s m before after)

  module _ (is : place ≡ place_at w.asked.address s.level s.at) (second : (eqb s.level 0 || eqb w.space.entry.kind 3) ≡ true) where
    pub page-tells : PositionFits w.space.entry s → (0 < s.level → place % 8 ≡ 0) → {frame level host count : ℕ} {writable : Bool}
        → host ≡ host_address level frame place → page frame level writable (take count after) ≡ run asked m
        → Reachable (page frame level writable (take count after)) → count ≤ s.count + 6
        → PageTells frame level host writable count
    page-tells fits aligned {frame} {level} {host} {count} {writable} there told reach few = (λ none. found none, λ other. inside (ne_eqb s.level 0 other))
      where
        found : s.level ≡ 0 → WayTells (Ok (Break (record { frame = frame; level = level; host = host; count = count }))) w s m before after
        found none = (
          rw there
              (page-found w.space.registers w.space.entry w.asked.address w.asked.write m s.level s.at place given is none told),
          refl,
          (reach.0, reach.1, reach.2),
          omega (arith, few, (fits.1 none).1),
        )

        inside : eqb s.level 0 ≡ false → WayTells (Ok (Continue (record { at = host; writable = writable; count = count }))) w s m before after
        inside other =
            let more = above_zero s.level other in
            let fine = host-aligned level frame place reach.1 reach.2 reach.0 reach.3 (aligned more) in
            let three = nested w.space.registers w.space.entry w.asked.address w.asked.write s.level other second in (
              more,
              rw there fine.0,
              rw there fine.1,
              few,
              rw there
                  (entry_found w.space.registers w.space.entry w.asked.address w.asked.write m s.level s.at place given is more three told),
            )

    pub fault-tells : (e : Stop ScalableReason) → no_page (number_of e.reason) e.fpd ≡ run asked m
        → entry_at e.at ≡ last_tried (entry_at s.last) asked m → WayTells (Err e) w s m before after
    fault-tells e told there = (
      faulted w.space.registers w.space.entry w.asked.address w.asked.write m s.level s.at place given is second told,
      faulted-at w.space.registers w.space.entry w.asked.address w.asked.write m s.level s.at place given is second told (entry_at s.last) there,
      tt,
      tt,
    )
