-- Laws of the lookup of a PASID table entry: what follows it, and what is known of an entry that it finds.
use Prim.Native.Nat.{ℕ, ◌+◌, ◌≤◌}
use mathlib.Core.Bool.{Bool, true, false, not, ◌&&◌, ◌||◌}
use mathlib.Core.Path.{◌≡◌, refl}
use native.Mathlib.Omega.{arith}
use borrow.Author.Tests.{eqb-true}
use lib.Dec.{eqb}
use Rattle.image.specs.Bits.{bits, bit, any_set}
use Rattle.image.specs.Check.{go}
use Rattle.std.specs.Prelude.{if◌then◌else◌}
use Rattle.image.specs.Memory.{Memory}
use Rattle.image.specs.Place.{Place, last_tried}
use Rattle.image.specs.Rules.{run}
use Rattle.image.proofs.Trees.{Outside}
use Rattle.image.proofs.Choices.{past, neither}
use Rattle.image.proofs.Forks.{every-outside, every-run}
use Rattle.dma.specs.Context.{width_supported}
use Rattle.pasid.specs.Table.{feature_reserved, pointers_reserved, table_reserved, type_supported, mode_supported, table_invalid, pasid_entry_of, table_check}
use Rattle.pasid.specs.declared.Pasid.{Pasid}
use Rattle.pasid.specs.declared.ScalableRegisters.{ScalableRegisters}
use Rattle.pasid.specs.declared.table.PasidEntry.{PasidEntry}
use Rattle.scalable.specs.Lookup.{Lookup, lookup_rules}
use Rattle.scalable.specs.Requests.{without_entry, looked_up, translation_rules, Walkable}
use Rattle.nested.proofs.Thens.{Ends, run-then, tried_then}
use Rattle.scalable.proofs.Forks.{Absent, FoundSo, when-absent, lookup-forks, any-lookup}
use Rattle.scalable.proofs.Tables.{below-haw, first_below}

module _ (r : ScalableRegisters) (address : ℕ) (write : Bool) where
  abbrev Last : Lookup → Type 0
  Last = Ends without_entry (looked_up r address write)

  -- all that the lookup answers to an entry that can't be fetched is a fault
  outside : (pasid : Pasid) (source : ℕ) → Outside Last (lookup_rules r pasid source)
  outside pasid source =
      every-outside Absent (FoundSo (λ p. Unit {0})) Last (when-absent Last (λ reason fpd h. refl)) 15 (lookup_rules r pasid source)
      (any-lookup r pasid source)

  module _ (pasid : Pasid) (source : ℕ) (m : Memory) where
    pub looked-up : run (translation_rules r address write pasid source) m
        ≡ run (looked_up r address write (run (lookup_rules r pasid source) m)) m
    looked-up = run-then without_entry (looked_up r address write) (lookup_rules r pasid source) m (outside pasid source)

    pub looked-up-at : (before : Place) → last_tried before (translation_rules r address write pasid source) m
        ≡ last_tried (last_tried before (lookup_rules r pasid source) m) (looked_up r address write (run (lookup_rules r pasid source) m)) m
    looked-up-at before = tried_then without_entry (looked_up r address write) before (lookup_rules r pasid source) m (outside pasid source)

-- what the check ensures of an entry that it lets pass
module _ (r : ScalableRegisters) (low : r.base.haw ≤ 52) where
  -- PGTT is 1 or 3 where it isn't 2 or 4
  has_first : (pgtt : ℕ) → not (type_supported r pgtt) ≡ false → (pgtt ≡ 4 → ⊥) → (pgtt ≡ 2 → ⊥) → (eqb pgtt 1 || eqb pgtt 3) ≡ true
  has_first pgtt h not-4 not-2 = one (eqb pgtt 1) refl h
    where
      four : (t : Bool) → eqb pgtt 4 ≡ t → not (if t then r.pt else false) ≡ false → ◌≡◌ {A = Bool} false true
      four true q h = absurd (not-4 (eqb-true pgtt 4 q))
      four false q h = let z : ◌≡◌ {A = ℕ} 0 1 = cc in absurd (omega arith)

      three : (t : Bool) → eqb pgtt 3 ≡ t → not (if t then r.nest else if eqb pgtt 4 then r.pt else false) ≡ false → t ≡ true
      three true q h = refl
      three false q h = four (eqb pgtt 4) refl h

      two : (t : Bool) → eqb pgtt 2 ≡ t
          → not (if t then r.slts else if eqb pgtt 3 then r.nest else if eqb pgtt 4 then r.pt else false) ≡ false → eqb pgtt 3 ≡ true
      two true q h = absurd (not-2 (eqb-true pgtt 2 q))
      two false q h = three (eqb pgtt 3) refl h

      one : (t : Bool) → eqb pgtt 1 ≡ t
          → not (if t then r.flts else if eqb pgtt 2 then r.slts else if eqb pgtt 3 then r.nest else if eqb pgtt 4 then r.pt else false) ≡ false
          → (t || eqb pgtt 3) ≡ true
      one true q h = refl
      one false q h = two (eqb pgtt 2) refl h

  mode : (flpm : ℕ) → not (mode_supported r flpm) ≡ false → flpm ≤ 1
  mode flpm h = none (eqb flpm 0) refl h
    where
      some : (t : Bool) → eqb flpm 1 ≡ t → not (t && r.fl5lp) ≡ false → flpm ≤ 1
      some true q h = omega (arith, eqb-true flpm 1 q)
      some false q h = let z : ◌≡◌ {A = ℕ} 0 1 = cc in absurd (omega arith)

      none : (t : Bool) → eqb flpm 0 ≡ t → not (t || eqb flpm 1 && r.fl5lp) ≡ false → flpm ≤ 1
      none true q h = omega (arith, eqb-true flpm 0 q)
      none false q h = some (eqb flpm 1) refl h

  width : (aw : ℕ) → not (width_supported r.base aw) ≡ false → aw ≤ 3
  width aw h = one (eqb aw 1) refl h
    where
      three : (t : Bool) → eqb aw 3 ≡ t → not (if t then r.base.levels5 else false) ≡ false → aw ≤ 3
      three true q h = omega (arith, eqb-true aw 3 q)
      three false q h = let z : ◌≡◌ {A = ℕ} 0 1 = cc in absurd (omega arith)

      two : (t : Bool) → eqb aw 2 ≡ t → not (if t then r.base.levels4 else if eqb aw 3 then r.base.levels5 else false) ≡ false → aw ≤ 3
      two true q h = omega (arith, eqb-true aw 2 q)
      two false q h = three (eqb aw 3) refl h

      one : (t : Bool) → eqb aw 1 ≡ t
          → not (if t then r.base.levels3 else if eqb aw 2 then r.base.levels4 else if eqb aw 3 then r.base.levels5 else false) ≡ false → aw ≤ 3
      one true q h = omega (arith, eqb-true aw 1 q)
      one false q h = two (eqb aw 2) refl h

  pub walkable : (privileged fpd : Bool) (e : ℕ) {p : PasidEntry} → table_check r privileged fpd e ≡ go p → Walkable p
  unfolding table_check table_invalid table_reserved pointers_reserved
  walkable privileged fpd e {p} h =
      let h1 = past (not (bit e 0)) 0x59 _ p h in
      let h2 = past (table_reserved r e) 0x5A _ p h1.1 in
      let h3 = past (table_invalid r e) 0x5B _ p h2.1 in
      let h4 = past (privileged && not (bit e 128)) 0x5D _ p h3.1 in
      let says : go (pasid_entry_of privileged fpd e) ≡ go p = h4.1 in
      let is : p ≡ pasid_entry_of privileged fpd e = cc in
      let kinds = not (type_supported r (bits e 8 6)) in
      let widths = (eqb (bits e 8 6) 2 || eqb (bits e 8 6) 3) && not (width_supported r.base (bits e 4 2)) in
      let modes = (eqb (bits e 8 6) 1 || eqb (bits e 8 6) 3) && not (mode_supported r (bits e 131 130)) in
      let valid = neither (kinds || widths) modes h3.0 in
      let parts = neither kinds widths valid.0 in
      let others = any_set e 11 10 || any_set e 86 80 || any_set e 139 136 || any_set e 511 192 in
      let pointers = any_set e 63 r.base.haw || any_set e 191 (128 + r.base.haw) in
      let clear = neither (any_set e 63 r.base.haw) (any_set e 191 (128 + r.base.haw)) (neither others pointers (neither (others || pointers) (feature_reserved r e) h2.0).0).1 in
      rw is
      (λ not-4. (
        λ two.
            let aw : not (width_supported r.base (bits e 4 2)) ≡ false = rw two at parts.1 in
            (omega arith, omega (arith, width (bits e 4 2) aw), omega arith, below-haw r.base.haw e low clear.0),
        λ not-2.
            let flpm : not (mode_supported r (bits e 131 130)) ≡ false = rw (has_first (bits e 8 6) parts.0 not-4 not-2) at valid.1 in (
              omega arith,
              omega (arith, mode (bits e 131 130) flpm),
              omega arith,
              first_below r.base.haw e low clear.1,
              λ three.
                  let aw : not (width_supported r.base (bits e 4 2)) ≡ false = rw three at parts.1 in
                  (omega arith, omega (arith, width (bits e 4 2) aw), omega arith, below-haw r.base.haw e low clear.0),
            ),
      ))

  abbrev pub Finds : Lookup → Type 0
  Finds = FoundSo Walkable

  pub finds : (pasid : Pasid) (source : ℕ) (m : Memory) → Finds (run (lookup_rules r pasid source) m)
  finds pasid source m =
      every-run Absent Finds (when-absent Finds (λ reason fpd h. tt)) 15 (lookup_rules r pasid source) m (lookup-forks r Walkable (λ privileged fpd e p. walkable privileged fpd e) pasid source)
