-- The second-level walk keeps its page where rights are switched on: frame, level and flags are the same, and a page that could be written
-- still can.
use Prim.Native.Nat.{ℕ, ◌*◌, ◌%◌, ◌≤◌}
use mathlib.Core.Bool.{Bool, true, false, not, ◌&&◌, ◌||◌}
use mathlib.Core.List.{List, ◌++◌}
use mathlib.Core.Path.{◌≡◌, refl, ap, ap₂, sym, ◌∙◌}
use native.Mathlib.Omega.{arith}
use Rattle.image.specs.Bits.{bit, in_place}
use Rattle.std.specs.Prelude.{if◌then◌else◌}
use Rattle.dma.specs.Page.{leaf_at, page_reserved}
use Rattle.dma.specs.Walk.{Step, done, down}
use Rattle.dma.proofs.Raised.{Raised, same-field, same-leaf}
use Rattle.pasid.specs.declared.ScalableRegisters.{ScalableRegisters}
use Rattle.pasid.specs.declared.table.PasidEntry.{PasidEntry}
use Rattle.second.specs.Second.{Walked, page, fault, SecondHanded, readable, writable, handed_on, second_flags, flags_not_snooped, second_step, no_second_entry, second_rules, at_top}
use Rattle.second.specs.declared.step.Wanted.{Wanted}
use Rattle.rights.proofs.Kept.{Keeps}
use Rattle.rights.proofs.Raised.{Goes, goes-and, goes-or, lacking, goes-read, goes-write}
use Rattle.rights.proofs.Walks.{StepKeeps, keeps-walk}

abbrev pub WalkedKept : Walked → Walked → Type 0
WalkedKept (page frame level writable flags) (page frame' level' writable' flags') =
    (frame ≡ frame') × (level ≡ level') × Goes writable writable' × (flags ≡ flags') × (frame % 8 ≡ 0)
WalkedKept (page frame level writable flags) (fault reason fpd) = ⊥
WalkedKept (fault reason fpd) w = Unit {0}

abbrev pub WalkedDead : Walked → Type 0
WalkedDead (page frame level writable flags) = ⊥
WalkedDead (fault reason fpd) = Unit {0}

pub walked_all : (a b : Walked) → WalkedDead a → WalkedKept a b
walked_all (page frame level writable flags) b dead = absurd dead
walked_all (fault reason fpd) b dead = tt

abbrev HandedKept : SecondHanded → SecondHanded → Type 0
HandedKept s s' = Goes s.read s'.read × Goes s.write s'.write × (s.flags ≡ s'.flags)

abbrev Stepped : Step SecondHanded Walked → Step SecondHanded Walked → Type 0
Stepped = StepKeeps Raised WalkedKept WalkedDead walked_all HandedKept

-- past a test that ends the first walk or lets both go on
tested : (b b' : Bool) (reason reason' : ℕ) (fpd fpd' : Bool) (x y : Step SecondHanded Walked) → (b ≡ false → b' ≡ false) → Stepped x y
    → Stepped (if b then done (fault reason fpd) else x) (if b' then done (fault reason' fpd') else y)
tested true true reason reason' fpd fpd' x y on h = tt
tested true false reason reason' fpd fpd' x (done b) on h = tt
tested true false reason reason' fpd fpd' x (down table s) on h = tt
tested false true reason reason' fpd fpd' x y on h = let z : true ≡ false = on refl in let w : ◌≡◌ {A = ℕ} 0 1 = cc in absurd (omega arith)
tested false false reason reason' fpd fpd' x y on h = h

module _ (r : ScalableRegisters) (haw : 2 ≤ r.base.haw) (p : PasidEntry) where
  module _ {e e' : ℕ} (raised : Raised e e') where
    same-reserved : (level : ℕ) → page_reserved r.base level e' ≡ page_reserved r.base level e
    unfolding page_reserved
    same-reserved level =
        let same = same-field e e' raised.other-bits in
        rw (same 51 r.base.haw haw, same 7 7 (omega arith), same 29 12 (omega arith), same 20 12 (omega arith))

    same-snooped : (dirty : Bool) (level : ℕ) → flags_not_snooped r p dirty level e' ≡ flags_not_snooped r p dirty level e
    same-snooped dirty level =
        let same = same-field e e' raised.other-bits in
        rw (same 8 8 (omega arith), same 9 9 (omega arith), same 7 7 (omega arith))

    same_flags : (dirty : Bool) (place : ℕ) → second_flags p dirty place e ≡ second_flags p dirty place e'
    same_flags dirty place =
        let same = same-field e e' raised.other-bits in
        rw (same 8 8 (omega arith), same 9 9 (omega arith))

  second-step : (wanted : Wanted) (level place : ℕ) (s s' : SecondHanded) (e e' : ℕ) → HandedKept s s' → Raised e e'
      → Stepped (second_step r p wanted level place s e) (second_step r p wanted level place s' e')
  second-step wanted level place s s' e e' held up =
      let read = goes-and s.read s'.read (bit e 0) (bit e' 0) held.0 (goes-read up) in
      let write = goes-and s.write s'.write (bit e 1) (bit e' 1) held.1 (goes-write up) in
      tested (not (readable s e || writable s e)) (not (readable s' e' || writable s' e')) 0x79 0x79 p.fpd p.fpd _ _
      (goes-or (readable s e) (readable s' e') (writable s e) (writable s' e') read write)
      (tested (page_reserved r.base level e) (page_reserved r.base level e') 0x7A 0x7A p.fpd p.fpd _ _ (λ h. same-reserved up level ∙ h)
      (tested (flags_not_snooped r p wanted.write level e) (flags_not_snooped r p wanted.write level e') 0x7C 0x7C p.fpd p.fpd _ _
      (λ h. same-snooped up wanted.write level ∙ h)
      (tested (wanted.write && not (bit e 1)) (wanted.write && not (bit e' 1)) 0x85 0x85 p.fpd p.fpd _ _
      (lacking wanted.write (bit e 1) (bit e' 1) (goes-write up))
      (tested (wanted.read && not (bit e 0)) (wanted.read && not (bit e' 0)) 0x86 0x86 p.fpd p.fpd _ _
      (lacking wanted.read (bit e 0) (bit e' 0) (goes-read up))
      (rw (same-leaf up level) (by (leaf_at level e) read write))))))
    where
      frames : in_place e 51 12 ≡ in_place e' 51 12
      frames = ap (λ (n : ℕ). n * 4096) (sym (same-field e e' up.other-bits 51 12 (omega arith)))

      joined : (dirty : Bool) → s.flags ++ second_flags p dirty place e ≡ s'.flags ++ second_flags p dirty place e'
      joined dirty = ap₂ ◌++◌ held.2 (same_flags up dirty place)

      by : (leaf : Bool) → Goes (readable s e) (readable s' e') → Goes (writable s e) (writable s' e')
          → Stepped
          (if leaf then done (page (in_place e 51 12) level (writable s e) (s.flags ++ second_flags p wanted.write place e))
          else down (in_place e 51 12) (handed_on s e (second_flags p false place e)))
          (if leaf then done (page (in_place e' 51 12) level (writable s' e') (s'.flags ++ second_flags p wanted.write place e'))
          else down (in_place e' 51 12) (handed_on s' e' (second_flags p false place e')))
      by true read write = (frames, refl, write, joined wanted.write, omega arith)
      by false read write = (frames, omega arith, (read, write, joined false))

  pub second-kept : (wanted : Wanted) (address level table : ℕ) (flags flags' : List ℕ) → table % 8 ≡ 0 → flags ≡ flags'
      → Keeps Raised WalkedKept WalkedDead (second_rules r p wanted address level table (at_top flags))
      (second_rules r p wanted address level table (at_top flags'))
  second-kept wanted address level table flags flags' aligned same =
      keeps-walk Raised WalkedKept WalkedDead walked_all HandedKept address (no_second_entry r p wanted) (second_step r p wanted)
      (λ s s' held. tt) (second-step wanted) level table (at_top flags) (at_top flags') aligned (λ h. h, λ h. h, same)
