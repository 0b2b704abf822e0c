-- A first-level entry whose rights are switched on goes on where it went on before, to the same table or page.
use Prim.Native.Nat.{ℕ, ◌+◌, ◌-◌, ◌*◌, ◌%◌, ◌^◌, ◌≤◌}
use mathlib.Core.Bool.{Bool, true, false, not, ◌&&◌, ◌||◌}
use mathlib.Core.Path.{◌≡◌, refl, ap, ◌∙◌}
use native.Mathlib.Omega.{arith}
use Rattle.image.specs.Bits.{bit, in_place}
use Rattle.std.specs.Prelude.{if◌then◌else◌}
use Rattle.dma.specs.Page.{leaf_at}
use Rattle.dma.proofs.Raised.{Raised, same-field, same-leaf}
use Rattle.pasid.specs.declared.ScalableRegisters.{ScalableRegisters}
use Rattle.pasid.specs.declared.table.PasidEntry.{PasidEntry}
use Rattle.first.specs.First.{FirstStep, down, page, fault, first_reserved, flag_clear, not_snooped, user_denied, write_denied, first_frame, first_step}
use Rattle.rights.proofs.Raised.{Goes, goes-not, lacking, neither, goes-read, goes-write}

abbrev pub FirstKept : FirstStep → FirstStep → Type 0
FirstKept (down table) y = (y ≡ down table) × (table % 8 ≡ 0)
FirstKept (page frame level) y = y ≡ page frame level
FirstKept (fault reason fpd) y = Unit {0}

-- past a test that ends the first walk or lets both go on
tested : (b b' : Bool) (reason : ℕ) (fpd : Bool) (x y : FirstStep) → (b ≡ false → b' ≡ false) → FirstKept x y
    → FirstKept (if b then fault reason fpd else x) (if b' then fault reason fpd else y)
tested true b' reason fpd x y on h = tt
tested false true reason fpd x y on h = let z : true ≡ false = on refl in let w : ◌≡◌ {A = ℕ} 0 1 = cc in absurd (omega arith)
tested false false reason fpd x y on h = h

module _ (r : ScalableRegisters) (haw : 2 ≤ r.base.haw) (p : PasidEntry) (write : Bool) {e e' : ℕ} (up : Raised e e') where
  same-reserved : (level : ℕ) → first_reserved r p.nxe level e' ≡ first_reserved r p.nxe level e
  unfolding first_reserved
  same-reserved level =
      let same = same-field e e' up.other-bits in
      rw (same 51 r.base.haw haw, same 7 7 (omega arith), same 29 13 (omega arith), same 20 13 (omega arith), same 63 63 (omega arith))

  pub same-clear : (leaf : Bool) → flag_clear p write leaf e' ≡ flag_clear p write leaf e
  same-clear leaf =
      let same = same-field e e' up.other-bits in
      rw (same 5 5 (omega arith), same 6 6 (omega arith), same 10 10 (omega arith))

  same-user : user_denied p e' ≡ user_denied p e
  same-user = rw (same-field e e' up.other-bits 2 2 (omega arith))

  pub first-kept : (way way' : Bool) (level : ℕ) → Goes way way' → FirstKept (first_step r p write way level e) (first_step r p write way' level e')
  unfolding first_step
  first-kept way way' level on =
      tested (not (bit e 0)) (not (bit e' 0)) 0x71 p.fpd _ _ (goes-not (bit e 0) (bit e' 0) (goes-read up))
      (tested (first_reserved r p.nxe level e) (first_reserved r p.nxe level e') 0x72 p.fpd _ _ (λ h. same-reserved level ∙ h)
      (rw (same-leaf up level, same-clear (leaf_at level e), same-user)
      (tested (not_snooped r p (clear level)) (not_snooped r p (clear level)) 0x7C p.fpd _ _ (λ h. h)
      (tested (user_denied p e) (user_denied p e) 0x81 p.fpd _ _ (λ h. h)
      (tested (write_denied p write way (clear level) e) (write_denied p write way' (clear level) e') 0x85 p.fpd _ _
      (neither (write && (not p.privileged || p.wpe) && not (bit e 1)) (write && (not p.privileged || p.wpe) && not (bit e' 1))
      (clear level && not way) (clear level && not way') (lacking (write && (not p.privileged || p.wpe)) (bit e 1) (bit e' 1) (goes-write up))
      (lacking (clear level) way way' on))
      (by (leaf_at level e) level))))))
    where
      clear : ℕ → Bool
      clear level = flag_clear p write (leaf_at level e) e

      by : (leaf : Bool) (level : ℕ)
          → FirstKept (if leaf then page (first_frame level e) level else down (in_place e 51 12))
          (if leaf then page (first_frame level e') level else down (in_place e' 51 12))
      by true level =
          ap (λ (n : ℕ). page (n * 2 ^ (12 + 9 * (level - 1))) level) (same-field e e' up.other-bits 51 (12 + 9 * (level - 1)) (omega arith))
      by false level = (ap (λ (n : ℕ). down (n * 4096)) (same-field e e' up.other-bits 51 12 (omega arith)), omega arith)
