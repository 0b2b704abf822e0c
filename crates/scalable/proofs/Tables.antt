-- What the checks ensure of the tables that entries lead to, and where a PASID's entries are.
use Prim.Native.Nat.{ℕ, ◌+◌, ◌*◌, ◌/◌, ◌%◌, ◌^◌, ◌≤◌, ◌<◌}
use mathlib.Core.Bool.{Bool, true, false, not, ◌&&◌, ◌||◌}
use mathlib.Core.Path.{◌≡◌, ap, sym, ◌∙◌}
use native.Mathlib.Nat.{div-one, lt_of_lt_of_le, mod-lt, mod-add-div}
use native.Mathlib.Omega.{arith}
use lib.Dec.{eqb}
use lib.Pow.{pow_mono, pow_pos}
use borrow.Author.Tests.{leb-false}
use Rattle.image.specs.Bits.{bits, bit, any_set, in_place}
use Rattle.image.specs.Check.{go}
use Rattle.std.specs.Prelude.{if◌then◌else◌}
use Rattle.image.proofs.Choices.{past, neither, same-go}
use Rattle.image.proofs.Fields.{fits, above-digit}
use Rattle.dma.proofs.Address.{above}
use Rattle.pasid.specs.Context.{context_reserved, beyond, context_invalid, context_of, context_check, Usable}
use Rattle.pasid.specs.Directory.{directory_reserved, directory_check}
use Rattle.pasid.specs.Root.{half, root_reserved, root_check}
use Rattle.pasid.specs.declared.Pasid.{Pasid}
use Rattle.pasid.specs.declared.context.ScalableContext.{ScalableContext}
use Rattle.pasid.specs.declared.directory.PasidTable.{PasidTable}

pub root-aligned : (haw : ℕ) (upper : Bool) (e : ℕ) {a : ℕ} → go a ≡ root_check haw upper e → a % 4096 ≡ 0
unfolding root_check
root-aligned haw upper e {a} h =
    let h1 = past (not (bit (half upper e) 0)) 0x39 _ a (sym h) in
    let h2 = past (root_reserved haw e) 0x3A _ a h1.1 in
    rw (sym (same-go h2.1)) (omega arith)

pub directory-aligned : (haw : ℕ) (fpd : Bool) (e : ℕ) {t : PasidTable} → go t ≡ directory_check haw fpd e → t.address % 4096 ≡ 0
unfolding directory_check
directory-aligned haw fpd e {t} h =
    let h1 = past (not (bit e 0)) 0x51 _ t (sym h) in
    let h2 = past (directory_reserved haw e) 0x52 _ t h1.1 in
    rw (sym (same-go h2.1)) (omega arith)

-- a PASID that the directory holds has 20 bits
below-range : (e pasid : ℕ) → beyond e pasid ≡ false → pasid < 2 ^ 20
below-range e pasid h =
    lt_of_lt_of_le (leb-false (2 ^ (bits e 11 9 + 13)) pasid h) (pow_mono {j = 20} (omega (arith, fits e 11 9)))

pub below-haw : (haw e : ℕ) → haw ≤ 52 → any_set e 63 haw ≡ false → in_place e 63 12 < 2 ^ 52
unfolding bits
below-haw haw e low clear =
    let whole : bits e 63 0 < 2 ^ haw = leb-false (2 ^ haw) (bits e 63 0) (sym (above e 63 haw) ∙ clear) in
    let least : 2 ^ haw ≤ 2 ^ 52 = pow_mono {j = 52} low in
    let all : e / 2 ^ 0 % 2 ^ 64 < 2 ^ 52 = lt_of_lt_of_le whole least in
    let few : e % 2 ^ 64 < 2 ^ 52 = rw (div-one e) at all in
    omega (arith, few)

pub usable : (haw : ℕ) (pasid : Pasid) (e : ℕ) {c : ScalableContext} → haw ≤ 52 → go c ≡ context_check haw pasid e → Usable c
unfolding context_check context_reserved context_invalid
usable haw pasid e {c} low h =
    let h1 = past (not (bit e 0)) 0x41 _ c (sym h) in
    let h2 = past (context_reserved haw e) 0x42 _ c h1.1 in
    let h3 = past (context_invalid pasid e) 0x43 _ c h2.1 in
    let h4 = past (pasid.present && not (bit e 3)) 0x45 _ c h3.1 in
    let h5 = past (pasid.present && beyond e pasid.value) 0x46 _ c h4.1 in
    let says : go (context_of pasid e) ≡ go c = h5.1 in
    let is : c ≡ context_of pasid e = cc in
    let clear = (neither (any_set e 8 5) (any_set e 63 haw) (neither (any_set e 8 5 || any_set e 63 haw) (any_set e 255 85) h2.0).0).1 in
    let own = (neither (not (bit e 2) && bit e 4) (not pasid.present && beyond e (bits e 83 64)) h3.0).1 in
    rw is (omega arith, below-haw haw e low clear, used pasid.present own h5.0)
  where
    used : (present : Bool) → (not present && beyond e (bits e 83 64)) ≡ false → (present && beyond e pasid.value) ≡ false
        → (if present then pasid.value else bits e 83 64) < 2 ^ 20
    used true own asked = below-range e pasid.value asked
    used false own asked = below-range e (bits e 83 64) own

-- the places of a PASID's entries, as the code finds them
pub table-place : (table pasid : ℕ) → ◌≡◌ {A = ℕ} (table + 64 * (pasid % 64)) (table + 64 * bits pasid 5 0)
unfolding bits
table-place table pasid = rw (div-one pasid)

pub directory-place : (directory pasid : ℕ) → pasid < 2 ^ 20
    → ◌≡◌ {A = ℕ} (directory + 4096 * (pasid / 64 / 512) + 8 * (pasid / 64 % 512)) (directory + 8 * bits pasid 19 6)
unfolding bits
directory-place directory pasid h = omega arith

pub context-place : (table source : ℕ) → ◌≡◌ {A = ℕ} (table + 32 * (source % 128)) (table + 32 * bits source 6 0)
unfolding bits
context-place table source = rw (div-one source)

-- the first level's top table, in bits 191:140
high-field : (k e high low : ℕ) → bits e (k + high) (k + low) ≡ bits (e / 2 ^ k) high low
high-field k e high low =
    ap (λ (x : ℕ). bits x (k + high) (k + low)) (sym (mod-add-div e (2 ^ k))) ∙ above-digit k (e / 2 ^ k) (mod-lt e (pow_pos k)) high low

pub first_below : (haw e : ℕ) → haw ≤ 52 → any_set e 191 (128 + haw) ≡ false → bits e 191 140 * 2 ^ 12 < 2 ^ 52
first_below haw e low clear =
    rw (high-field 128 e 63 12) (below-haw haw (e / 2 ^ 128) low (ap (λ (x : ℕ). not (eqb x 0)) (sym (high-field 128 e 63 haw)) ∙ clear))
