-- The context entry of scalable mode: context table + 32 × (device and function, bits 6:0), 32 bytes. P 0, FPD 1, DTE 2, PASIDE 3, PRE 4,
-- PDTS 11:9, PASIDDIRPTR 63:12, RID_PASID 83:64, RID_PRIV 84.
use Rattle.std.specs.Prelude.{ℕ, ◌+◌, ◌%◌, ◌^◌, ◌<◌, Bool, not, ◌&&◌, ◌||◌, ◌≡◌, leb}
use Rattle.image.specs.Bits.{bits, bit, any_set, in_place}
use Rattle.image.specs.Check.{Check, stop, go}
use Rattle.std.specs.Prelude.{if◌then◌else◌}
use Rattle.pasid.specs.declared.Pasid.{Pasid}
use Rattle.pasid.specs.declared.context.ScalableContext.{ScalableContext}

unfoldable pub context_reserved : (haw e : ℕ) → Bool
context_reserved haw e = any_set e 8 5 || any_set e 63 haw || any_set e 255 85

-- the directory has 2^(PDTS+7) entries, each for 64 PASIDs: a PASID at or above 2^(PDTS+13) is beyond it
abbrev pub beyond : (e pasid : ℕ) → Bool
beyond e pasid = leb (2 ^ (bits e 11 9 + 13)) pasid

-- PRE set and DTE clear; for a request without a PASID, RID_PASID beyond the directory
unfoldable pub context_invalid : Pasid → (e : ℕ) → Bool
context_invalid pasid e = not (bit e 2) && bit e 4 || not pasid.present && beyond e (bits e 83 64)

-- the request's, or RID_PASID
abbrev pub pasid_of : Pasid → (e : ℕ) → ℕ
pasid_of pasid e = if pasid.present then pasid.value else bits e 83 64

-- a request with a PASID is unprivileged; of one without, RID_PRIV says it. FPD is read even when P is clear
abbrev pub context_of : Pasid → (e : ℕ) → ScalableContext
context_of pasid e =
    record {
      directory = in_place e 63 12;
      pasid = pasid_of pasid e;
      privileged = not pasid.present && bit e 84;
      fpd = bit e 1;
    }

-- 41h, 42h, 43h, then for a request with a PASID 45h (PASIDE clear) and 46h (beyond the directory); else on with what the entry says
unfoldable pub context_check : (haw : ℕ) → Pasid → (e : ℕ) → Check ScalableContext
context_check haw pasid e =
    if not (bit e 0) then stop 0x41
    else if context_reserved haw e then stop 0x42
    else if context_invalid pasid e then stop 0x43
    else if pasid.present && not (bit e 3) then stop 0x45
    else if pasid.present && beyond e pasid.value then stop 0x46
    else go (context_of pasid e)

-- what the check ensures of a context where HAW is at most 52: for the code's contracts and the proofs
abbrev pub Usable : ScalableContext → Type 0
Usable c = (c.directory % 4096 ≡ 0) × (c.directory < 2 ^ 52) × (c.pasid < 2 ^ 20)
