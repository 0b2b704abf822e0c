-- First-level entries (document 003, 3.6), 8 bytes at a level from 5 down to 1. P 0, R/W 1, U/S 2, A 5, D 6 in the entry of a page, PS 7
-- above level 1, EA 10, XD 63; the next table in 51:12, a page's frame in 51:12, 51:21 or 51:30. Not looked at: PWT 3, PCD 4, PAT (7 at
-- level 1, 12 of a large page), G 8, bits 9 and 11, 62:52.
use Rattle.std.specs.Prelude.{ℕ, ◌+◌, ◌-◌, ◌*◌, ◌%◌, ◌^◌, ◌<◌, ◌≤◌, Bool, not, ◌&&◌, ◌||◌, ◌≡◌, List, [], ◌∷◌, ◌++◌, eqb, leb}
use Rattle.image.specs.Bits.{bits, bit, any_set, in_place}
use Rattle.std.specs.Prelude.{if◌then◌else◌}
use Rattle.dma.specs.Page.{leaf_at}
use Rattle.pasid.specs.declared.ScalableRegisters.{ScalableRegisters}
use Rattle.pasid.specs.declared.table.PasidEntry.{PasidEntry}

-- N, the width of an input address: 48 with 4 levels, 57 with 5
abbrev pub input_width : (levels : ℕ) → ℕ
input_width levels = 12 + 9 * levels

-- bits 63:N are not all equal to bit N-1
unfoldable pub not_canonical : (levels address : ℕ) → Bool
not_canonical levels address =
    not (eqb (bits address 63 (input_width levels)) (if bit address (input_width levels - 1) then 2 ^ (64 - input_width levels) - 1 else 0))

-- 2 MiB pages are always there, 1 GiB pages with FL1GP; bit 12 of a large page is PAT, and XD is reserved without NXE
unfoldable pub first_reserved : ScalableRegisters → (nxe : Bool) (level e : ℕ) → Bool
first_reserved r nxe level e =
    any_set e 51 r.base.haw
    || leb 4 level && bit e 7
    || eqb level 3 && bit e 7 && not r.fl1gp
    || eqb level 3 && bit e 7 && any_set e 29 13
    || eqb level 2 && bit e 7 && any_set e 20 13
    || bit e 63 && not nxe

-- the flags that a granted request sets in an entry, by their bit numbers: A; D in the entry of a page that is written; EA with EAFE
abbrev pub first_flags : PasidEntry → (write leaf : Bool) → List ℕ
first_flags p write leaf = 5 ∷ (if leaf && write then 6 ∷ [] else []) ++ (if p.eafe then 10 ∷ [] else [])

-- one of them is still clear
abbrev pub flag_clear : PasidEntry → (write leaf : Bool) (e : ℕ) → Bool
flag_clear p write leaf e = not (bit e 5) || leaf && write && not (bit e 6) || p.eafe && not (bit e 10)

-- a flag would have to be set, and the walk isn't snooped (SMPWC or PWSNP clear)
abbrev pub not_snooped : ScalableRegisters → PasidEntry → (clear : Bool) → Bool
not_snooped r p clear = clear && not (r.smpwc && p.pwsnp)

-- a user's request needs U/S
abbrev pub user_denied : PasidEntry → (e : ℕ) → Bool
user_denied p e = not p.privileged && not (bit e 2)

-- a write needs R/W, a privileged one only with WPE; a flag that has to be set needs a way to the entry that may be written
abbrev pub write_denied : PasidEntry → (write way_writable clear : Bool) (e : ℕ) → Bool
write_denied p write way_writable clear e =
    write && (not p.privileged || p.wpe) && not (bit e 1) || clear && not way_writable

-- a page's frame, 51:12, 51:21 or 51:30
abbrev pub first_frame : (level e : ℕ) → ℕ
first_frame level e = in_place e 51 (12 + 9 * (level - 1))

-- the next table; the frame of a page with the level of its entry; or a fault with FPD
pub data FirstStep : Type 0 where
  down : (table : ℕ) → FirstStep
  page : (frame level : ℕ) → FirstStep
  fault : (reason : ℕ) (fpd : Bool) → FirstStep

abbrev pub on_first {ℓ} : {B : Type ℓ} → FirstStep → (down : ℕ → B) → (page : ℕ → ℕ → B) → (fault : ℕ → Bool → B) → B
on_first (down table) on_down on_page on_fault = on_down table
on_first (page frame level) on_down on_page on_fault = on_page frame level
on_first (fault reason fpd) on_down on_page on_fault = on_fault reason fpd

-- an entry that can't be fetched: 73h the top one, 70h any other
abbrev pub unfetchable_reason : (top : Bool) → ℕ
unfetchable_reason top = if top then 0x73 else 0x70

-- 71h P clear, 72h, 7Ch, 81h, 85h in this order. Else a page ends the walk, and any other entry leads one level down. There is no right to
-- read but P
unfoldable pub first_step : ScalableRegisters → PasidEntry → (write way_writable : Bool) (level e : ℕ) → FirstStep
first_step r p write way_writable level e =
    if not (bit e 0) then fault 0x71 p.fpd
    else if first_reserved r p.nxe level e then fault 0x72 p.fpd
    else if not_snooped r p (flag_clear p write (leaf_at level e) e) then fault 0x7C p.fpd
    else if user_denied p e then fault 0x81 p.fpd
    else if write_denied p write way_writable (flag_clear p write (leaf_at level e) e) e then fault 0x85 p.fpd
    else if leaf_at level e then page (first_frame level e) level
    else down (in_place e 51 12)

-- a page as a walk can answer it, a table's address as it can go on with: for the code's contracts
abbrev pub Reachable : FirstStep → Type 0
Reachable (down table) = (table % 4096 ≡ 0) × (table < 2 ^ 52)
Reachable (page frame level) = (frame < 2 ^ 52) × (0 < level) × (level ≤ 3)
Reachable (fault reason fpd) = Unit {0}
