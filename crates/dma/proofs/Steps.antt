-- Laws of page entries.
use Prim.Native.Nat.{ℕ, suc, ◌+◌, ◌*◌, ◌-◌, ◌/◌, ◌%◌, ◌^◌, ◌<◌, ◌≤◌}
use mathlib.Core.Bool.{Bool, true, not}
use mathlib.Core.Path.{◌≡◌, subst}
use native.Mathlib.Omega.{arith}
use native.Mathlib.Nat.{div-one}
use lib.Dec.{lit≤}
use lib.Pow.{pow_mono}
use Rattle.image.specs.Bits.{bits, in_place, any_set}
use Rattle.image.specs.Check.{go}
use Rattle.image.proofs.Choices.{past}
use Rattle.image.proofs.Fields.{fits, in-place-lt}
use Rattle.registers.specs.declared.Registers.{Registers}
use Rattle.dma.specs.Page.{page_check, page_reserved, denied, own_right, leaf_at}
use Rattle.dma.proofs.Reserved.{low-leaf}

-- an index of 9 bits
pub index-lt : (address n : ℕ) → bits address (20 + 9 * n) (12 + 9 * n) < 512
index-lt address n =
    let nine : suc (20 + 9 * n) - (12 + 9 * n) ≡ 9 = omega arith in
    subst (λ (k : ℕ). bits address (20 + 9 * n) (12 + 9 * n) < 2 ^ k) nine (fits address (20 + 9 * n) (12 + 9 * n))

-- the index by a shift
pub index_of : (address n : ℕ) → address / 2 ^ (12 + 9 * n) % 512 ≡ bits address (20 + 9 * n) (12 + 9 * n)
unfolding bits
index_of address n =
    let nine : suc (20 + 9 * n) - (12 + 9 * n) ≡ 9 = omega arith in
    rw nine

-- what a page adds to its frame, by a shift
pub offset-of : (address level : ℕ) → address % 2 ^ (12 + 9 * (level - 1)) ≡ bits address (11 + 9 * (level - 1)) 0
unfolding bits
offset-of address level =
    let all : suc (11 + 9 * (level - 1)) - 0 ≡ 12 + 9 * (level - 1) = omega arith in
    simp (div-one, all)

-- an offset lies within its page
pub offset-lt : (address level : ℕ) → bits address (11 + 9 * (level - 1)) 0 < 2 ^ (12 + 9 * (level - 1))
offset-lt address level =
    let size : suc (11 + 9 * (level - 1)) - 0 ≡ 12 + 9 * (level - 1) = omega arith in
    subst (λ (k : ℕ). bits address (11 + 9 * (level - 1)) 0 < 2 ^ k) size (fits address (11 + 9 * (level - 1)) 0)

-- a page's bytes, for the levels that a leaf has
pub span-le : (level : ℕ) → level ≤ 3 → 2 ^ (12 + 9 * (level - 1)) ≤ 2 ^ 30
span-le level h = pow_mono {j = 30} (omega arith)

-- a page entry that goes on goes on with its bits 51:12
pub page-frame : (registers : Registers) (write : Bool) (level e frame : ℕ) → page_check registers write level e ≡ go frame → frame ≡ in_place e 51 12
unfolding page_check
page-frame registers write level e frame h =
    let h1 = past (not (any_set e 1 0)) (denied write) _ frame h in
    let h2 = past (page_reserved registers level e) 0x0C _ frame h1.1 in
    let h3 = past (not (own_right write e)) (denied write) _ frame h2.1 in
    let last = h3.1 in
    cc

pub page-frame-lt : (registers : Registers) (write : Bool) (level e frame : ℕ) → page_check registers write level e ≡ go frame → frame < 2 ^ 52
page-frame-lt registers write level e frame h =
    rw (page-frame registers write level e frame h) (in-place-lt e 51 12 (lit≤ tt))

-- a page that its check lets pass has an entry of level 1, 2 or 3: above, bit 7 is reserved
pub leaf-low : (registers : Registers) (write : Bool) (level e frame : ℕ) → page_check registers write level e ≡ go frame → leaf_at level e ≡ true
    → level ≤ 3
unfolding page_check
leaf-low registers write level e frame h =
    low-leaf registers level e (past (page_reserved registers level e) 0x0C _ frame (past (not (any_set e 1 0)) (denied write) _ frame h).1).0
