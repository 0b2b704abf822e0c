-- What refusal 3 leaves out: a buffer whose length gives slots, and a slot among them.
use Prim.Native.Nat.{ℕ, zero, suc, ◌+◌, ◌*◌, ◌^◌, ◌<◌, ◌≤◌}
use mathlib.Core.Path.{◌≡◌, refl}
use mathlib.Core.Bool.{Bool, true, false, ◌||◌}
use native.Mathlib.Omega.{arith}
use borrow.Author.Tests.{eqb-true, leb-false, ne_eqb}
use lib.Dec.{eqb, leb, lit≤}
use Rattle.std.specs.Prelude.{if◌then◌else◌}
use Rattle.faults.specs.Slots.{slots_of, SlotCounts}

pub neither : (a b : Bool) → a || b ≡ false → (a ≡ false) × (b ≡ false)
neither true b h = let z : ◌≡◌ {A = ℕ} 0 1 = cc in absurd (omega arith)
neither false b h = (refl, h)

-- what holds of a slot count: at most 256, and where there is a slot, 16 bytes each
abbrev Counted : (len n : ℕ) → Type 0
Counted len n = (n ≤ 256) × ((k : ℕ) → k < n → len ≡ 16 * n)

one-test : (len n m : ℕ) → n ≤ 256 → Counted len m → Counted len (if eqb len (16 * n) then n else m)
one-test len n m small rest = go (eqb len (16 * n)) refl
  where
    go : (t : Bool) → eqb len (16 * n) ≡ t → Counted len (if t then n else m)
    go true e = (small, λ k h. eqb-true len (16 * n) e)
    go false e = rest

pub counted : (len : ℕ) → Counted len (slots_of len)
unfolding slots_of
counted len =
    one-test len 8 _ (lit≤ tt)
    (one-test len 16 _ (lit≤ tt)
    (one-test len 32 _ (lit≤ tt)
    (one-test len 64 _ (lit≤ tt)
    (one-test len 128 _ (lit≤ tt)
    (one-test len 256 _ (lit≤ tt)
    (lit≤ tt, λ k h. absurd (omega arith)))))))

-- a slot that isn't above the last lies in the buffer
pub in_place_lem : (len next : ℕ) → leb (slots_of len) next ≡ false → (len ≡ 16 * slots_of len) × (next < slots_of len)
in_place_lem len next h =
    let below = leb-false (slots_of len) next h in
    ((counted len).1 next below, below)

pub in_reach : (len slot : ℕ) → leb (slots_of len) slot ≡ false → 16 * slot + 16 ≤ len
in_reach len slot h =
    let placed = in_place_lem len slot h in
    let size = placed.0 in
    let below = placed.1 in
    omega arith

powers : (k : ℕ) → 3 ≤ k → k ≤ 8 → slots_of (16 * 2 ^ k) ≡ 2 ^ k
unfolding slots_of
powers zero low high = absurd (omega arith)
powers (suc zero) low high = absurd (omega arith)
powers (suc (suc zero)) low high = absurd (omega arith)
powers (suc (suc (suc zero))) low high = refl
powers (suc (suc (suc (suc zero)))) low high = refl
powers (suc (suc (suc (suc (suc zero))))) low high = refl
powers (suc (suc (suc (suc (suc (suc zero)))))) low high = refl
powers (suc (suc (suc (suc (suc (suc (suc zero))))))) low high = refl
powers (suc (suc (suc (suc (suc (suc (suc (suc zero)))))))) low high = refl
powers (suc (suc (suc (suc (suc (suc (suc (suc (suc k))))))))) low high = absurd (omega arith)

pub slot_counts : SlotCounts
unfolding slots_of
slot_counts = (
  powers,
  λ len other.
      rw (
        ne_eqb len 128 (other 3 (lit≤ tt) (lit≤ tt)),
        ne_eqb len 256 (other 4 (lit≤ tt) (lit≤ tt)),
        ne_eqb len 512 (other 5 (lit≤ tt) (lit≤ tt)),
        ne_eqb len 1024 (other 6 (lit≤ tt) (lit≤ tt)),
        ne_eqb len 2048 (other 7 (lit≤ tt) (lit≤ tt)),
        ne_eqb len 4096 (other 8 (lit≤ tt) (lit≤ tt)),
      ),
)
