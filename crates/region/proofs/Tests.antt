-- Tests of sums, as the code makes them without a sum that could wrap.
use Prim.Native.Nat.{ℕ, ◌+◌, ◌-◌, ◌^◌, ◌<◌, ◌≤◌}
use mathlib.Core.Bool.{true, false, and-true, and-false}
use mathlib.Core.Path.{◌≡◌, sym, ◌∙◌}
use native.Mathlib.Omega.{arith}
use native.Mathlib.Decide.{dec_le}
use borrow.Author.Tests.{lt-ltb, le-ltb, le-leb, lt-leb, eq-eqb, ne_eqb, ltb-false}
use lib.Dec.{ltb, leb}
use lib.Pow.{pow_mono}
use Rattle.image.specs.Windows.{Window, end_of, holds_all}
use Rattle.region.specs.Shared.{meets}

pub past : (limit start size : ℕ) → start ≤ limit → ltb (limit - start) size ≡ ltb limit (start + size)
past limit start size h = go (dec_le (start + size) limit)
  where
    go : Dec (start + size ≤ limit) → ltb (limit - start) size ≡ ltb limit (start + size)
    go (yes e) = rw (le-ltb (limit - start) size (omega arith), le-ltb limit (start + size) e)
    go (no e) = rw (lt-ltb (limit - start) size (omega arith), lt-ltb limit (start + size) (omega arith))

below : (n start other : ℕ) → n ≤ start → ltb (start - n) other ≡ ltb start (other + n)
below n start other h = go (dec_le (other + n) start)
  where
    go : Dec (other + n ≤ start) → ltb (start - n) other ≡ ltb start (other + n)
    go (yes e) = rw (le-ltb (start - n) other (omega arith), le-ltb start (other + n) e)
    go (no e) = rw (lt-ltb (start - n) other (omega arith), lt-ltb start (other + n) (omega arith))

module _ (start size other n : ℕ) where
  pub meets-none : size ≡ 0 → false ≡ meets start size other n
  meets-none h = rw (eq-eqb size 0 h)

  module _ (some : size ≡ 0 → ⊥) where
    pub meets-not : start + size ≤ other → false ≡ meets start size other n
    meets-not h = rw (ne_eqb size 0 some, le-ltb other (start + size) h, and-false (ltb start (other + n)))

    meets-by : other < start + size → ltb start (other + n) ≡ meets start size other n
    meets-by h = sym (rw (ne_eqb size 0 some, lt-ltb other (start + size) h) (and-true (ltb start (other + n))))

    pub meets-low : 0 < n → other < start + size → start < n → true ≡ meets start size other n
    meets-low more h low = sym (lt-ltb start (other + n) (omega arith)) ∙ meets-by h

    pub meets-high : other < start + size → n ≤ start → ltb (start - n) other ≡ meets start size other n
    meets-high h high = below n start other high ∙ meets-by h

-- a window that holds all of so many bytes
pub holds_by : (w : Window) (size at : ℕ) → w.start ≤ at → size ≤ w.size → leb (at - w.start) (w.size - size) ≡ holds_all w size at
holds_by w size at h s = go (dec_le (at + size) (end_of w))
  where
    go : Dec (at + size ≤ end_of w) → leb (at - w.start) (w.size - size) ≡ holds_all w size at
    go (yes e) = rw (le-leb w.start at h, le-leb (at + size) (end_of w) e, le-leb (at - w.start) (w.size - size) (omega arith))
    go (no e) = rw (le-leb w.start at h, lt-leb (at + size) (end_of w) (omega arith), lt-leb (at - w.start) (w.size - size) (omega arith))

-- an end that isn't past 2^HAW
pub in-width : (haw start size : ℕ) → haw ≤ 52 → ltb (2 ^ haw) (start + size) ≡ false → start + size ≤ 2 ^ 52
in-width haw start size h e = omega (arith, ltb-false (2 ^ haw) (start + size) e, pow_mono {i = haw} {j = 52} h)
