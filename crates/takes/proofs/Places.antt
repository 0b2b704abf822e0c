-- Request bits and ON of 64-aligned descriptors: no two are the same bit of the image.
use Prim.Native.Nat.{ℕ, ◌+◌, ◌*◌, ◌/◌, ◌%◌, ◌≤◌, ◌<◌}
use mathlib.Core.Bool.{Bool, true, false, ◌&&◌}
use mathlib.Core.Path.{◌≡◌, refl, sym}
use native.Mathlib.Decide.{dec_le}
use native.Mathlib.Omega.{arith}
use borrow.Author.Tests.{eq-eqb, ne_eqb, eqb-true, eqb-false}
use lib.Dec.{eqb}

module _ (D : ℕ) (aligned : D % 64 ≡ 0) where
  -- a request bit is no descriptor's ON, and none of another descriptor's request bits
  pub not_on : (d k : ℕ) → d % 64 ≡ 0 → k < 256 → eqb (8 * D + k) (8 * d + 256) ≡ false
  not_on d k a b = ne_eqb (8 * D + k) (8 * d + 256) (by (dec_le (D / 64) (d / 64)))
    where
      by : Dec (D / 64 ≤ d / 64) → 8 * D + k ≡ 8 * d + 256 → ⊥
      by (yes low) h = omega arith
      by (no high) h = omega arith

  pub not_there : (d u k : ℕ) → d % 64 ≡ 0 → (d ≡ D → ⊥) → u < 256 → k < 256 → eqb (8 * D + k) (8 * d + u) ≡ false
  not_there d u k a other h b = ne_eqb (8 * D + k) (8 * d + u) (λ e. other (omega arith))

  pub not-here : (d u k : ℕ) → d ≡ D → (k ≡ u → ⊥) → eqb (8 * D + k) (8 * d + u) ≡ false
  not-here d u k same other = ne_eqb (8 * D + k) (8 * d + u) (λ e. other (omega arith))

  pub same_bit : (d u k : ℕ) → d % 64 ≡ 0 → u < 256 → k < 256 → eqb (8 * D + k) (8 * d + u) ≡ (eqb d D && eqb u k)
  same_bit d u k a h b = go (eqb d D) refl (eqb u k) refl
    where
      go : (s : Bool) → eqb d D ≡ s → (t : Bool) → eqb u k ≡ t → eqb (8 * D + k) (8 * d + u) ≡ (s && t)
      go true e true f =
          let here : d ≡ D = eqb-true d D e in
          let place : u ≡ k = eqb-true u k f in
          eq-eqb (8 * D + k) (8 * d + u) (omega arith)
      go true e false f = not-here d u k (eqb-true d D e) (λ z. eqb-false u k f (sym z))
      go false e t f = not_there d u k a (eqb-false d D e) h b
