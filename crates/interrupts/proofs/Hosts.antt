-- Bits by host address, and by place in the run: what is stored at a descriptor's place is stored at its host address alone.
use Prim.Native.Nat.{ℕ, ◌+◌, ◌-◌, ◌*◌, ◌/◌, ◌%◌, ◌≤◌, ◌<◌}
use mathlib.Core.Bool.{Bool, true, false}
use mathlib.Core.List.{List}
use mathlib.Core.Path.{◌≡◌, refl, ap, sym, ◌∙◌}
use native.Mathlib.Omega.{arith}
use borrow.Author.Tests.{eq-eqb, ne_eqb, eqb-true, eqb-false}
use lib.Dec.{eqb}
use lib.ListN.{length, get_or, set}
use lib.Seq.{get_or-set_same, get_or-set_other}
use Rattle.image.specs.Bits.{bit}
use Rattle.image.specs.Windows.{windows_of, Spot, nowhere, here, on_spot, spot_in, byte_at, bad_windows}
use Rattle.image.proofs.Bytes.{no_bits}
use Rattle.image.proofs.GoodWindows.{good as fit}
use Rattle.image.proofs.WindowBytes.{one_address, byte-spot, byte-there}
use Rattle.image.proofs.WindowEntries.{spot_in_lem}
use Rattle.interrupts.specs.Claims.{bit_at}

-- bit n of a run of bytes
abbrev pub bit_in : List ℕ → ℕ → Bool
bit_in bytes n = bit (get_or bytes (n / 8) 0) (n % 8)

pub no-bit : (place : ℕ) → bit 0 place ≡ false
no-bit place = ap (λ (n : ℕ). eqb n 1) (no_bits place place)

module _ (windows bytes : List ℕ) (good : bad_windows windows (length bytes) ≡ false) (size at : ℕ) {k left : ℕ}
    (there : spot_in (windows_of windows) size at ≡ here k left) where
  -- they end in the run
  pub spot-inside : k + size ≤ length bytes
  spot-inside =
      let lies = spot_in_lem (length bytes) (windows_of windows) size at (fit windows (length bytes) good) there in
      omega (arith, lies.0, lies.1)

  -- a bit of the bytes that stand at a place, in the run and by host address
  pub bit-there : (p : ℕ) → p < 8 * size → bit_at windows bytes (8 * at + p) ≡ bit_in bytes (8 * k + p)
  bit-there p small =
      let host : (8 * at + p) / 8 ≡ at + p / 8 = omega arith in
      let place : k + p / 8 ≡ (8 * k + p) / 8 = omega arith in
      let low : (8 * at + p) % 8 ≡ (8 * k + p) % 8 = omega arith in
      rw (host, byte-there windows bytes good size at there (p / 8) (omega arith), place, low)

  -- no other host address shows it
  same_place : (p n : ℕ) → p < 8 * size → {j rest : ℕ} → spot_in (windows_of windows) 1 (n / 8) ≡ here j rest
      → eqb (8 * j + n % 8) (8 * k + p) ≡ eqb n (8 * at + p)
  same_place p n small {j} {rest} shown = by (eqb n (8 * at + p)) refl
    where
      it : spot_in (windows_of windows) 1 (at + p / 8) ≡ here (k + p / 8) (left - p / 8)
      it = byte-spot windows (length bytes) good size at (p / 8) there (omega arith)

      by : (t : Bool) → eqb n (8 * at + p) ≡ t → eqb (8 * j + n % 8) (8 * k + p) ≡ t
      by true e =
          let same : n ≡ 8 * at + p = eqb-true n (8 * at + p) e in
          let address : n / 8 ≡ at + p / 8 = omega arith in
          let both : here j rest ≡ here (k + p / 8) (left - p / 8) = sym shown ∙ ap (spot_in (windows_of windows) 1) address ∙ it in
          let place : j ≡ k + p / 8 = cc in
          eq-eqb (8 * j + n % 8) (8 * k + p) (omega arith)
      by false e = ne_eqb (8 * j + n % 8) (8 * k + p) (λ h. eqb-false n (8 * at + p) e (one h))
        where
          one : 8 * j + n % 8 ≡ 8 * k + p → n ≡ 8 * at + p
          one h =
              let place : j ≡ k + p / 8 = omega arith in
              let shown' : spot_in (windows_of windows) 1 (at + p / 8) ≡ here j (left - p / 8) = rw place it in
              let address : n / 8 ≡ at + p / 8 = one_address windows (length bytes) good (n / 8) (at + p / 8) shown shown' in
              omega arith

  hidden : (p n : ℕ) → p < 8 * size → spot_in (windows_of windows) 1 (n / 8) ≡ nowhere → eqb n (8 * at + p) ≡ false
  hidden p n small off = ne_eqb n (8 * at + p) never
    where
      never : n ≡ 8 * at + p → ⊥
      never h =
          let address : n / 8 ≡ at + p / 8 = omega arith in
          let both : nowhere ≡ here (k + p / 8) (left - p / 8) =
          sym off ∙ ap (spot_in (windows_of windows) 1) address ∙ byte-spot windows (length bytes) good size at (p / 8) there (omega arith) in
          let z : ◌≡◌ {A = ℕ} 0 1 = cc in
          omega arith

-- a bit of the descriptor that stands at a place of the run is stored: its byte is changed, so that this bit becomes f of what it was
module _ (f : Bool → Bool → Bool) (keeps : (t : Bool) → f t false ≡ t) (change : (place byte : ℕ) → ℕ)
    (changed : (byte place other : ℕ) → bit (change place byte) other ≡ f (bit byte other) (eqb other place)) where
  abbrev pub store : (at place : ℕ) → List ℕ → List ℕ
  store at place bytes = set bytes (at + place / 8) (change (place % 8) (get_or bytes (at + place / 8) 0))

  -- bit by bit of the run
  store_in : (bytes : List ℕ) (at place n : ℕ) → at + place / 8 < length bytes → bit_in (store at place bytes) n ≡ f (bit_in bytes n) (eqb n (8 * at + place))
  store_in bytes at place n inside = by (eqb (n / 8) there) refl
    where
      there : ℕ
      there = at + place / 8

      byte : ℕ
      byte = change (place % 8) (get_or bytes there 0)

      same_bit : n / 8 ≡ there → (t : Bool) → eqb (n % 8) (place % 8) ≡ t → t ≡ eqb n (8 * at + place)
      same_bit same true e =
          let low : n % 8 ≡ place % 8 = eqb-true (n % 8) (place % 8) e in
          sym (eq-eqb n (8 * at + place) (omega arith))
      same_bit same false e = sym (ne_eqb n (8 * at + place) (λ h. eqb-false (n % 8) (place % 8) e (omega arith)))

      by : (t : Bool) → eqb (n / 8) there ≡ t → bit_in (set bytes there byte) n ≡ f (bit_in bytes n) (eqb n (8 * at + place))
      by true e =
          let same : n / 8 ≡ there = eqb-true (n / 8) there e in
          ap (λ (k : ℕ). bit (get_or (set bytes there byte) k 0) (n % 8)) same
          ∙ ap (λ (b : ℕ). bit b (n % 8)) (get_or-set_same bytes there byte 0 inside)
          ∙ changed (get_or bytes there 0) (place % 8) (n % 8)
          ∙ ap (λ (k : ℕ). f (bit (get_or bytes k 0) (n % 8)) (eqb (n % 8) (place % 8))) (sym same)
          ∙ ap (f (bit_in bytes n)) (same_bit same (eqb (n % 8) (place % 8)) refl)
      by false e =
          let other = eqb-false (n / 8) there e in
          ap (λ (b : ℕ). bit b (n % 8)) (get_or-set_other bytes there (n / 8) byte 0 other)
          ∙ sym (keeps (bit_in bytes n))
          ∙ ap (f (bit_in bytes n)) (sym (ne_eqb n (8 * at + place) (λ h. other (omega arith))))

  -- and by host address
  pub store_at : (windows bytes : List ℕ) → bad_windows windows (length bytes) ≡ false → (descriptor : ℕ) {k left : ℕ}
      → spot_in (windows_of windows) 64 descriptor ≡ here k left → (place : ℕ) → place < 512 → (n : ℕ)
      → bit_at windows (store k place bytes) n ≡ f (bit_at windows bytes n) (eqb n (8 * descriptor + place))
  unfolding byte_at
  store_at windows bytes good descriptor {k} {left} there place small n = by (spot_in (windows_of windows) 1 (n / 8)) refl
    where
      by : (s : Spot) → spot_in (windows_of windows) 1 (n / 8) ≡ s
          → bit (on_spot s 0 (λ j left. get_or (store k place bytes) j 0)) (n % 8)
          ≡ f (bit (on_spot s 0 (λ j left. get_or bytes j 0)) (n % 8)) (eqb n (8 * descriptor + place))
      by nowhere e = rw (no-bit (n % 8), hidden windows bytes good 64 descriptor there place n (omega arith) e) (sym (keeps false))
      by (here j rest) e =
          let inside = spot-inside windows bytes good 64 descriptor there in
          let high : (8 * j + n % 8) / 8 ≡ j = omega arith in
          let low : (8 * j + n % 8) % 8 ≡ n % 8 = omega arith in
          let is : bit (get_or (store k place bytes) j 0) (n % 8) ≡ f (bit (get_or bytes j 0) (n % 8)) (eqb (8 * j + n % 8) (8 * k + place)) =
          rw (high, low) at (store_in bytes k place (8 * j + n % 8) (omega arith)) in
          is ∙ ap (f (bit (get_or bytes j 0) (n % 8))) (same_place windows bytes good 64 descriptor there place n (omega arith) e)
