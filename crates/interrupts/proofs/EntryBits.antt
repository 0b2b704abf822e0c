-- A bit of an entry is that bit of the memory, by host address.
use Prim.Native.Nat.{ℕ, zero, suc, ◌+◌, ◌-◌, ◌*◌, ◌/◌, ◌%◌, ◌^◌, ◌≤◌, ◌<◌}
use mathlib.Core.Bool.{false}
use mathlib.Core.List.{List}
use mathlib.Core.Path.{◌≡◌, refl, ap, sym, ◌∙◌}
use native.Mathlib.Decide.{dec_le}
use native.Mathlib.Omega.{arith}
use lib.Dec.{eqb}
use lib.ListN.{length, get_or, take, drop}
use lib.Seq.{get_or-take, get_or-drop}
use Rattle.image.specs.Bits.{bits, bit}
use Rattle.image.specs.Bytes.{little_endian}
use Rattle.image.specs.Memory.{Fetched, missing, found, join, entry}
use Rattle.image.specs.Windows.{windows_of, Spot, nowhere, here, on_spot, spot_in, entry_in, of_windows, bad_windows}
use Rattle.image.proofs.Bytes.{AreBytes, bytes_below, bytes-taken, in-byte}
use Rattle.image.proofs.Fields.{in-digit, above-digit}
use Rattle.interrupts.specs.Claims.{bit_at}
use Rattle.interrupts.proofs.Hosts.{bit_in, bit-there}

module _ (windows bytes : List ℕ) (good : bad_windows windows (length bytes) ≡ false) (are : AreBytes bytes) where
  -- the word at a place of the run
  placed : (j k : ℕ) → k < 64 → bit (little_endian (take 8 (drop j bytes))) k ≡ bit_in bytes (8 * j + k)
  placed j k h =
      let place : 8 * (k / 8) + k % 8 ≡ k = omega arith in
      let byte : j + k / 8 ≡ (8 * j + k) / 8 = omega arith in
      let low : k % 8 ≡ (8 * j + k) % 8 = omega arith in
      let there : bits (get_or bytes (j + k / 8) 0) (k % 8) (k % 8) ≡ bits (get_or bytes ((8 * j + k) / 8) 0) ((8 * j + k) % 8) ((8 * j + k) % 8) =
      rw (byte, low) in
      let part = take 8 (drop j bytes) in
      ap (λ (n : ℕ). eqb n 1)
      (ap (λ (n : ℕ). bits (little_endian part) n n) (sym place)
      ∙ in-byte (k / 8) part (bytes-taken 8 (drop j bytes) (λ i. rw get_or-drop (are (j + i)))) (k % 8) (k % 8) (omega arith)
      ∙ ap (λ (n : ℕ). bits n (k % 8) (k % 8)) (get_or-take 8 (drop j bytes) (k / 8) 0 (omega arith) ∙ get_or-drop j bytes (k / 8) 0)
      ∙ there)

  word-bits : (at : ℕ) {w : ℕ} → of_windows windows bytes at ≡ found w
      → (w < 2 ^ 64) × ((k : ℕ) → k < 64 → bit w k ≡ bit_at windows bytes (8 * at + k))
  unfolding of_windows entry_in
  word-bits at {w} h = by (spot_in (windows_of windows) 8 at) refl h
    where
      by : (s : Spot) → spot_in (windows_of windows) 8 at ≡ s
          → on_spot s missing (λ place left. found (little_endian (take 8 (drop place bytes)))) ≡ found w
          → (w < 2 ^ 64) × ((k : ℕ) → k < 64 → bit w k ≡ bit_at windows bytes (8 * at + k))
      by nowhere e h = let z : ◌≡◌ {A = ℕ} 0 1 = cc in absurd (omega arith)
      by (here j left) e h =
          let same : little_endian (take 8 (drop j bytes)) ≡ w = cc in
          rw (← same) (bytes_below 8 (drop j bytes) (λ i. rw get_or-drop (are (j + i))), λ k small. placed j k small ∙ sym (bit-there windows bytes good 8 at e k small))

  pub entry-bit : (n at k : ℕ) {e : ℕ} → entry n (of_windows windows bytes) at ≡ found e → k < 64 * n → bit e k ≡ bit_at windows bytes (8 * at + k)
  unfolding entry
  entry-bit zero at k there h = absurd (omega arith)
  entry-bit (suc n) at k {e} there h =
      by (of_windows windows bytes at) refl (entry n (of_windows windows bytes) (at + 8)) refl there (λ j e'. entry-bit n (at + 8) j {e = e'}) (dec_le 64 k)
    where
      by : (f : Fetched) → of_windows windows bytes at ≡ f → (g : Fetched) → entry n (of_windows windows bytes) (at + 8) ≡ g → join f g ≡ found e
          → ((j e' : ℕ) → entry n (of_windows windows bytes) (at + 8) ≡ found e' → j < 64 * n → bit e' j ≡ bit_at windows bytes (8 * (at + 8) + j))
          → Dec (64 ≤ k) → bit e k ≡ bit_at windows bytes (8 * at + k)
      by missing a g b s ih d = let z : ◌≡◌ {A = ℕ} 0 1 = cc in absurd (omega arith)
      by (found w) a missing b s ih d = let z : ◌≡◌ {A = ℕ} 0 1 = cc in absurd (omega arith)
      by (found w) a (found rest) b s ih (yes high) =
          let is : e ≡ w + 2 ^ 64 * rest = cc in
          let low : k ≡ 64 + (k - 64) = omega arith in
          let address : 8 * (at + 8) + (k - 64) ≡ 8 * at + k = omega arith in
          let here : bits e k k ≡ bits rest (k - 64) (k - 64) =
          ap (λ (n : ℕ). bits e n n) low ∙ ap (λ (n : ℕ). bits n (64 + (k - 64)) (64 + (k - 64))) is
          ∙ above-digit 64 rest (word-bits at a).0 (k - 64) (k - 64) in
          ap (λ (n : ℕ). eqb n 1) here ∙ ih (k - 64) rest b (omega arith) ∙ ap (bit_at windows bytes) address
      by (found w) a (found rest) b s ih (no under) =
          let is : e ≡ w + 2 ^ 64 * rest = cc in
          let here : bits e k k ≡ bits w k k = ap (λ (n : ℕ). bits n k k) is ∙ in-digit 64 rest (word-bits at a).0 k k (omega arith) in
          ap (λ (n : ℕ). eqb n 1) here ∙ (word-bits at a).1 k (omega arith)
