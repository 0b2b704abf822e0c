-- Entries that are the same: one of one word, and one whose bytes are the same in two images of one length.
use Rattle.std.proofs.Common.{◌≡◌, ℕ, zero, suc, ◌+◌, ◌*◌, ◌<◌, ◌≤◌, List, length, get_or, refl, add-zero, mul-zero, arith, le-leb}
use native.Mathlib.Decide.{dec_le}
use borrow.Author.Tests.{lt-leb}
use Rattle.image.specs.Memory.{Memory, Fetched, missing, found, join, word_at, of_image, entry}
use Rattle.image.proofs.Words.{bytes_from, part}

-- an entry of one word is that word
pub one_word : (m : Memory) (at : ℕ) → entry 1 m at ≡ m at
unfolding entry
one_word m at = by (m at)
  where
    by : (f : Fetched) → join f (found 0) ≡ f
    by missing = refl
    by (found w) = simp (mul-zero, add-zero)

module _ (image image' : List ℕ) (same_length : length image' ≡ length image) where
  pub same_bytes : (n at : ℕ) → ((k : ℕ) → at ≤ k → k < at + n → get_or image' k 0 ≡ get_or image k 0)
      → bytes_from image' n at ≡ bytes_from image n at
  unfolding bytes_from
  same_bytes zero at same = refl
  same_bytes (suc n) at same =
      let first : get_or image' at 0 ≡ get_or image at 0 = same at (omega arith) (omega arith) in
      rw (first, same_bytes n (at + 1) (λ k from to. same k (omega arith) (omega arith)))

  same_word : (at : ℕ) → ((k : ℕ) → at ≤ k → k < at + 8 → get_or image' k 0 ≡ get_or image k 0) → of_image image' at ≡ of_image image at
  unfolding of_image word_at
  same_word at same = go (dec_le (at + 8) (length image))
    where
      go : Dec (at + 8 ≤ length image) → of_image image' at ≡ of_image image at
      go (yes h) =
          let h' : at + 8 ≤ length image' = omega arith in
          rw (le-leb (at + 8) (length image') h', le-leb (at + 8) (length image) h, part image' 8 at h', part image 8 at h, same_bytes 8 at same)
      go (no h) =
          rw (lt-leb (at + 8) (length image') (omega arith), lt-leb (at + 8) (length image) (omega arith))

  pub same-entry : (n at : ℕ) → ((k : ℕ) → at ≤ k → k < at + 8 * n → get_or image' k 0 ≡ get_or image k 0)
      → entry n (of_image image') at ≡ entry n (of_image image) at
  unfolding entry
  same-entry zero at same = refl
  same-entry (suc n) at same =
      rw (same_word at (λ k from to. same k from (omega arith)), same-entry n (at + 8) (λ k from to. same k (omega arith) (omega arith)))
