-- Entries of a region after a store: the one stored, and every other.
use Prim.Native.Nat.{ℕ, zero, suc, ◌+◌, ◌-◌, ◌*◌, ◌/◌, ◌^◌, ◌<◌, ◌≤◌}
use mathlib.Core.Bool.{true, false, not}
use mathlib.Core.Path.{◌≡◌, refl, ap, ◌∙◌}
use mathlib.Core.List.{List, ◌++◌, append_assoc}
use mathlib.Core.Logic.{◌⊎◌, inl, inr}
use native.Mathlib.Decide.{dec_le}
use native.Mathlib.Nat.{pow-suc}
use native.Mathlib.Omega.{arith}
use borrow.Author.Tests.{not-true}
use lib.ListN.{length, get_or, take, drop, length-append, length-drop, get_or-append}
use lib.Seq.{length-take-le, take_at, drop_at, get_or-take, get_or-drop, get_or-append-add}
use Rattle.image.specs.Bytes.{little_endian, bytes_of}
use Rattle.image.specs.Memory.{word_at, with_word}
use Rattle.image.proofs.Bytes.{length-bytes_of}
use Rattle.image.proofs.Choices.{both}
use Rattle.image.proofs.Same.{same-entry}
use Rattle.image.proofs.Stores.{stored, not-stored}
use Rattle.image.proofs.Words.{inside, words_in, spell_one}
use Rattle.tables.specs.Tables.{held_entry, present, absent, words_zeroed}

-- a number's bytes spell it
spelled-bytes : (n word : ℕ) → word < 256 ^ n → little_endian (bytes_of n word) ≡ word
unfolding little_endian bytes_of
spelled-bytes zero word h = omega arith
spelled-bytes (suc n) word h =
    let less : word / 256 < 256 ^ n = omega (arith, pow-suc 256 n) in
    rw (spelled-bytes n (word / 256) less) (omega arith)

module _ (bytes : List ℕ) (at word : ℕ) where
  pub length-stored : length (with_word bytes at word) ≡ length bytes
  length-stored = go (dec_le (at + 8) (length bytes))
    where
      go : Dec (at + 8 ≤ length bytes) → length (with_word bytes at word) ≡ length bytes
      go (yes h) =
          rw (stored bytes at word h)
          (simp (length-append, length-bytes_of, length-drop, length-take-le at bytes (omega arith)) (omega arith))
      go (no h) = ap length (not-stored bytes at word (omega arith))

  head-length : at + 8 ≤ length bytes → length (take at bytes ++ bytes_of 8 word) ≡ at + 8
  head-length h = simp (length-append, length-bytes_of, length-take-le at bytes (omega arith))

  pub byte-kept : at + 8 ≤ length bytes → (k : ℕ) → (k < at) ⊎ (at + 8 ≤ k) → get_or (with_word bytes at word) k 0 ≡ get_or bytes k 0
  byte-kept h k (inl less) =
      let first : length (take at bytes) ≡ at = length-take-le at bytes (omega arith) in
      let in-first : k < length (take at bytes) = omega arith in
      let in_head : k < length (take at bytes ++ bytes_of 8 word) = omega (arith, head-length h) in
      rw (stored bytes at word h, get_or-append (take at bytes ++ bytes_of 8 word) (drop (at + 8) bytes) 0 k in_head, get_or-append (take at bytes) (bytes_of 8 word) 0 k in-first)
      (get_or-take at bytes k 0 less)
  byte-kept h k (inr more) =
      let place : k ≡ length (take at bytes ++ bytes_of 8 word) + (k - (at + 8)) = omega (arith, head-length h) in
      let place' : at + 8 + (k - (at + 8)) ≡ k = omega arith in
      ap (λ (b : List ℕ). get_or b k 0) (stored bytes at word h)
      ∙ ap (λ (i : ℕ). get_or (take at bytes ++ bytes_of 8 word ++ drop (at + 8) bytes) i 0) place
      ∙ get_or-append-add (take at bytes ++ bytes_of 8 word) (drop (at + 8) bytes) (k - (at + 8)) 0
      ∙ get_or-drop (at + 8) bytes (k - (at + 8)) 0 ∙ ap (λ (i : ℕ). get_or bytes i 0) place'

  pub entry_kept : (other : ℕ) → (other + 8 ≤ at) ⊎ (at + 8 ≤ other) → held_entry (with_word bytes at word) other ≡ held_entry bytes other
  unfolding held_entry
  entry_kept other apart = go (dec_le (at + 8) (length bytes))
    where
      side : (k : ℕ) → other ≤ k → k < other + 8 → (other + 8 ≤ at) ⊎ (at + 8 ≤ other) → (k < at) ⊎ (at + 8 ≤ k)
      side k from to (inl h) = inl (omega arith)
      side k from to (inr h) = inr (omega arith)

      go : Dec (at + 8 ≤ length bytes) → held_entry (with_word bytes at word) other ≡ held_entry bytes other
      go (yes h) =
          rw (same-entry bytes (with_word bytes at word) length-stored 1 other (λ k from to. byte-kept h k (side k from (omega arith) apart)))
      go (no h) = ap (λ (b : List ℕ). held_entry b other) (not-stored bytes at word (omega arith))

  pub entry-stored : at + 8 ≤ length bytes → word < 2 ^ 64 → held_entry (with_word bytes at word) at ≡ word
  unfolding held_entry word_at words_in
  entry-stored h fits =
      let still : at + 8 ≤ length (with_word bytes at word) = rw length-stored h in
      let first : length (take at bytes) ≡ at = length-take-le at bytes (omega arith) in
      rw (inside (with_word bytes at word) 1 at still, spell_one, stored bytes at word h, append_assoc (take at bytes) (bytes_of 8 word) (drop (at + 8) bytes), drop_at (take at bytes) (bytes_of 8 word ++ drop (at + 8) bytes) at first, take_at (bytes_of 8 word) (drop (at + 8) bytes) 8 (length-bytes_of 8 word))
      (spelled-bytes 8 word fits)

-- so many words that are 0
pub length-zeroed : (n : ℕ) (bytes : List ℕ) (at : ℕ) → length (words_zeroed n bytes at) ≡ length bytes
unfolding words_zeroed
length-zeroed zero bytes at = refl
length-zeroed (suc n) bytes at = length-zeroed n (with_word bytes at 0) (at + 8) ∙ length-stored bytes at 0

pub zeroed-elsewhere : (n : ℕ) (bytes : List ℕ) (at other : ℕ) → (other + 8 ≤ at) ⊎ (at + 8 * n ≤ other)
    → held_entry (words_zeroed n bytes at) other ≡ held_entry bytes other
unfolding words_zeroed
zeroed-elsewhere zero bytes at other apart = refl
zeroed-elsewhere (suc n) bytes at other (inl h) =
    zeroed-elsewhere n (with_word bytes at 0) (at + 8) other (inl (omega arith)) ∙ entry_kept bytes at 0 other (inl h)
zeroed-elsewhere (suc n) bytes at other (inr h) =
    zeroed-elsewhere n (with_word bytes at 0) (at + 8) other (inr (omega arith)) ∙ entry_kept bytes at 0 other (inr (omega arith))

pub zeroed-there : (n : ℕ) (bytes : List ℕ) (at k : ℕ) → at + 8 * n ≤ length bytes → k < n → held_entry (words_zeroed n bytes at) (at + 8 * k) ≡ 0
unfolding words_zeroed
zeroed-there zero bytes at k h less = absurd (omega arith)
zeroed-there (suc n) bytes at zero h less =
    let here : at + 8 * 0 ≡ at = omega arith in
    rw here
    (zeroed-elsewhere n (with_word bytes at 0) (at + 8) at (inl (omega arith)) ∙ entry-stored bytes at 0 (omega arith) (omega arith))
zeroed-there (suc n) bytes at (suc k) h less =
    let next : at + 8 * suc k ≡ at + 8 + 8 * k = omega arith in
    rw next (zeroed-there n (with_word bytes at 0) (at + 8) k (rw (length-stored bytes at 0) (omega arith)) (omega arith))

-- none of so many entries is present
pub each-absent : (n : ℕ) (bytes : List ℕ) (at k : ℕ) → absent n bytes at ≡ true → k < n → present (held_entry bytes (at + 8 * k)) ≡ false
unfolding absent
each-absent zero bytes at k h less = absurd (omega arith)
each-absent (suc n) bytes at zero h less =
    let here : at + 8 * 0 ≡ at = omega arith in
    rw here (not-true (present (held_entry bytes at)) (both (not (present (held_entry bytes at))) (absent n bytes (at + 8)) h).0)
each-absent (suc n) bytes at (suc k) h less =
    let next : at + 8 * suc k ≡ at + 8 + 8 * k = omega arith in
    rw next (each-absent n bytes (at + 8) k (both (not (present (held_entry bytes at))) (absent n bytes (at + 8)) h).1 (omega arith))
