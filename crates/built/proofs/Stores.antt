-- A word stored in a run of bytes.
use Prim.Native.Nat.{ℕ, ◌+◌, ◌≤◌}
use mathlib.Core.Path.{◌≡◌, ap, ◌∙◌}
use mathlib.Core.List.{List, ◌++◌, append_assoc}
use native.Mathlib.Decide.{dec_le}
use native.Mathlib.Omega.{arith}
use lib.ListN.{length, take, drop}
use lib.Seq.{length-take-le, take_at, drop_at, get_or-drop}
use Rattle.image.specs.Bytes.{bytes_of}
use Rattle.image.specs.Memory.{with_word}
use Rattle.image.proofs.Bytes.{AreBytes, length-bytes_of, bytes-taken, bytes-append, bytes-number}
use Rattle.image.proofs.Stores.{stored, not-stored}

module _ (bytes : List ℕ) (at word : ℕ) where
  -- the 8 bytes there
  pub word-laid : at + 8 ≤ length bytes → take 8 (drop at (with_word bytes at word)) ≡ bytes_of 8 word
  word-laid fits =
      ap (λ (l : List ℕ). take 8 (drop at l)) (stored bytes at word fits ∙ append_assoc (take at bytes) (bytes_of 8 word) (drop (at + 8) bytes))
      ∙ ap (take 8) (drop_at (take at bytes) (bytes_of 8 word ++ drop (at + 8) bytes) at (length-take-le at bytes (omega arith)))
      ∙ take_at (bytes_of 8 word) (drop (at + 8) bytes) 8 (length-bytes_of 8 word)

  pub bytes_word : AreBytes bytes → AreBytes (with_word bytes at word)
  bytes_word are = by (dec_le (at + 8) (length bytes))
    where
      by : Dec (at + 8 ≤ length bytes) → AreBytes (with_word bytes at word)
      by (yes fits) =
          rw (stored bytes at word fits)
          (bytes-append (take at bytes ++ bytes_of 8 word) (drop (at + 8) bytes)
          (bytes-append (take at bytes) (bytes_of 8 word) (bytes-taken at bytes are) (bytes-number 8 word))
          (λ i. rw (get_or-drop (at + 8) bytes i 0) (are (at + 8 + i))))
      by (no out) = rw (not-stored bytes at word (omega arith)) are
