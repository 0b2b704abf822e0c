-- A region's copy and what is written of it.
use Prim.Native.Nat.{ℕ, zero, suc, ◌+◌, ◌*◌, ◌^◌, ◌≤◌, ◌<◌}
use mathlib.Core.Bool.{false}
use mathlib.Core.Path.{◌≡◌, refl, sym, ◌∙◌}
use mathlib.Core.List.{List}
use mathlib.Core.Logic.{◌⊎◌, inl, inr}
use native.Mathlib.Decide.{dec_le}
use native.Mathlib.Omega.{arith}
use lib.ListN.{length, get_or, drop}
use lib.Seq.{get_or-drop}
use Rattle.image.specs.Memory.{Memory, found, entry, on_fetch, word_at, of_image, with_word}
use Rattle.image.specs.Windows.{windows_of, here, spot_in, of_windows, byte_at, bad_windows}
use Rattle.image.proofs.Bytes.{AreBytes, bytes_below}
use Rattle.image.proofs.Same.{one_word}
use Rattle.image.proofs.Words.{word-inside, outside}
use Rattle.interrupts.specs.Claims.{Shows}
use Rattle.takes.proofs.Memories.{same-entry}
use Rattle.region.specs.Copy.{word_shown, stored_at, copied_in, copied_out}
use Rattle.tables.specs.Tables.{held_entry}
use Rattle.leaves.proofs.Entries.{length-stored, entry-stored, entry_kept}
use Rattle.built.proofs.Stores.{bytes_word}
use Rattle.built.proofs.Through.{length_at, run-kept, host-kept, word-at}

module _ (windows copy : List ℕ) (start : ℕ) where
  pub length-out : (n at : ℕ) (run : List ℕ) → length (copied_out windows copy start n at run) ≡ length run
  unfolding copied_out
  length-out zero at run = refl
  length-out (suc n) at run =
      length-out n (at + 8) (stored_at windows (start + at) (held_entry copy at) run) ∙ length_at windows (start + at) (held_entry copy at) run

  -- a place of the run that none of its words has
  pub run_out : (n at : ℕ) (run : List ℕ) → bad_windows windows (length run) ≡ false → (k : ℕ)
      → ((a : ℕ) → start + at ≤ a → a < start + at + 8 * n → Shows windows a k → ⊥) → get_or (copied_out windows copy start n at run) k 0 ≡ get_or run k 0
  unfolding copied_out
  run_out zero at run good k off = refl
  run_out (suc n) at run good k off =
      let next = stored_at windows (start + at) (held_entry copy at) run in
      let fine : bad_windows windows (length next) ≡ false = rw (length_at windows (start + at) (held_entry copy at) run) good in
      run_out n (at + 8) next fine k (λ a low high. off a (omega arith) (omega arith))
      ∙ run-kept windows (start + at) (held_entry copy at) run good k (λ a low high. off a low (omega arith))

  -- a byte at another host address
  pub host-out : (n at : ℕ) (run : List ℕ) → bad_windows windows (length run) ≡ false → (a : ℕ) → (a < start + at) ⊎ (start + at + 8 * n ≤ a)
      → byte_at windows (copied_out windows copy start n at run) a ≡ byte_at windows run a
  unfolding copied_out
  host-out zero at run good a other = refl
  host-out (suc n) at run good a other =
      let next = stored_at windows (start + at) (held_entry copy at) run in
      let fine : bad_windows windows (length next) ≡ false = rw (length_at windows (start + at) (held_entry copy at) run) good in
      host-out n (at + 8) next fine a (later other) ∙ host-kept windows (start + at) (held_entry copy at) run good a (now other)
    where
      later : (a < start + at) ⊎ (start + at + 8 * suc n ≤ a) → (a < start + (at + 8)) ⊎ (start + (at + 8) + 8 * n ≤ a)
      later (inl x) = inl (omega arith)
      later (inr x) = inr (omega arith)

      now : (a < start + at) ⊎ (start + at + 8 * suc n ≤ a) → (a < start + at) ⊎ (start + at + 8 ≤ a)
      now (inl x) = inl x
      now (inr x) = inr (omega arith)

  -- an entry of other bytes
  pub entry-out : (n at : ℕ) (run : List ℕ) → bad_windows windows (length run) ≡ false → (words a : ℕ)
      → (a + 8 * words ≤ start + at) ⊎ (start + at + 8 * n ≤ a)
      → entry words (of_windows windows (copied_out windows copy start n at run)) a ≡ entry words (of_windows windows run) a
  entry-out n at run good words a other =
      same-entry windows run (copied_out windows copy start n at run) good (rw (length-out n at run) good) words a
      (λ i small. host-out n at run good (a + i) (side i small other))
    where
      side : (i : ℕ) → i < 8 * words → (a + 8 * words ≤ start + at) ⊎ (start + at + 8 * n ≤ a) → (a + i < start + at) ⊎ (start + at + 8 * n ≤ a + i)
      side i small (inl x) = inl (omega arith)
      side i small (inr x) = inr (omega arith)

  -- one of its words
  pub word_out : (n at : ℕ) (run : List ℕ) → bad_windows windows (length run) ≡ false → (k : ℕ) → k < n → {place left : ℕ}
      → spot_in (windows_of windows) 8 (start + (at + 8 * k)) ≡ here place left → held_entry copy (at + 8 * k) < 2 ^ 64
      → of_windows windows (copied_out windows copy start n at run) (start + (at + 8 * k)) ≡ found (held_entry copy (at + 8 * k))
  unfolding copied_out
  word_out zero at run good k few is small = absurd (omega arith)
  word_out (suc n) at run good zero few is small =
      let first : at + 8 * 0 ≡ at = omega arith in
      let next = stored_at windows (start + at) (held_entry copy at) run in
      let fine : bad_windows windows (length next) ≡ false = rw (length_at windows (start + at) (held_entry copy at) run) good in
      rw first
      (sym (one_word (of_windows windows (copied_out windows copy start n (at + 8) next)) (start + at))
      ∙ entry-out n (at + 8) next fine 1 (start + at) (inl (omega arith))
      ∙ one_word (of_windows windows next) (start + at)
      ∙ word-at windows (start + at) (held_entry copy at) run good (rw first at is) (rw first at small))
  word_out (suc n) at run good (suc k) few is small =
      let there : at + 8 * suc k ≡ at + 8 + 8 * k = omega arith in
      let next = stored_at windows (start + at) (held_entry copy at) run in
      let fine : bad_windows windows (length next) ≡ false = rw (length_at windows (start + at) (held_entry copy at) run) good in
      rw there (word_out n (at + 8) next fine k (omega arith) (rw there at is) (rw there at small))

-- words of a copy
pub entry-below : (bytes : List ℕ) → AreBytes bytes → (at : ℕ) → held_entry bytes at < 2 ^ 64
unfolding held_entry word_at
entry-below bytes are at = by (dec_le (at + 8) (length bytes))
  where
    by : Dec (at + 8 ≤ length bytes) → on_fetch (entry 1 (of_image bytes) at) 0 (λ e. e) < 2 ^ 64
    by (yes fits) = rw (word-inside bytes at fits) (bytes_below 8 (drop at bytes) (λ i. rw (get_or-drop at bytes i 0) (are (at + i))))
    by (no out) = rw (outside bytes 0 at (omega arith)) (omega arith)

-- the words of a memory in a copy
module _ (m : Memory) (start : ℕ) where
  pub length-in : (n at : ℕ) (copy : List ℕ) → length (copied_in m start n at copy) ≡ length copy
  unfolding copied_in
  length-in zero at copy = refl
  length-in (suc n) at copy =
      length-in n (at + 8) (with_word copy at (word_shown m (start + at))) ∙ length-stored copy at (word_shown m (start + at))

  pub bytes-in : (n at : ℕ) (copy : List ℕ) → AreBytes copy → AreBytes (copied_in m start n at copy)
  unfolding copied_in
  bytes-in zero at copy are = are
  bytes-in (suc n) at copy are = bytes-in n (at + 8) (with_word copy at (word_shown m (start + at))) (bytes_word copy at (word_shown m (start + at)) are)

  other-in : (n at : ℕ) (copy : List ℕ) (a : ℕ) → a + 8 ≤ at → held_entry (copied_in m start n at copy) a ≡ held_entry copy a
  unfolding copied_in
  other-in zero at copy a low = refl
  other-in (suc n) at copy a low =
      other-in n (at + 8) (with_word copy at (word_shown m (start + at))) a (omega arith) ∙ entry_kept copy at (word_shown m (start + at)) a (inl low)

  pub word_in : (n at : ℕ) (copy : List ℕ) → at + 8 * n ≤ length copy → (k : ℕ) → k < n → word_shown m (start + (at + 8 * k)) < 2 ^ 64
      → held_entry (copied_in m start n at copy) (at + 8 * k) ≡ word_shown m (start + (at + 8 * k))
  unfolding copied_in
  word_in zero at copy fits k few small = absurd (omega arith)
  word_in (suc n) at copy fits zero few small =
      let first : at + 8 * 0 ≡ at = omega arith in
      rw first
      (other-in n (at + 8) (with_word copy at (word_shown m (start + at))) at (omega arith)
      ∙ entry-stored copy at (word_shown m (start + at)) (omega arith) (rw first at small))
  word_in (suc n) at copy fits (suc k) few small =
      let there : at + 8 * suc k ≡ at + 8 + 8 * k = omega arith in
      let next = with_word copy at (word_shown m (start + at)) in
      let room : at + 8 + 8 * n ≤ length next = rw (length-stored copy at (word_shown m (start + at))) (omega arith) in
      rw there (word_in n (at + 8) next room k (omega arith) (rw there at small))
