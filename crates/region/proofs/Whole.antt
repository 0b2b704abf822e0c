-- A region that a single window shows whole: the words that are copied are the bytes there.
use Rattle.std.proofs.Common.{◌≡◌, ℕ, zero, suc, ◌+◌, ◌-◌, ◌*◌, ◌≤◌, List, ◌++◌, length, take, drop, sym, refl, ap, ◌∙◌, arith, get_or-drop, length-drop, le-leb, false, Some}
use Rattle.image.specs.Bytes.{little_endian, bytes_of}
use Rattle.image.specs.Entry.{Words}
use Rattle.image.specs.Memory.{word_at, with_word}
use Rattle.image.specs.Windows.{Spot, nowhere, here, spot_in, windows_of, entry_in, of_windows, bad_windows}
use Rattle.image.proofs.Bytes.{AreBytes, bytes_below, bytes_back}
use Rattle.image.proofs.GoodWindows.{good}
use Rattle.image.proofs.Same.{one_word}
use Rattle.image.proofs.Stores.{with_words, all-stored}
use Rattle.image.proofs.WindowBytes.{byte-spot}
use Rattle.image.proofs.WindowEntries.{wider, spot_in_lem}
use Rattle.image.proofs.Words.{words_in, spell-run}
use Rattle.region.specs.Copy.{place_shown, word_shown, copied_in}

-- a spot whose place was told
pub record Spotted (spot : Spot) (place : ℕ) : Type 0 where
  pub left : ℕ
  pub is : spot ≡ here place left

pub spotted : (spot : Spot) {place : ℕ} → place_shown spot ≡ Some place → Spotted spot place
spotted nowhere h = absurd (cc)
spotted (here there left) {place} h = let e : there ≡ place = cc in record { left = left; is = rw e refl }

-- so many words of bytes, and that each has 64 bits
length-words : (run : List ℕ) (n at : ℕ) → length (words_in run n at) ≡ n
unfolding words_in
length-words run zero at = refl
length-words run (suc n) at = ap suc (length-words run n (at + 8))

are-words : (run : List ℕ) → AreBytes run → (n at : ℕ) → Words (words_in run n at)
unfolding words_in Words word_at
are-words run are zero at = tt
are-words run are (suc n) at =
    (bytes_below 8 (drop at run) (λ i. rw (get_or-drop at run i 0) (are (at + i))), are-words run are n (at + 8))

-- the words of bytes, stored one behind the other, are these bytes
bytes-stored : (from to : List ℕ) → AreBytes from → (n read write : ℕ) → read + 8 * n ≤ length from → write + 8 * n ≤ length to
    → take write to ++ take (8 * n) (drop read from) ++ drop (write + 8 * n) to ≡ with_words to write (words_in from n read)
bytes-stored from to are n read write inside room =
    let sized = length-words from n read in
    let bytes : bytes_of (8 * n) (little_endian (take (8 * n) (drop read from))) ≡ take (8 * n) (drop read from) =
    bytes_back (8 * n) (drop read from) (rw (length-drop read from) (omega arith)) (λ i. rw (get_or-drop read from i 0) (are (read + i)))
    in
    let laid = all-stored (words_in from n read) to write (rw sized room) (are-words from are n read) in
    sym (rw (sized, spell-run from n read inside, bytes) at laid)

module _ (windows : List ℕ) (len : ℕ) (fine : bad_windows windows len ≡ false) (start size : ℕ) {place left : ℕ}
    (spot : spot_in (windows_of windows) size start ≡ here place left) where
  -- all of them lie in the run
  pub whole-room : place + size ≤ len
  whole-room =
      let lies = spot_in_lem len (windows_of windows) size start (good windows len fine) spot in
      omega (arith, lies.0, lies.1)

  word-spot : (i : ℕ) → i + 8 ≤ size → spot_in (windows_of windows) 8 (start + i) ≡ here (place + i) (left - i)
  word-spot i h =
      let lies = spot_in_lem len (windows_of windows) size start (good windows len fine) spot in
      wider len (windows_of windows) 8 (start + i) (good windows len fine) (omega arith)
      ∙ rw (byte-spot windows len fine size start i spot (omega arith), le-leb 8 (left - i) (omega (arith, lies.1)))

  shown-there : (run : List ℕ) (i : ℕ) → i + 8 ≤ size → word_shown (of_windows windows run) (start + i) ≡ word_at run (place + i)
  unfolding word_shown of_windows entry_in word_at
  shown-there run i h = rw (one_word (of_windows windows run) (start + i), word-spot i h)

  words-in : (run : List ℕ) (n i : ℕ) → i + 8 * n ≤ size → (copy : List ℕ)
      → copied_in (of_windows windows run) start n i copy ≡ with_words copy i (words_in run n (place + i))
  unfolding copied_in with_words words_in
  words-in run zero i h copy = refl
  words-in run (suc n) i h copy =
      let next : place + i + 8 ≡ place + (i + 8) = omega arith in
      rw (shown-there run i (omega arith), next) (words-in run n (i + 8) (omega arith) (with_word copy i (word_at run (place + i))))

  module _ (run copy : List ℕ) (same : length run ≡ len) (room : size ≤ length copy) (n : ℕ) (h : 8 * n ≤ size) where
    from : place + 0 ≡ place
    from = omega arith

    pub bytes-in : AreBytes run → take 0 copy ++ take (8 * n) (drop place run) ++ drop (0 + 8 * n) copy ≡ copied_in (of_windows windows run) start n 0 copy
    bytes-in are =
        bytes-stored run copy are n place 0 (omega (arith, whole-room)) (omega arith)
        ∙ sym (rw from at (words-in run n 0 (omega arith) copy))
