-- An entry comes back from its bytes, and 32 bytes from their entry.
use Prim.Native.Nat.{ℕ, ◌+◌, ◌^◌, ◌≤◌, ◌<◌}
use mathlib.Core.Path.{◌≡◌, refl, ap, ◌∙◌}
use mathlib.Core.List.{List, ◌++◌}
use native.Mathlib.Nat.{div-one, mod-eq_of_lt}
use native.Mathlib.Omega.{arith}
use borrow.Author.Tests.{eq-eqb}
use lib.ListN.{length, get_or, take, drop, length-drop, length-append}
use lib.Seq.{take-add, take_all, get_or-drop}
use Rattle.image.specs.Bytes.{bytes_of}
use Rattle.image.specs.Memory.{word_at}
use Rattle.image.proofs.Bytes.{number-back, bytes_back, bytes_below, length-bytes_of}
use Rattle.image.proofs.Fields.{fits, to-top}
use Rattle.traced.specs.Decoded.{entry_well, decoded, DecodedAgain}
use Rattle.traced.specs.Entry.{entry_bytes, traced_in, Fits, EntryBack, BytesAgain}
use Rattle.traced.specs.declared.Traced.{Traced}
use Rattle.traced.proofs.Heads.{head_of, message_of, head_bytes_lem, head-below, message-bytes, message-below, kind-of, answer-of, number_of, flags_of, source_of, vector-of, posted-of, data_of, destination-of, digit}

-- four words side by side
abbrev pub four_words : (a b c d : ℕ) → List ℕ
four_words a b c d = bytes_of 8 a ++ bytes_of 8 b ++ bytes_of 8 c ++ bytes_of 8 d

pub four : (e : Traced) → Fits e → entry_bytes e ≡ four_words (head_of e) e.address (message_of e) e.value
unfolding entry_bytes
four e f = rw (head_bytes_lem e f, message-bytes e f)

module _ (a b c d : ℕ) where
  first : a < 2 ^ 64 → word_at (four_words a b c d) 0 ≡ a
  unfolding word_at bytes_of
  first h = number-back 8 a ∙ mod-eq_of_lt h

  second : b < 2 ^ 64 → word_at (four_words a b c d) 8 ≡ b
  unfolding word_at bytes_of
  second h = number-back 8 b ∙ mod-eq_of_lt h

  third : c < 2 ^ 64 → word_at (four_words a b c d) 16 ≡ c
  unfolding word_at bytes_of
  third h = number-back 8 c ∙ mod-eq_of_lt h

  fourth : d < 2 ^ 64 → word_at (four_words a b c d) 24 ≡ d
  unfolding word_at bytes_of
  fourth h = number-back 8 d ∙ mod-eq_of_lt h

  four-length : length (four_words a b c d) ≡ 32
  four-length = simp (length-append, length-bytes_of)

pub entry-back : EntryBack
unfolding traced_in
entry-back e f =
    rw (
      four e f,
      first (head_of e) e.address (message_of e) e.value (head-below e f),
      second (head_of e) e.address (message_of e) e.value f.address-fits,
      third (head_of e) e.address (message_of e) e.value (message-below e f),
      fourth (head_of e) e.address (message_of e) e.value f.value-fits,
      kind-of e f,
      answer-of e f,
      number_of e f,
      flags_of e f,
      source_of e f,
      vector-of e f,
      posted-of e f,
      data_of e f,
      destination-of e f,
    )

pub entry_length : (e : Traced) → Fits e → length (entry_bytes e) ≡ 32
entry_length e f = ap length (four e f) ∙ four-length (head_of e) e.address (message_of e) e.value

module _ (bytes : List ℕ) (sized : length bytes ≡ 32) (are : (i : ℕ) → get_or bytes i 0 < 256) where
  word_below : (at : ℕ) → word_at bytes at < 2 ^ 64
  unfolding word_at
  word_below at = bytes_below 8 (drop at bytes) (λ i. rw get_or-drop (are (at + i)))

  pub fields_fit : Fits (traced_in bytes)
  unfolding traced_in
  fields_fit =
      record {
        kind_fits = fits (word_at bytes 0) 7 0;
        answer-fits = fits (word_at bytes 0) 15 8;
        number_fits = fits (word_at bytes 0) 23 16;
        flags-fits = fits (word_at bytes 0) 31 24;
        source_fits = fits (word_at bytes 0) 47 32;
        vector-fits = fits (word_at bytes 0) 55 48;
        posted-fits = fits (word_at bytes 0) 63 56;
        address-fits = word_below 8;
        data-fits = fits (word_at bytes 16) 31 0;
        destination-fits = fits (word_at bytes 16) 63 32;
        value-fits = word_below 24;
      }

  head-back : head_of (traced_in bytes) ≡ word_at bytes 0
  unfolding traced_in
  head-back =
      let w = word_at bytes 0 in
      digit w 7 0 8 8 refl refl
      (digit w 15 8 8 16 refl refl
      (digit w 23 16 8 24 refl refl
      (digit w 31 24 8 32 refl refl
      (digit w 47 32 16 48 refl refl
      (digit w 55 48 8 56 refl refl (to-top w 64 63 56 (word_below 0) (omega arith) (omega arith)))))))
      ∙ div-one w

  message-back : message_of (traced_in bytes) ≡ word_at bytes 16
  unfolding traced_in
  message-back =
      let w = word_at bytes 16 in
      digit w 31 0 32 32 refl refl (to-top w 64 63 32 (word_below 16) (omega arith) (omega arith)) ∙ div-one w

  word_back : (at : ℕ) → at + 8 ≤ 32 → bytes_of 8 (word_at bytes at) ≡ take 8 (drop at bytes)
  unfolding word_at
  word_back at h = bytes_back 8 (drop at bytes) (simp length-drop (omega arith)) (λ i. rw get_or-drop (are (at + i)))

  joined : take 8 (drop 0 bytes) ++ take 8 (drop 8 bytes) ++ take 8 (drop 16 bytes) ++ take 8 (drop 24 bytes) ≡ bytes
  joined =
      rw (← take-add 8 8 bytes, ← take-add 16 8 bytes, ← take-add 24 8 bytes)
      (take_all 32 bytes (omega arith))

  words_back : four_words (word_at bytes 0) (word_at bytes 8) (word_at bytes 16) (word_at bytes 24) ≡ bytes
  words_back =
      rw (word_back 0 (omega arith), word_back 8 (omega arith), word_back 16 (omega arith), word_back 24 (omega arith)) joined

  back : entry_bytes (traced_in bytes) ≡ bytes
  unfolding traced_in
  back = four (traced_in bytes) fields_fit ∙ rw (head-back, message-back) words_back

pub bytes-again : BytesAgain
bytes-again = back

pub decoded-again : DecodedAgain
unfolding decoded entry_well
decoded-again e f =
    rw (entry-back e f, eq-eqb (length (entry_bytes e)) 32 (entry_length e f))
