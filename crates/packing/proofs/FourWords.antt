-- An answer's bytes from its four words.
use Prim.Native.Nat.{ℕ, ◌+◌, ◌*◌, ◌^◌, ◌<◌}
use mathlib.Core.Path.{◌≡◌, ◌∙◌}
use mathlib.Core.List.{List, [], ◌∷◌, ◌++◌, append-nil, append_assoc}
use native.Mathlib.Nat.{mul-zero, add-zero}
use native.Mathlib.Omega.{arith}
use lib.ListN.{length, drop_of_length-le}
use Rattle.image.specs.Bytes.{bytes_of, spell}
use Rattle.image.specs.Memory.{with_word}
use Rattle.image.proofs.Bytes.{byte-before}
use Rattle.image.proofs.Stores.{with_words, all-stored, words-beside}
use Rattle.image.specs.Entry.{Words}
use Rattle.image.proofs.Words.{spell_one}

pub head_bytes_lem : (kind one two three four : ℕ) → kind < 256 → one < 256 → two < 256 → three < 256
    → bytes_of 8 (kind + one * 256 + two * 65536 + three * 16777216 + four * 4294967296) ≡ kind ∷ one ∷ two ∷ three ∷ bytes_of 4 four
head_bytes_lem kind one two three four h0 h1 h2 h3 =
    let nested : kind + one * 256 + two * 65536 + three * 16777216 + four * 4294967296
    ≡ kind + 256 * (one + 256 * (two + 256 * (three + 256 * four))) = omega arith in
    rw (nested, byte-before 7 kind _ h0, byte-before 6 one _ h1, byte-before 5 two _ h2, byte-before 4 three four h3)

-- four words stored one behind the other fill a buffer of 32 bytes
pub four-stored : (buffer : List ℕ) (head low high last : ℕ) → length buffer ≡ 32 → head < 2 ^ 64 → low < 2 ^ 64 → high < 2 ^ 64 → last < 2 ^ 64
    → with_word (with_word (with_word (with_word buffer 0 head) 8 low) 16 high) 24 last
    ≡ bytes_of 8 head ++ bytes_of 16 (spell (low ∷ high ∷ [])) ++ bytes_of 8 last
unfolding with_words Words
four-stored buffer head low high last sized h l g k =
    all-stored (head ∷ low ∷ high ∷ last ∷ []) buffer 0 (omega arith) (h, (l, (g, (k, tt))))
    ∙ rw (
      drop_of_length-le buffer {i = 32} (omega arith),
      append-nil,
      words-beside head (low ∷ high ∷ last ∷ []) 24 h,
      words-beside low (high ∷ last ∷ []) 16 l,
      words-beside high (last ∷ []) 8 g,
      words-beside low (high ∷ []) 8 l,
      spell_one last,
      spell_one high,
      ← append_assoc (bytes_of 8 low) (bytes_of 8 high) (bytes_of 8 last),
      ← append_assoc (bytes_of 8 head) (bytes_of 8 low ++ bytes_of 8 high) (bytes_of 8 last),
    )

pub low-alone : (low : ℕ) → spell (low ∷ 0 ∷ []) ≡ low
unfolding spell
low-alone low = simp (mul-zero, add-zero)
