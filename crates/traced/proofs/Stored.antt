-- An entry laid into a buffer, and read from one.
use Prim.Native.Nat.{ℕ, ◌+◌, ◌-◌, ◌^◌, ◌≤◌, ◌<◌}
use mathlib.Core.Path.{◌≡◌, ap, ◌∙◌}
use mathlib.Core.Bool.{Bool, true, false}
use mathlib.Core.List.{List, [], ◌∷◌, ◌++◌, append_assoc}
use native.Mathlib.Nat.{add_assoc, add-zero}
use native.Mathlib.Omega.{arith}
use borrow.Author.Tests.{le-leb, eq-eqb, ne_eqb}
use lib.Dec.{leb}
use lib.ListN.{length, take, drop, length-take, length-drop}
use lib.Seq.{drop-drop, take-take, length-take-le}
use Rattle.image.specs.Bits.{bits}
use Rattle.image.specs.Bytes.{little_endian, bytes_of, spell}
use Rattle.std.specs.Prelude.{if◌then◌else◌}
use Rattle.std.specs.Bool.{then_some}
use Rattle.image.specs.Memory.{word_at, with_word}
use Rattle.image.proofs.Pages.{drop-take}
use Rattle.image.proofs.Stores.{with_words, all-stored, words-beside}
use Rattle.image.specs.Entry.{Words}
use Rattle.image.proofs.Words.{spell_one, word_or0, whole_word}
use Rattle.traced.specs.Answers.{decoded_of}
use Rattle.traced.specs.Decoded.{malformed, entry_well, decoded}
use Rattle.traced.specs.Entry.{head_bytes, entry_bytes, traced_in}
use Rattle.traced.specs.Well.{well_traced}
use Rattle.traced.specs.declared.Traced.{Traced}

module _ (a b c d : ℕ) (ha : a < 2 ^ 64) (hb : b < 2 ^ 64) (hc : c < 2 ^ 64) (hd : d < 2 ^ 64) where
  four-words : bytes_of 32 (spell (a ∷ b ∷ c ∷ d ∷ [])) ≡ bytes_of 8 a ++ bytes_of 8 b ++ bytes_of 8 c ++ bytes_of 8 d
  four-words =
      rw (
        words-beside a (b ∷ c ∷ d ∷ []) 24 ha,
        words-beside b (c ∷ d ∷ []) 16 hb,
        words-beside c (d ∷ []) 8 hc,
        spell_one d,
        ← append_assoc (bytes_of 8 b) (bytes_of 8 c) (bytes_of 8 d),
        ← append_assoc (bytes_of 8 a) (bytes_of 8 b ++ bytes_of 8 c) (bytes_of 8 d),
        ← append_assoc (bytes_of 8 a) (bytes_of 8 b) (bytes_of 8 c),
      )

  -- four words stored one behind the other are the entry whose words they are
  pub entry-stored : (buffer : List ℕ) (at : ℕ) (e : Traced) → at + 32 ≤ length buffer
      → bytes_of 8 a ≡ head_bytes e → b ≡ e.address → bytes_of 8 c ≡ bytes_of 4 e.«data» ++ bytes_of 4 e.destination → d ≡ e.value
      → with_word (with_word (with_word (with_word buffer at a) (at + 8) b) (at + 16) c) (at + 24) d
      ≡ (if leb (at + 32) (length buffer) then take at buffer ++ entry_bytes e ++ drop (at + 32) buffer else buffer)
  unfolding with_words Words entry_bytes
  entry-stored buffer at e fits one two three four =
      rw (le-leb (at + 32) (length buffer) fits, ← one, ← two, ← three, ← four, ← four-words)
      (rw (add_assoc at 8 8, add_assoc at 16 8) at (all-stored (a ∷ b ∷ c ∷ d ∷ []) buffer at (omega arith) (ha, (hb, (hc, (hd, tt))))))

-- a word of an entry is the buffer's
pub word-within : (b : List ℕ) (at k : ℕ) → k + 8 ≤ 32 → word_at (take 32 (drop at b)) k ≡ word_at b (at + k)
unfolding word_at
word-within b at k h =
    let split : 32 ≡ k + (32 - k) = omega arith in
    let part : drop k (take 32 (drop at b)) ≡ take (32 - k) (drop (at + k) b) =
    ap (λ (n : ℕ). drop k (take n (drop at b))) split ∙ drop-take k (32 - k) (drop at b) ∙ ap (λ (l : List ℕ). take (32 - k) l) (drop-drop k at b) in
    ap little_endian (ap (λ (l : List ℕ). take 8 l) part ∙ take-take 8 (32 - k) (drop (at + k) b) (omega arith))

-- the fields of the four words that are read are those of the entry
pub read-fields : (b : List ℕ) (at : ℕ) → at + 32 ≤ length b
    → ◌≡◌ {A = Traced}
    (record {
      kind = bits (word_or0 b at) 7 0;
      answer = bits (word_or0 b at) 15 8;
      number = bits (word_or0 b at) 23 16;
      flags = bits (word_or0 b at) 31 24;
      source = bits (word_or0 b at) 47 32;
      vector = bits (word_or0 b at) 55 48;
      posted = bits (word_or0 b at) 63 56;
      address = word_or0 b (at + 8);
      «data» = bits (word_or0 b (at + 16)) 31 0;
      destination = bits (word_or0 b (at + 16)) 63 32;
      value = word_or0 b (at + 24);
    })
    (traced_in (take 32 (drop at b)))
unfolding traced_in
read-fields b at whole =
    rw (
      whole_word b at (omega arith),
      whole_word b (at + 8) (omega arith),
      whole_word b (at + 16) (omega arith),
      whole_word b (at + 24) (omega arith),
      word-within b at 0 (omega arith),
      word-within b at 8 (omega arith),
      word-within b at 16 (omega arith),
      word-within b at 24 (omega arith),
      add-zero at,
    )

-- the bytes that an entry is decoded from, where there are 32 of them and where there aren't
module _ (b : List ℕ) (at : ℕ) where
  pub too_few : length b < at + 32 → malformed ≡ decoded (take 32 (drop at b))
  unfolding decoded entry_well
  too_few past =
      let short : length (take 32 (drop at b)) ≡ 32 → ⊥ = λ e. let sized = simp (length-take, length-drop) at e in omega arith in
      rw (ne_eqb (length (take 32 (drop at b))) 32 short)

  module _ (whole : at + 32 ≤ length b) where
    sized : length (take 32 (drop at b)) ≡ 32
    sized = length-take-le 32 (drop at b) (simp length-drop (omega arith))

    pub by-test : {e : Traced} (t : Bool) → e ≡ traced_in (take 32 (drop at b)) → t ≡ well_traced e
        → decoded_of (then_some t e) ≡ decoded (take 32 (drop at b))
    unfolding decoded entry_well
    by-test true same well = rw (eq-eqb (length (take 32 (drop at b))) 32 sized, ← same, ← well)
    by-test false same well = rw (eq-eqb (length (take 32 (drop at b))) 32 sized, ← same, ← well)
