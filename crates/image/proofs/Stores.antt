-- Words stored in a run of bytes: one law for any number of words, one behind the other.
use Rattle.std.proofs.Common.{◌≡◌, ℕ, suc, ◌+◌, ◌*◌, ◌^◌, ◌<◌, ◌≤◌, List, [], ◌∷◌, ◌++◌, length, take, drop, set, sym, refl, ◌∙◌, append_assoc, append-nil, add-zero, add_assoc, arith, length-append, length-drop, take-append-drop, length-take-le, drop-drop, take_at, drop_at, le-leb}
use borrow.Author.Tests.{lt-leb}
use Rattle.image.specs.Bytes.{bytes_of, spell}
use Rattle.image.specs.Entry.{Words}
use Rattle.image.specs.Memory.{with_word}
use Rattle.image.proofs.Bytes.{length-bytes_of, bytes-beside}

-- a store of a word, where it lies whole in the image and where it doesn't
module _ (image : List ℕ) (at word : ℕ) where
  pub stored : at + 8 ≤ length image → with_word image at word ≡ take at image ++ bytes_of 8 word ++ drop (at + 8) image
  unfolding with_word
  stored h = rw (le-leb (at + 8) (length image) h)

  pub not-stored : length image < at + 8 → with_word image at word ≡ image
  unfolding with_word
  not-stored h = rw (lt-leb (at + 8) (length image) h)

-- a second run of bytes right behind a first, in a buffer: both are one run
behind : (buffer : List ℕ) (at n m : ℕ) (xs ys : List ℕ) → length xs ≡ n → at + n ≤ length buffer → {first : List ℕ}
    → first ≡ take at buffer ++ xs ++ drop (at + n) buffer
    → take (at + n) first ++ ys ++ drop (at + n + m) first ≡ take at buffer ++ (xs ++ ys) ++ drop (at + n + m) buffer
behind buffer at n m xs ys sized fits laid =
    let head : length (take at buffer ++ xs) ≡ at + n = simp (length-append, length-take-le at buffer (omega arith), sized) in
    rw (laid, take_at (take at buffer ++ xs) (drop (at + n) buffer) (at + n) head, ← drop-drop m (at + n) (take at buffer ++ xs ++ drop (at + n) buffer), drop_at (take at buffer ++ xs) (drop (at + n) buffer) (at + n) head, drop-drop m (at + n) buffer, append_assoc (take at buffer) xs ys)

-- words stored one behind the other
unfoldable pub with_words : List ℕ → ℕ → List ℕ → List ℕ
with_words image at [] = image
with_words image at (w ∷ ws) = with_words (with_word image at w) (at + 8) ws

length-stored : (image : List ℕ) (at word : ℕ) → at + 8 ≤ length image → length (with_word image at word) ≡ length image
length-stored image at word h =
    rw (stored image at word h)
    (simp (length-append, length-bytes_of, length-drop, length-take-le at image (omega arith)) (omega arith))

none : (value : ℕ) → bytes_of 0 value ≡ []
unfolding bytes_of
none value = refl

-- the first word of a run, then the others
pub words-beside : (w : ℕ) (ws : List ℕ) (n : ℕ) → w < 2 ^ 64 → bytes_of (8 + n) (spell (w ∷ ws)) ≡ bytes_of 8 w ++ bytes_of n (spell ws)
unfolding spell
words-beside w ws n h = sym (bytes-beside 8 n w (spell ws) h)

pub all-stored : (ws image : List ℕ) (at : ℕ) → at + 8 * length ws ≤ length image → Words ws
    → with_words image at ws ≡ take at image ++ bytes_of (8 * length ws) (spell ws) ++ drop (at + 8 * length ws) image
unfolding with_words Words spell
all-stored [] image at h words =
    rw (none 0, add-zero at, append-nil (take at image)) (sym (take-append-drop at image))
all-stored (w ∷ ws) image at h words =
    let n = 8 * length ws in
    let fits : at + 8 ≤ length image = omega arith in
    let more : 8 * suc (length ws) ≡ 8 + n = omega arith in
    all-stored ws (with_word image at w) (at + 8) (rw (length-stored image at w fits) (omega arith)) words.1
    ∙ behind image at 8 n (bytes_of 8 w) (bytes_of n (spell ws)) (length-bytes_of 8 w) fits (stored image at w fits)
    ∙ rw (bytes-beside 8 n w (spell ws) words.0, more, ← add_assoc at 8 n)

-- both of two numbers
pub both-set : (numbers : List ℕ) (a b : ℕ) → length numbers ≡ 2 → set (set numbers 0 a) 1 b ≡ a ∷ b ∷ []
both-set [] a b h = absurd (omega arith)
both-set (x ∷ []) a b h = absurd (omega arith)
both-set (x ∷ (y ∷ [])) a b h = refl
both-set (x ∷ (y ∷ (z ∷ rest))) a b h = absurd (omega arith)
