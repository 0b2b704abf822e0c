-- What stands in the image's words: one law for an entry of any number of words, where it lies in the image and where it doesn't.
use Rattle.std.proofs.Common.{◌≡◌, ℕ, zero, suc, ◌+◌, ◌*◌, ◌<◌, ◌≤◌, List, [], ◌∷◌, length, get_or, take, drop, sym, refl, ap, ◌∙◌, add-zero, add_assoc, mul-zero, add-one, arith, length-drop, drop-cons, drop-drop, le-leb}
use native.Mathlib.Decide.{dec_le}
use borrow.Author.Tests.{lt-leb}
use Rattle.image.specs.Bytes.{little_endian, spell}
use Rattle.image.specs.Memory.{Fetched, missing, found, on_fetch, join, word_at, of_image, entry}
use Rattle.image.proofs.Bytes.{run-split}

-- so many bytes from an address, and so many words
unfoldable pub bytes_from : List ℕ → ℕ → ℕ → List ℕ
bytes_from image zero at = []
bytes_from image (suc n) at = get_or image at 0 ∷ bytes_from image n (at + 1)

unfoldable pub words_in : List ℕ → ℕ → ℕ → List ℕ
words_in image zero at = []
words_in image (suc n) at = word_at image at ∷ words_in image n (at + 8)

pub join-missing : (f : Fetched) → join f missing ≡ missing
join-missing missing = refl
join-missing (found w) = refl

module _ (image : List ℕ) where
  pub part : (n at : ℕ) → at + n ≤ length image → take n (drop at image) ≡ bytes_from image n at
  unfolding bytes_from
  part zero at h = refl
  part (suc n) at h =
      let inside : at < length image = omega arith in
      rw (drop-cons image at 0) (ap (λ (l : List ℕ). get_or image at 0 ∷ l) (rw (← add-one at) (part n (at + 1) (omega arith))))

  -- a word byte by byte
  pub spelled : (at : ℕ) → at + 8 ≤ length image
      → word_at image at
      ≡ get_or image at 0
      + 256 * (get_or image (at + 1) 0
      + 256 * (get_or image (at + 2) 0
      + 256 * (get_or image (at + 3) 0
      + 256 * (get_or image (at + 4) 0
      + 256 * (get_or image (at + 5) 0
      + 256 * (get_or image (at + 6) 0
      + 256 * get_or image (at + 7) 0))))))
  unfolding word_at little_endian bytes_from
  spelled at h = rw (part 8 at h) (simp (add_assoc, mul-zero, add-zero))

  -- an entry that lies whole in the image is the number that its words spell
  pub inside : (n at : ℕ) → at + 8 * n ≤ length image → entry n (of_image image) at ≡ found (spell (words_in image n at))
  unfolding entry of_image spell words_in
  inside zero at h = refl
  inside (suc n) at h =
      let fits : at + 8 ≤ length image = omega arith in
      rw (le-leb (at + 8) (length image) fits, inside n (at + 8) (omega arith))

  -- an entry of which a byte lies outside is missing
  pub outside : (n at : ℕ) → length image < at + 8 * suc n → entry (suc n) (of_image image) at ≡ missing
  unfolding entry of_image
  outside zero at h =
      let past : length image < at + 8 = omega arith in
      rw (lt-leb (at + 8) (length image) past)
  outside (suc n) at h = rw (outside n (at + 8) (omega arith)) (join-missing (of_image image at))

  -- the same as a fetch says it: the words that it read are those of the image
  pub fetched : (n at : ℕ) (ws : List ℕ) → at + 8 * n ≤ length image → ws ≡ words_in image n at → found (spell ws) ≡ entry n (of_image image) at
  fetched n at ws h e = ap (λ (l : List ℕ). found (spell l)) e ∙ sym (inside n at h)

-- words one behind the other spell the number of all their bytes
pub spell-run : (image : List ℕ) (n at : ℕ) → at + 8 * n ≤ length image → spell (words_in image n at) ≡ little_endian (take (8 * n) (drop at image))
unfolding spell words_in word_at little_endian
spell-run image zero at h = refl
spell-run image (suc n) at h =
    let more : 8 * suc n ≡ 8 + 8 * n = omega arith in
    let fits : 8 ≤ length (drop at image) = rw (length-drop at image) (omega arith) in
    rw (spell-run image n (at + 8) (omega arith), ← drop-drop 8 at image, more)
    (sym (run-split 8 (8 * n) (drop at image) fits))

-- what was read word by word, and an entry of the image as that number
pub read-words : (image : List ℕ) (n at : ℕ) (ws : List ℕ) → at + 8 * n ≤ length image → ws ≡ words_in image n at
    → spell ws ≡ little_endian (take (8 * n) (drop at image))
read-words image n at ws h e = ap spell e ∙ spell-run image n at h

pub whole-image : (image : List ℕ) (n at : ℕ) → at + 8 * n ≤ length image
    → found (little_endian (take (8 * n) (drop at image))) ≡ entry n (of_image image) at
whole-image image n at h = ap found (sym (spell-run image n at h)) ∙ sym (inside image n at h)

pub spell_one : (w : ℕ) → spell (w ∷ []) ≡ w
unfolding spell
spell_one w = simp (mul-zero, add-zero)

pub word-inside : (image : List ℕ) (at : ℕ) → at + 8 ≤ length image → entry 1 (of_image image) at ≡ found (word_at image at)
unfolding words_in
word-inside image at h = inside image 1 at (omega arith) ∙ ap found (spell_one (word_at image at))

-- an entry that was fetched lies whole in the image
pub whole-entry : (image : List ℕ) (n at : ℕ) {e : ℕ} → entry (suc n) (of_image image) at ≡ found e → at + 8 * suc n ≤ length image
whole-entry image n at {e} h = go (dec_le (at + 8 * suc n) (length image))
  where
    go : Dec (at + 8 * suc n ≤ length image) → at + 8 * suc n ≤ length image
    go (yes i) = i
    go (no o) =
        let lacks = outside image n at (omega arith) in
        let z : ◌≡◌ {A = ℕ} 0 1 = cc in
        absurd (omega arith)

-- a word of a buffer, 0 where it doesn't lie whole in it
abbrev pub word_or0 : List ℕ → ℕ → ℕ
word_or0 b at = on_fetch (entry 1 (of_image b) at) 0 (λ w. w)

pub whole_word : (b : List ℕ) (at : ℕ) → at + 8 ≤ length b → word_or0 b at ≡ word_at b at
unfolding words_in
whole_word b at h = rw (inside b 1 at h) (spell_one (word_at b at))
