-- So many bytes of a run laid over those of another, part by part.
use Rattle.std.proofs.Common.{◌≡◌, ℕ, zero, suc, ◌+◌, ◌≤◌, List, [], ◌∷◌, ◌++◌, length, take, drop, sym, refl, ap, ◌∙◌, zero-add, add-zero, suc-add, append_assoc, append-nil, take-append-drop, arith, take_at, drop_at, drop-drop, length-append, length-take-le}
use borrow.Rule.Slice.PartMut.{put_mid}

take-both : (k m : ℕ) (xs : List ℕ) → k ≤ length xs → take (k + m) xs ≡ take k xs ++ take m (drop k xs)
take-both zero m xs h = rw (zero-add m) refl
take-both (suc k) m [] h = absurd (omega arith)
take-both (suc k) m (x ∷ xs) h = rw (suc-add k m) (ap (λ (l : List ℕ). x ∷ l) (take-both k m xs (omega arith)))

four : (a b c d : List ℕ) → (a ++ b) ++ (c ++ d) ≡ (a ++ (b ++ c)) ++ d
four a b c d = append_assoc a b (c ++ d) ∙ sym (append_assoc a (b ++ c) d ∙ ap (λ (l : List ℕ). a ++ l) (append_assoc b c d))

module _ (at : ℕ) (from to : List ℕ) where
  pub none-yet : to ≡ take at to ++ take 0 from ++ drop (at + 0) to
  none-yet = rw (add-zero at, append-nil (take at to)) (sym (take-append-drop at to))

  pub one-more : (k m : ℕ) {now part : List ℕ} → k ≤ length from → at + k ≤ length to → now ≡ take at to ++ take k from ++ drop (at + k) to
      → part ≡ take m (drop k from) → put_mid (at + k) m now part ≡ take at to ++ take (k + m) from ++ drop (at + (k + m)) to
  one-more k m fits room laid is =
      let head = take at to ++ take k from in
      let sized : length head ≡ at + k = simp (length-append, length-take-le at to (omega arith), length-take-le k from fits) in
      let end : at + (k + m) ≡ at + k + m = omega arith in
      rw (laid, is, take_at head (drop (at + k) to) (at + k) sized, drop_at head (drop (at + k) to) (at + k) sized, drop-drop m (at + k) to, take-both k m from fits, end)
      (four (take at to) (take k from) (take m (drop k from)) (drop (at + k + m) to))
