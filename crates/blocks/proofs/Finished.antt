-- A block that was finished is framed: its parts, one by one.
use Prim.Native.Nat.{ℕ, zero, suc, ◌+◌, ◌*◌, ◌-◌, ◌^◌, ◌≤◌, ◌<◌}
use mathlib.Core.Path.{◌≡◌, refl, ap, sym, ◌∙◌}
use mathlib.Core.List.{List, [], ◌∷◌, ◌++◌, append_assoc}
use mathlib.Core.Bool.{true}
use native.Mathlib.Nat.{mod-eq_of_lt, mul-le-mul_left, mul-le-mul_right, mul-suc}
use native.Mathlib.Omega.{arith}
use borrow.Author.Tests.{eq-eqb, le-leb}
use lib.Dec.{eqb, lit<}
use lib.ListN.{length, get_or, take, drop, replicate, length-append, length-replicate}
use lib.Seq.{take_at, drop_at, drop-drop, take_all}
use Rattle.image.specs.Bytes.{bytes_of, little_endian}
use Rattle.image.proofs.Bytes.{AreBytes, length-bytes_of, number-back, bytes-append, bytes-number}
use Rattle.blocks.specs.Block.{weighed, zeros, count, number, headed, unused, sum_held, sum_of, framed}
use Rattle.blocks.specs.Written.{body, block_bytes}
use Rattle.blocks.proofs.Frames.{all-but-sum}

pub bytes-zeros : (n : ℕ) → AreBytes (replicate n 0)
bytes-zeros zero i = lit< tt
bytes-zeros (suc n) zero = lit< tt
bytes-zeros (suc n) (suc i) = bytes-zeros n i

pub zeros-are : (n : ℕ) → zeros (replicate n 0) ≡ true
unfolding zeros
zeros-are zero = refl
zeros-are (suc n) = zeros-are n

-- the sum of bytes is small
pub weighed-below : (k top : ℕ) (xs : List ℕ) → AreBytes xs → k + length xs ≤ top → weighed k xs ≤ 255 * top * length xs
unfolding weighed
weighed-below k top [] bytes h = omega arith
weighed-below k top (x ∷ xs) bytes h =
    let rest = weighed-below (suc k) top xs (λ i. bytes (suc i)) (omega arith) in
    let first : x * (k + 1) ≤ x * top = mul-le-mul_left x (omega arith) in
    let byte = bytes 0 in
    let most : x * top ≤ 255 * top = mul-le-mul_right top (omega arith) in
    let split : 255 * top * suc (length xs) ≡ 255 * top * length xs + 255 * top = mul-suc (255 * top) (length xs) in
    rw split (omega arith)

module _ (at n : ℕ) (held : List ℕ) (sized : length held ≡ 32 * n) (few : n ≤ 15) where
  pub body-length : length (body at n held) ≡ 508
  unfolding body
  body-length = simp (length-append, length-bytes_of, length-replicate, sized) (omega arith)

  pub block-length : length (block_bytes at n held) ≡ 512
  unfolding block_bytes
  block-length = simp (length-append, length-bytes_of, body-length)

  apart : (s : List ℕ) → body at n held ++ s ≡ 0x56 ∷ n ∷ (bytes_of 6 at ++ (held ++ (replicate (500 - 32 * n) 0 ++ s)))
  unfolding body
  apart s =
      ap (λ (l : List ℕ). 0x56 ∷ n ∷ l)
      (append_assoc (bytes_of 6 at) (held ++ replicate (500 - 32 * n) 0) s
      ∙ ap (λ (l : List ℕ). bytes_of 6 at ++ l) (append_assoc held (replicate (500 - 32 * n) 0) s))

  block_apart : block_bytes at n held ≡ 0x56 ∷ n ∷ (bytes_of 6 at ++ (held ++ (replicate (500 - 32 * n) 0 ++ bytes_of 4 (weighed 0 (body at n held)))))
  unfolding block_bytes
  block_apart = apart (bytes_of 4 (weighed 0 (body at n held)))

  mark : get_or (block_bytes at n held) 0 0 ≡ 0x56
  mark = ap (λ (l : List ℕ). get_or l 0 0) block_apart

  pub counted : count (block_bytes at n held) ≡ n
  counted = ap (λ (l : List ℕ). get_or l 1 0) block_apart

  pub from-eight : drop 8 (block_bytes at n held) ≡ held ++ (replicate (500 - 32 * n) 0 ++ bytes_of 4 (weighed 0 (body at n held)))
  from-eight = ap (λ (l : List ℕ). drop 8 l) block_apart ∙ drop_at (bytes_of 6 at) _ 6 (length-bytes_of 6 at)

  number-held : at < 256 ^ 6 → number (block_bytes at n held) ≡ at
  number-held small =
      ap (λ (l : List ℕ). little_endian (take 6 (drop 2 l))) block_apart
      ∙ ap little_endian (take_at (bytes_of 6 at) (held ++ (replicate (500 - 32 * n) 0 ++ bytes_of 4 (weighed 0 (body at n held)))) 6 (length-bytes_of 6 at))
      ∙ number-back 6 at
      ∙ mod-eq_of_lt small

  head : at < 256 ^ 6 → 1 ≤ n → headed (block_bytes at n held) at ≡ true
  unfolding headed
  head small some =
      rw (mark, counted, le-leb 1 n some, le-leb n 15 few, number-held small, eq-eqb at at refl)

  unused-blank : zeros (unused (block_bytes at n held)) ≡ true
  unused-blank =
      let end : 508 - (8 + 32 * n) ≡ 500 - 32 * n = omega arith in
      let behind : drop (8 + 32 * n) (block_bytes at n held) ≡ replicate (500 - 32 * n) 0 ++ bytes_of 4 (weighed 0 (body at n held)) =
      sym (drop-drop (32 * n) 8 (block_bytes at n held))
      ∙ ap (λ (l : List ℕ). drop (32 * n) l) from-eight
      ∙ drop_at held (replicate (500 - 32 * n) 0 ++ bytes_of 4 (weighed 0 (body at n held))) (32 * n) sized in
      ap (λ (k : ℕ). zeros (take (508 - (8 + 32 * k)) (drop (8 + 32 * k) (block_bytes at n held)))) counted
      ∙ ap (λ (k : ℕ). zeros (take k (drop (8 + 32 * n) (block_bytes at n held)))) end
      ∙ ap (λ (l : List ℕ). zeros (take (500 - 32 * n) l)) behind
      ∙ ap zeros (take_at (replicate (500 - 32 * n) 0) (bytes_of 4 (weighed 0 (body at n held))) (500 - 32 * n) (length-replicate (500 - 32 * n) 0))
      ∙ zeros-are (500 - 32 * n)

  body_bytes : AreBytes held → AreBytes (body at n held)
  unfolding body
  body_bytes bytes zero = omega arith
  body_bytes bytes (suc zero) = omega arith
  body_bytes bytes (suc (suc i)) =
      bytes-append (bytes_of 6 at) (held ++ replicate (500 - 32 * n) 0) (bytes-number 6 at)
      (bytes-append held (replicate (500 - 32 * n) 0) bytes (bytes-zeros (500 - 32 * n)))
      i

  sum-right : AreBytes held → eqb (sum_held (block_bytes at n held)) (sum_of (block_bytes at n held)) ≡ true
  unfolding block_bytes
  sum-right bytes =
      let most = weighed-below 0 508 (body at n held) (body_bytes bytes) (rw body-length (omega arith)) in
      let small : weighed 0 (body at n held) < 256 ^ 4 = omega (arith, rw body-length at most) in
      let front : take 508 (body at n held ++ bytes_of 4 (weighed 0 (body at n held))) ≡ body at n held =
      take_at (body at n held) (bytes_of 4 (weighed 0 (body at n held))) 508 body-length in
      let back : drop 508 (body at n held ++ bytes_of 4 (weighed 0 (body at n held))) ≡ bytes_of 4 (weighed 0 (body at n held)) =
      drop_at (body at n held) (bytes_of 4 (weighed 0 (body at n held))) 508 body-length in
      let whole : take 4 (bytes_of 4 (weighed 0 (body at n held))) ≡ bytes_of 4 (weighed 0 (body at n held)) =
      take_all 4 (bytes_of 4 (weighed 0 (body at n held))) (rw (length-bytes_of 4 (weighed 0 (body at n held))) (omega arith)) in
      eq-eqb _ _
      (ap (λ (l : List ℕ). little_endian (take 4 l)) back
      ∙ ap little_endian whole
      ∙ number-back 4 (weighed 0 (body at n held))
      ∙ mod-eq_of_lt small
      ∙ sym (ap (λ (l : List ℕ). weighed 0 l) front))

  pub block-framed : 1 ≤ n → at < 256 ^ 6 → AreBytes held → framed (block_bytes at n held) at ≡ true
  block-framed some small bytes = all-but-sum (block_bytes at n held) at block-length (head small some) unused-blank ∙ sum-right bytes
