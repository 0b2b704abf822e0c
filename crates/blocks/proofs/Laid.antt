-- Bytes laid into a buffer, and a block finished.
use Prim.Native.Nat.{ℕ, ◌+◌, ◌*◌, ◌-◌, ◌≤◌, ◌<◌}
use mathlib.Core.Path.{◌≡◌, refl, ap, sym, ◌∙◌}
use mathlib.Core.List.{List, [], ◌∷◌, ◌++◌, append_assoc, append-nil}
use native.Mathlib.Nat.{div-div-eq-div-mul}
use native.Mathlib.Omega.{arith}
use lib.ListN.{length, take, drop, set, replicate, length-append, length-drop, length-replicate, drop_of_length-le}
use lib.Seq.{drop-drop, take-add, take_at, drop_at, drop-set-lt, length-take-le}
use Rattle.std.proofs.Common.{w64}
use Rattle.std.specs.Int.{to_le_bytes}
use Rattle.image.specs.Bytes.{bytes_of}
use Rattle.image.proofs.Bytes.{length-bytes_of}
use Rattle.blocks.specs.Block.{weighed}
use Rattle.blocks.specs.Written.{body, block_bytes, held_in}
use Rattle.blocks.specs.Written as written
use borrow.Author.Tests.{eq-eqb, le-leb}

-- a part of a buffer written over
pub written_over : (buffer : List ℕ) (at n : ℕ) {part s : List ℕ} → part ≡ s
    → take at buffer ++ (part ++ drop n (drop at buffer)) ≡ take at buffer ++ s ++ drop (at + n) buffer
written_over buffer at n {part} {s} e = rw (e, drop-drop n at buffer) (sym (append_assoc (take at buffer) s (drop (at + n) buffer)))

-- the lowest bytes of a number, of all that it has
pub lowest-six : (value : ℕ) {bytes : List ℕ} → bytes ≡ to_le_bytes w64 value → take 6 bytes ≡ bytes_of 6 value
unfolding bytes_of
lowest-six value e = rw e (simp div-div-eq-div-mul)

pub lowest-four : (value : ℕ) {bytes : List ℕ} → bytes ≡ to_le_bytes w64 value → take 4 bytes ≡ bytes_of 4 value
unfolding bytes_of
lowest-four value e = rw e (simp div-div-eq-div-mul)

length-laid : (buffer : List ℕ) (at n : ℕ) (s : List ℕ) → length s ≡ n → at + n ≤ length buffer
    → length (take at buffer ++ s ++ drop (at + n) buffer) ≡ length buffer
length-laid buffer at n s sized fits =
    simp (length-append, length-drop, length-take-le at buffer (omega arith), sized) (omega arith)

-- the two first bytes
first_two : (xs : List ℕ) (a b : ℕ) → 2 ≤ length xs → take 2 (set (set xs 0 a) 1 b) ≡ a ∷ b ∷ []
first_two [] a b h = absurd (omega arith)
first_two (x ∷ []) a b h = absurd (omega arith)
first_two (x ∷ y ∷ xs) a b h = refl

-- a block finished in its buffer: the unused bytes cleared, mark and count, the number, the sum
module _ (buffer : List ℕ) (number n : ℕ) (whole : length buffer ≡ 512) (few : n ≤ 15) where
  module _ {cleared numbered : List ℕ}
      (one : cleared ≡ take (8 + 32 * n) buffer ++ replicate (500 - 32 * n) 0 ++ drop (8 + 32 * n + (500 - 32 * n)) buffer)
      (two : numbered ≡ take 2 (set (set cleared 0 0x56) 1 n) ++ bytes_of 6 number ++ drop (2 + 6) (set (set cleared 0 0x56) 1 n)) where
    cleared-length : length cleared ≡ 512
    cleared-length =
        ap length one
        ∙ length-laid buffer (8 + 32 * n) (500 - 32 * n) (replicate (500 - 32 * n) 0) (length-replicate (500 - 32 * n) 0) (omega arith)
        ∙ whole

    behind-eight : drop 8 cleared ≡ held_in buffer n ++ replicate (500 - 32 * n) 0 ++ drop 508 buffer
    behind-eight =
        let end : 8 + 32 * n + (500 - 32 * n) ≡ 508 = omega arith in
        let eight : length (take 8 buffer) ≡ 8 = length-take-le 8 buffer (omega arith) in
        rw (one, end, take-add 8 (32 * n) buffer, append_assoc (take 8 buffer) (take (32 * n) (drop 8 buffer)) (replicate (500 - 32 * n) 0), append_assoc (take 8 buffer) (take (32 * n) (drop 8 buffer) ++ replicate (500 - 32 * n) 0) (drop 508 buffer))
        (drop_at (take 8 buffer) (take (32 * n) (drop 8 buffer) ++ replicate (500 - 32 * n) 0 ++ drop 508 buffer) 8 eight)

    bodied : numbered ≡ body number n (held_in buffer n) ++ drop 508 buffer
    unfolding body
    bodied =
        two
        ∙ rw (first_two cleared 0x56 n (rw cleared-length (omega arith)), drop-set-lt 8 (set cleared 0 0x56) 1 n (omega arith), drop-set-lt 8 cleared 0 0x56 (omega arith), behind-eight)
        (ap (λ (l : List ℕ). 0x56 ∷ n ∷ l) (sym (append_assoc (bytes_of 6 number) (held_in buffer n ++ replicate (500 - 32 * n) 0) (drop 508 buffer))))

    body-length : length (body number n (held_in buffer n)) ≡ 508
    unfolding body
    body-length =
        simp (length-append, length-bytes_of, length-replicate, length-take-le (32 * n) (drop 8 buffer) (simp length-drop (omega arith)))
        (omega arith)

    numbered-length : length numbered ≡ 512
    numbered-length = ap length bodied ∙ simp (length-append, length-drop, body-length) (omega arith)

    pub finished : {sum : ℕ} {done : List ℕ} → sum ≡ weighed 0 (take 508 numbered)
        → done ≡ take 508 numbered ++ bytes_of 4 sum ++ drop (508 + 4) numbered → done ≡ block_bytes number n (held_in buffer n)
    unfolding block_bytes
    finished {sum} {done} summed laid =
        let front : take 508 numbered ≡ body number n (held_in buffer n) =
        ap (λ (l : List ℕ). take 508 l) bodied ∙ take_at (body number n (held_in buffer n)) (drop 508 buffer) 508 body-length in
        let none : drop (508 + 4) numbered ≡ [] = drop_of_length-le numbered {i = 508 + 4} (omega (arith, numbered-length)) in
        laid ∙ rw (none, summed, front, append-nil (body number n (held_in buffer n) ++ bytes_of 4 (weighed 0 (body number n (held_in buffer n)))))

-- an entry laid behind those that a buffer holds
pub appended : (buffer : List ℕ) (n : ℕ) (entry : List ℕ) {after : List ℕ} → length buffer ≡ 512 → n < 15 → length entry ≡ 32
    → after ≡ take (8 + 32 * n) buffer ++ entry ++ drop (8 + 32 * n + length entry) buffer
    → (length after ≡ 512) × (held_in after (n + 1) ≡ held_in buffer n ++ entry)
appended buffer n entry {after} whole few sized laid =
    let eight : length (take 8 buffer) ≡ 8 = length-take-le 8 buffer (omega arith) in
    let held : length (held_in buffer n) ≡ 32 * n = length-take-le (32 * n) (drop 8 buffer) (simp length-drop (omega arith)) in
    let more : length (held_in buffer n ++ entry) ≡ 32 * (n + 1) = simp (length-append, held, sized) (omega arith) in
    let rest = drop (8 + 32 * n + length entry) buffer in
    let apart : drop 8 after ≡ held_in buffer n ++ entry ++ rest =
    rw (laid, take-add 8 (32 * n) buffer, append_assoc (take 8 buffer) (held_in buffer n) entry, append_assoc (take 8 buffer) (held_in buffer n ++ entry) rest)
    (drop_at (take 8 buffer) (held_in buffer n ++ entry ++ rest) 8 eight) in (
      ap length laid ∙ length-laid buffer (8 + 32 * n) (length entry) entry refl (omega arith) ∙ whole,
      ap (λ (l : List ℕ). take (32 * (n + 1)) l) apart ∙ take_at (held_in buffer n ++ entry) rest (32 * (n + 1)) more,
    )

-- what is finished
pub made : (buffer : List ℕ) (number n : ℕ) → length buffer ≡ 512 → n ≤ 15
    → written.finished buffer number n ≡ block_bytes number n (held_in buffer n)
unfolding written.finished
made buffer number n whole few = rw (eq-eqb (length buffer) 512 whole, le-leb n 15 few)
