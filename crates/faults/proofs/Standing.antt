-- How many records stand in a buffer, when one of its slots is written.
use Prim.Native.Nat.{ℕ, zero, suc, ◌+◌, ◌*◌, ◌-◌, ◌%◌, ◌^◌, ◌<◌, ◌≤◌}
use mathlib.Core.Path.{◌≡◌, refl}
use mathlib.Core.Bool.{true, false}
use mathlib.Core.List.{List, [], ◌∷◌, ◌++◌, append_assoc}
use native.Mathlib.Nat.{zero-add, suc-add, mod-mod, mod-lt, div-eq_of_lt, add-div_right}
use native.Mathlib.Decide.{dec_le}
use native.Mathlib.Omega.{arith}
use lib.ListN.{length, take, drop, length-append, length-drop}
use lib.Pow.{field, pow_pos}
use lib.Seq.{take_at, drop_at, drop-drop, take-take, take-append-le, length-take-le, drop-append-le}
use Rattle.image.specs.Bits.{bits, bit}
use Rattle.image.specs.Bytes.{bytes_of}
use Rattle.faults.specs.Slots.{record_at, with_record, standing, standing_in, set127, clear127}
use Rattle.image.proofs.Bytes.{length-bytes_of, number-back}
use Rattle.image.specs.Choice.{one-if}

-- bit 127 of 128 bits, of a number with it set, and of one with it clear
low_bit : (v : ℕ) → bit (v % 2 ^ 128) 127 ≡ bit v 127
unfolding bits
low_bit v = rw (field v 1 127, mod-mod)

pub set-bit : (v : ℕ) → bit (set127 v) 127 ≡ true
unfolding bits
set-bit v = rw (add-div_right (v % 2 ^ 127) (pow_pos 127), div-eq_of_lt (mod-lt v (pow_pos 127)))

pub clear-bit : (v : ℕ) → bit (clear127 v) 127 ≡ false
unfolding bits
clear-bit v = rw (div-eq_of_lt (mod-lt v (pow_pos 127)))

-- a part of a list by what stands before its end
part : (n m : ℕ) (xs : List ℕ) → n ≤ length xs → take m (drop n xs) ≡ drop n (take (n + m) xs)
part zero m xs h = rw (zero-add m)
part (suc n) m [] h = absurd (omega arith)
part (suc n) m (x ∷ xs) h = rw (suc-add n m) (part n m xs (omega arith))

module _ (buffer : List ℕ) (slots slot contents : ℕ) (sized : length buffer ≡ 16 * slots) (inside : slot < slots) where
  head : length (take (16 * slot) buffer) ≡ 16 * slot
  head = length-take-le (16 * slot) buffer (omega arith)

  pub length-with_record : length (with_record buffer slot contents) ≡ 16 * slots
  unfolding with_record
  length-with_record =
      simp (length-append, head, length-bytes_of 16 contents, length-drop) (omega arith)

  record_same : record_at (with_record buffer slot contents) slot ≡ contents % 2 ^ 128
  unfolding record_at with_record
  record_same =
      rw (
        append_assoc (take (16 * slot) buffer) (bytes_of 16 contents) (drop (16 * slot + 16) buffer),
        drop_at (take (16 * slot) buffer) (bytes_of 16 contents ++ drop (16 * slot + 16) buffer) (16 * slot) head,
        take_at (bytes_of 16 contents) (drop (16 * slot + 16) buffer) 16 (length-bytes_of 16 contents),
      )
      (number-back 16 contents)

  record-before : (other : ℕ) → other < slot → record_at (with_record buffer slot contents) other ≡ record_at buffer other
  unfolding record_at with_record
  record-before other h =
      let front = take (16 * slot) buffer in
      let rest = bytes_of 16 contents ++ drop (16 * slot + 16) buffer in
      let starts : 16 * other ≤ length front = omega (arith, head) in
      let fits : 16 ≤ length (drop (16 * other) front) = rw length-drop (omega (arith, head)) in
      rw (
        append_assoc front (bytes_of 16 contents) (drop (16 * slot + 16) buffer),
        drop-append-le (16 * other) front rest starts,
        take-append-le 16 (drop (16 * other) front) rest fits,
        part (16 * other) 16 front starts,
        take-take (16 * other + 16) (16 * slot) buffer (omega arith),
        part (16 * other) 16 buffer (omega arith),
      )

  record-after : (other : ℕ) → slot < other → record_at (with_record buffer slot contents) other ≡ record_at buffer other
  unfolding record_at with_record
  record-after other h =
      let front = take (16 * slot) buffer ++ bytes_of 16 contents in
      let ends : length front ≡ 16 * slot + 16 = simp (length-append, head, length-bytes_of 16 contents) in
      let past : 16 * other ≡ 16 * slot + 16 + (16 * other - (16 * slot + 16)) = omega arith in
      let k = 16 * other - (16 * slot + 16) in
      rw (
        past,
        ← drop-drop k (16 * slot + 16) (front ++ drop (16 * slot + 16) buffer),
        drop_at front (drop (16 * slot + 16) buffer) (16 * slot + 16) ends,
        drop-drop k (16 * slot + 16) buffer,
      )

  pub standing-same : standing (with_record buffer slot contents) slot ≡ bit contents 127
  unfolding standing
  standing-same = rw record_same (low_bit contents)

  pub standing-other : (other : ℕ) → (other ≡ slot → ⊥)
      → standing (with_record buffer slot contents) other ≡ standing buffer other
  unfolding standing
  standing-other other apart = go (dec_le slot other)
    where
      go : Dec (slot ≤ other)
          → bit (record_at (with_record buffer slot contents) other) 127 ≡ bit (record_at buffer other) 127
      go (yes h) = rw (record-after other (omega arith))
      go (no h) = rw (record-before other (omega arith))

  -- slots below a written one stand as they did
  same-below : (n : ℕ) → n ≤ slot → standing_in n (with_record buffer slot contents) ≡ standing_in n buffer
  unfolding standing_in
  same-below zero h = refl
  same-below (suc n) h = rw (same-below n (omega arith), standing-other n (omega arith))

  pub stands : (n : ℕ) → slot < n
      → standing_in n (with_record buffer slot contents) + one-if (standing buffer slot)
      ≡ standing_in n buffer + one-if (bit contents 127)
  unfolding standing_in
  stands zero h = absurd (omega arith)
  stands (suc n) h = go (dec_le n slot) (stands n)
    where
      go : Dec (n ≤ slot)
          → (slot < n → standing_in n (with_record buffer slot contents) + one-if (standing buffer slot)
          ≡ standing_in n buffer + one-if (bit contents 127))
          → standing_in n (with_record buffer slot contents) + one-if (standing (with_record buffer slot contents) n) + one-if (standing buffer slot)
          ≡ standing_in n buffer + one-if (standing buffer n) + one-if (bit contents 127)
      go (yes last) below =
          let same : n ≡ slot = omega arith in
          rw (same, same-below slot (omega arith), standing-same) (omega arith)
      go (no more) below =
          let before = below (omega arith) in
          rw (standing-other n (omega arith)) (omega arith)
