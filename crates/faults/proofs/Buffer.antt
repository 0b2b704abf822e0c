-- The slots of a buffer as the code reads and writes them, byte by byte.
use Prim.Native.Nat.{ℕ, zero, suc, ◌+◌, ◌*◌, ◌/◌, ◌%◌, ◌^◌, ◌<◌, ◌≤◌}
use mathlib.Core.Path.{◌≡◌, sym}
use mathlib.Core.List.{List, [], ◌∷◌, ◌++◌, append_assoc}
use native.Mathlib.Nat.{zero-add, add_assoc, add_comm, add-suc, mul-add, mul_comm, mod-eq_of_lt, div-eq_of_lt, add-mul-div_left, add-mul-mod_self_left}
use native.Mathlib.Omega.{arith}
use native.Mathlib.Decide.{dec_le}
use borrow.Author.Tests.{le-leb, lt-leb, eq-eqb}
use lib.Arith.{mod-mul}
use lib.Dec.{leb, eqb, lit<}
use lib.ListN.{length, get_or, set, take, drop, length-drop}
use lib.Seq.{take-add, set_split, append_snoc, get_or-drop}
use Rattle.image.specs.Bits.{bits, bit}
use Rattle.image.specs.Bytes.{little_endian, spell}
use Rattle.faults.specs.Slots.{record_at, with_record, standing, clear127, set127}
use Rattle.image.specs.Memory.{with_word}
use Rattle.image.proofs.Fields.{above-digit}
use Rattle.image.proofs.Stores.{with_words, all-stored}
use Rattle.image.specs.Entry.{Words}
use Rattle.image.proofs.Bytes.{one_byte, bytes-beside, last_byte, bytes_below, bytes_back}
use Rattle.faults.proofs.Contents.{two-words}

-- a record of two words, stored one behind the other
pub two-stored : (buffer : List ℕ) (slot low high : ℕ) → 16 * slot + 16 ≤ length buffer → low < 2 ^ 64 → high < 2 ^ 64
    → {first : List ℕ} → first ≡ with_word buffer (16 * slot) low
    → with_word first (16 * slot + 8) high ≡ with_record buffer slot (spell (low ∷ high ∷ []))
unfolding with_record with_words Words
two-stored buffer slot low high fits small tall laid =
    rw laid (all-stored (low ∷ high ∷ []) buffer (16 * slot) fits (small, (tall, tt)))

-- the top digit of a number alone is cut by a remainder
upper-mod : (p m low high : ℕ) → zero < m → low < p → (low + p * high) % (p * m) ≡ low + p * (high % m)
upper-mod p m low high pos h =
    let p-pos : zero < p = omega arith in
    rw (
      mul_comm p m,
      mod-mul (low + p * high) {m = m} {c = p} pos p-pos,
      add-mul-div_left low high p-pos,
      div-eq_of_lt h,
      zero-add,
      add-mul-mod_self_left low p high,
      mod-eq_of_lt h,
      mul_comm (high % m) p,
    )
    (add_comm (p * (high % m)) low)

-- bit 127 is set where bit 63 of the high word is
pub marked : (low high : ℕ) → low < 2 ^ 64 → spell (low ∷ (high % 2 ^ 63 + 2 ^ 63) ∷ []) ≡ set127 (spell (low ∷ high ∷ []))
marked low high small =
    rw (
      two-words low (high % 2 ^ 63 + 2 ^ 63),
      two-words low high,
      upper-mod (2 ^ 64) (2 ^ 63) low high (lit< tt) small,
      mul-add,
    )
    (sym (add_assoc low (2 ^ 64 * (high % 2 ^ 63)) (2 ^ 127)))

byte-top : (b : ℕ) → b < 256 → leb 128 b ≡ bit b 7
unfolding bits
byte-top b h = go (dec_le 128 b)
  where
    go : Dec (128 ≤ b) → leb 128 b ≡ eqb (b / 128 % 2) 1
    go (yes set) =
        let one : b / 128 % 2 ≡ 1 = omega arith in
        rw (le-leb 128 b set, eq-eqb (b / 128 % 2) 1 one)
    go (no clear) =
        let none : b / 128 % 2 ≡ 0 = omega arith in
        rw (lt-leb 128 b (omega arith), none)

-- a store as a run of bytes of which it is the last
set_last : (buffer : List ℕ) (at n value : ℕ) → at + n < length buffer
    → set buffer (at + n) value ≡ take at buffer ++ (take n (drop at buffer) ++ value ∷ []) ++ drop (at + suc n) buffer
set_last buffer at n value h =
    rw (
      set_split buffer (at + n) value h,
      take-add at n buffer,
      ← append_assoc (take at buffer) (take n (drop at buffer)) (value ∷ []),
      append_snoc (take at buffer ++ take n (drop at buffer)) value (drop (at + suc n) buffer),
      add-suc at n,
    )

module _ (buffer : List ℕ) (slot : ℕ) (fits : 16 * slot + 16 ≤ length buffer) (bytes : (i : ℕ) → get_or buffer i 0 < 256) where
  below : little_endian (take 15 (drop (16 * slot) buffer)) < 256 ^ 15
  below = bytes_below 15 (drop (16 * slot) buffer) (λ i. rw get_or-drop (bytes (16 * slot + i)))

  -- a slot's record by its last byte
  record-split : record_at buffer slot
      ≡ little_endian (take 15 (drop (16 * slot) buffer)) + 256 ^ 15 * get_or buffer (16 * slot + 15) 0
  unfolding record_at
  record-split =
      rw (last_byte 15 (drop (16 * slot) buffer) (rw length-drop (omega arith)), get_or-drop)

  pub standing-byte : leb 128 (get_or buffer (16 * slot + 15) 0) ≡ standing buffer slot
  unfolding standing
  standing-byte =
      rw (record-split, above-digit 120 (get_or buffer (16 * slot + 15) 0) below 7 7)
      (byte-top (get_or buffer (16 * slot + 15) 0) (bytes (16 * slot + 15)))

  pub cleared-byte : set buffer (16 * slot + 15) (get_or buffer (16 * slot + 15) 0 % 128)
      ≡ with_record buffer slot (clear127 (record_at buffer slot))
  unfolding with_record
  cleared-byte =
      let last = get_or buffer (16 * slot + 15) 0 in
      let rest = drop (16 * slot) buffer in
      rw (
        record-split,
        upper-mod (256 ^ 15) 128 (little_endian (take 15 rest)) last (lit< tt) below,
        ← bytes-beside 15 1 (little_endian (take 15 rest)) (last % 128) below,
        bytes_back 15 rest (rw length-drop (omega arith)) (λ i. rw get_or-drop (bytes (16 * slot + i))),
        one_byte (last % 128) (omega arith),
      )
      (set_last buffer (16 * slot) 15 (last % 128) (omega arith))
