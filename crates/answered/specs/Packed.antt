-- The entry of a request with an answer of include/galitzaf.h, by the answer's four words. Bytes that its kind doesn't name aren't looked at.
use Rattle.std.specs.Prelude.{ℕ, ◌+◌, ◌*◌, min, List, eqb}
use Rattle.image.specs.Bits.{bits}
use Rattle.std.specs.Prelude.{if◌then◌else◌}
use Rattle.image.specs.Memory.{entry, of_image, on_fetch}
use Rattle.traced.specs.declared.Traced.{Traced}
use Rattle.answered.specs.Answered.{width_of}

module _ (e : Traced) where
  -- the request's fields, with these of its answer
  abbrev pub with : (answer number flags vector posted destination value : ℕ) → Traced
  with answer number flags vector posted destination value =
      record {
        kind = e.kind;
        answer = answer;
        number = number;
        flags = flags;
        source = e.source;
        vector = vector;
        posted = posted;
        address = e.address;
        «data» = e.«data»;
        destination = destination;
        value = value;
      }

  module _ (head : ℕ) where
    -- byte 1 the reason, 2 whether it may be recorded, 3 whether the last word is an entry's address; flags of more than a byte are 255,
    -- which is malformed
    abbrev pub fault_packed : (last : ℕ) → Traced
    fault_packed last = with 2 (bits head 15 8) (min 255 (bits head 23 16 + 2 * bits head 31 24)) 0 0 0 last

    -- byte 1 the vector, 2 the delivery mode, 3 the other modes, 7:4 the destination
    abbrev pub remapped_packed : Traced
    remapped_packed = with 5 0 (min 255 (bits head 31 24 + 8 * bits head 23 16)) (bits head 15 8) 0 (bits head 63 32) 0

    -- byte 1 whether a notification is due, 2 and 7:4 its vector and destination, 3 the posted vector
    abbrev pub posted_packed : (low : ℕ) → Traced
    posted_packed low =
        if eqb (bits head 15 8) 0 then with 6 0 0 0 (bits head 31 24) 0 low
        else with 7 0 0 (bits head 23 16) (bits head 31 24) (bits head 63 32) low

    -- bytes 1 and 2 the rights to read and to write, 15:8 the frame, 23:16 the size
    abbrev pub page_packed : (low middle : ℕ) → Traced
    page_packed low middle = with 8 (width_of middle) (min 255 (bits head 15 8 + 2 * bits head 23 16)) 0 0 0 low

  abbrev pub passed_packed : (low : ℕ) → Traced
  passed_packed low = if eqb e.kind 3 then with 4 0 0 0 0 0 0 else with 3 0 0 0 0 0 low

  -- byte 0 is the answer's kind; the numbers are those of include/galitzaf.h
  unfoldable pub entry_packed : (head low middle last : ℕ) → Traced
  entry_packed head low middle last =
      if eqb (bits head 7 0) 1 then fault_packed head last
      else if eqb (bits head 7 0) 2 then with 1 (bits head 15 8) 0 0 0 0 0
      else if eqb (bits head 7 0) 3 then passed_packed low
      else if eqb (bits head 7 0) 4 then remapped_packed head
      else if eqb (bits head 7 0) 5 then posted_packed head low
      else if eqb (bits head 7 0) 6 then with 3 0 0 0 0 0 low
      else if eqb (bits head 7 0) 7 then page_packed head low middle
      else if eqb (bits head 7 0) 8 then with 8 0 0 0 0 0 0
      else with 0 0 0 0 0 0 0

-- a word of a buffer; 0 where it doesn't lie whole in it
abbrev pub word_in : (buffer : List ℕ) (at : ℕ) → ℕ
word_in buffer at = on_fetch (entry 1 (of_image buffer) at) 0 (λ w. w)

abbrev pub packed_in : Traced → (answer : List ℕ) → Traced
packed_in e answer = entry_packed e (word_in answer 0) (word_in answer 8) (word_in answer 16) (word_in answer 24)
