-- Records written are records cleared and records standing: each call keeps the balance, so every run of calls does.
use Prim.Native.Nat.{ℕ, zero, suc, ◌+◌, ◌*◌, ◌<◌}
use mathlib.Core.Path.{◌≡◌, refl, sym, ◌∙◌}
use mathlib.Core.Bool.{Bool, true, false, not, ◌||◌}
use mathlib.Core.List.{List, [], ◌∷◌}
use native.Mathlib.Omega.{arith}
use lib.Dec.{eqb, leb}
use lib.ListN.{length, take, drop, replicate, length-replicate}
use lib.Seq.{take-nil, drop-nil}
use Rattle.image.specs.Bits.{bits}
use Rattle.image.specs.Bytes.{little_endian}
use Rattle.std.specs.Prelude.{if◌then◌else◌}
use Rattle.image.specs.Choice.{one-if}
use Rattle.faults.specs.Recorder.{State, After, leaves, out_of_place, recording, clearing, clearing_overflow, written, slot_cleared}
use Rattle.faults.specs.Slots.{slots_in, record_at, standing, standing_in, set127, clear127}
use Rattle.faults.specs.Total.{Call, record_fault, clear_slot, clear_overflow, call, left, answered, zeroed, OneLength, Total}
use Rattle.faults.proofs.Recording.{neither, in_place_lem, counted}
use Rattle.faults.proofs.Standing.{length-with_record, stands, set-bit, clear-bit}

-- what is asked of one call's outcome, from a buffer
record Kept (slots : ℕ) (buffer : List ℕ) (a : After) : Type 0 where
  pub sized : length a.state.buffer ≡ length buffer
  pub balanced : standing_in slots buffer + one-if (eqb a.answer written)
      ≡ one-if (eqb a.answer slot_cleared) + standing_in slots a.state.buffer

module _ (slots : ℕ) (buffer : List ℕ) where
  either_way : (test : Bool) {x y : After} → (test ≡ true → Kept slots buffer x) → (test ≡ false → Kept slots buffer y)
      → Kept slots buffer (if test then x else y)
  either_way true p q = p refl
  either_way false p q = q refl

module _ (slots : ℕ) (buffer : List ℕ) (next : ℕ) (overflow : Bool)
    (counts : (slot : ℕ) → slot < slots_in buffer → length buffer ≡ 16 * slots) where
  -- neither written nor cleared, and the buffer as it was
  same : {answer n : ℕ} {o : Bool} → eqb answer written ≡ false → eqb answer slot_cleared ≡ false
      → Kept slots buffer (leaves answer buffer n o)
  same not_written not-cleared =
      record { sized = refl; balanced = rw (not_written, not-cleared) (omega arith) }

  -- a slot that isn't above the last is one of all the buffer's
  inside : (slot : ℕ) → leb (slots_in buffer) slot ≡ false → (length buffer ≡ 16 * slots) × (slot < slots)
  inside slot h =
      let placed = in_place_lem (length buffer) slot h in
      let size = placed.0 in
      let below = placed.1 in
      let sized = counts slot below in
      (sized, omega arith)

  recording-keeps : (recordable : Bool) (contents : ℕ)
      → Kept slots buffer (recording (slots_in buffer) buffer next overflow recordable contents)
  unfolding recording
  recording-keeps recordable contents =
      either_way slots buffer (out_of_place (slots_in buffer) next) (λ t. same refl refl) (λ here.
      either_way slots buffer (not recordable) (λ t. same refl refl) (λ t.
      either_way slots buffer overflow (λ t. same refl refl) (λ t.
      either_way slots buffer (standing buffer next) (λ t. same refl refl) (λ empty.
      let placed = inside next here in
      record {
        sized = length-with_record buffer slots next (set127 contents) placed.0 placed.1 ∙ sym placed.0;
        balanced =
            let now = stands buffer slots next (set127 contents) placed.0 placed.1 slots placed.1 in
            let counted = rw (empty, set-bit contents) at now in
            omega arith;
      }))))

  clearing_keeps : (slot : ℕ) → Kept slots buffer (clearing (slots_in buffer) buffer next overflow slot)
  unfolding clearing
  clearing_keeps slot =
      either_way slots buffer (out_of_place (slots_in buffer) next || leb (slots_in buffer) slot) (λ t. same refl refl) (λ here.
      either_way slots buffer (standing buffer slot) (λ stood.
      let placed = inside slot (neither (out_of_place (slots_in buffer) next) (leb (slots_in buffer) slot) here).1 in
      let contents = record_at buffer slot in
      record {
        sized = length-with_record buffer slots slot (clear127 contents) placed.0 placed.1 ∙ sym placed.0;
        balanced =
            let now = stands buffer slots slot (clear127 contents) placed.0 placed.1 slots placed.1 in
            let counted = rw (stood, clear-bit contents) at now in
            omega arith;
      }) (λ t. same refl refl))

  clearing-overflow-keeps : Kept slots buffer (clearing_overflow (slots_in buffer) buffer next overflow)
  unfolding clearing_overflow
  clearing-overflow-keeps =
      either_way slots buffer (out_of_place (slots_in buffer) next) (λ t. same refl refl) (λ here.
      either_way slots buffer overflow (λ t. same refl refl) (λ t. same refl refl))

module _ (slots : ℕ) where
  call-keeps : (c : Call) (s : State) → ((slot : ℕ) → slot < slots_in s.buffer → length s.buffer ≡ 16 * slots)
      → Kept slots s.buffer (call c s)
  unfolding call
  call-keeps (record_fault recordable contents) s counts = recording-keeps slots s.buffer s.next s.overflow counts recordable contents
  call-keeps (clear_slot slot) s counts = clearing_keeps slots s.buffer s.next s.overflow counts slot
  call-keeps clear_overflow s counts = clearing-overflow-keeps slots s.buffer s.next s.overflow counts

  -- from any buffer of so many slots
  pub run-keeps : (calls : List Call) (s : State) → length s.buffer ≡ 16 * slots
      → standing_in slots s.buffer + answered written calls s
      ≡ answered slot_cleared calls s + standing_in slots (left calls s).buffer
  unfolding answered left
  run-keeps [] s sized = omega arith
  run-keeps (c ∷ cs) s sized =
      let first = call-keeps c s (λ slot below. sized) in
      let rest = run-keeps cs (call c s).state (first.sized ∙ sized) in
      omega arith

pub one-length : OneLength
unfolding left
one-length [] s = refl
one-length (c ∷ cs) s =
    one-length cs (call c s).state
    ∙ (call-keeps (slots_in s.buffer) c s (counted (length s.buffer)).1).sized

-- nothing stands in a zeroed buffer
zero-part : (n k m : ℕ) → little_endian (take n (drop k (replicate m 0))) ≡ 0
unfolding little_endian
zero-part n k zero = rw (drop-nil k, take-nil n)
zero-part zero zero (suc m) = refl
zero-part (suc n) zero (suc m) = rw (zero-part n zero m)
zero-part n (suc k) (suc m) = zero-part n k m

none-standing : (m n : ℕ) → standing_in n (replicate m 0) ≡ 0
unfolding standing_in standing record_at bits
none-standing m zero = refl
none-standing m (suc n) = rw (none-standing m n, zero-part 16 (16 * n) m)

pub total : Total
unfolding zeroed
total slots calls =
    let kept = run-keeps slots calls (zeroed slots) (length-replicate (16 * slots) 0) in
    let counted = rw (none-standing (16 * slots) slots) at kept in
    omega arith
