-- Entries of faults and refusals, whatever the kind of request: what they tell, and that they are laid out well.
use Prim.Native.Nat.{ℕ, ◌+◌}
use mathlib.Core.Bool.{Bool, true, false, not}
use mathlib.Core.Path.{◌≡◌, refl}
use Rattle.image.specs.Bits.{bits, bit}
use Rattle.image.specs.Check.{Check, stop, go}
use Rattle.std.specs.Prelude.{if◌then◌else◌}
use Rattle.image.specs.Choice.{one-if}
use Rattle.image.specs.Place.{Place, no_entry, entry_at}
use Rattle.registers.specs.declared.Registers.{Registers}
use Rattle.faults.specs.Record.{FaultAnswer}
use Rattle.dma.specs.Context.{context_reserved, context_invalid, context_check}
use Rattle.dma.specs.Root.{root_reserved, root_check}
use Rattle.traced.specs.Well.{well_traced, well_asked, well_reason}
use Rattle.traced.specs.declared.Traced.{Traced}
use Rattle.answered.specs.Answered.{plain, fault_traced}
use Rattle.answered.specs.Told.{concerned_in, fault_in}

-- a check that stops stops with a reason of a kind
abbrev pub Stops : {A : Type 0} → (ℕ → Type 0) → Check A → Type 0
Stops Reason (stop reason) = Reason reason
Stops Reason (go a) = Unit {0}

pub tested : {A : Type 0} (Reason : ℕ → Type 0) (t : Bool) (reason : ℕ) (rest : Check A) → Reason reason → Stops Reason rest
    → Stops Reason (if t then stop reason else rest)
tested Reason true reason rest h r = h
tested Reason false reason rest h r = r

-- the root and the context entry's checks, of memory and translation requests
pub root-stops : (Reason : ℕ → Type 0) → Reason 0x01 → Reason 0x0A → (haw e : ℕ) → Stops Reason (root_check haw e)
unfolding root_check
root-stops Reason absent reserved haw e =
    tested Reason (not (bit e 0)) 0x01 _ absent (tested Reason (root_reserved haw e) 0x0A _ reserved tt)

pub context-stops : (Reason : ℕ → Type 0) → Reason 0x02 → Reason 0x0B → Reason 0x03 → (registers : Registers) (e : ℕ)
    → Stops Reason (context_check registers e)
unfolding context_check
context-stops Reason absent reserved bad registers e =
    tested Reason (not (bit e 0)) 0x02 _ absent
    (tested Reason (context_reserved registers.haw e) 0x0B _ reserved (tested Reason (context_invalid registers e) 0x03 _ bad tt))

module _ (kind source address message : ℕ) where
  pub fault-place : (f : FaultAnswer) (p : Place) → concerned_in (fault_traced kind source address message f p) ≡ p
  unfolding bits
  fault-place f no_entry = by f.recordable
    where
      by : (t : Bool) → (if bit (one-if t) 1 then entry_at 0 else no_entry) ≡ no_entry
      by true = refl
      by false = refl
  fault-place f (entry_at at) = by f.recordable
    where
      by : (t : Bool) → (if bit (one-if t + 2) 1 then entry_at at else no_entry) ≡ entry_at at
      by true = refl
      by false = refl

  pub fault-told : (f : FaultAnswer) (p : Place) → fault_in (fault_traced kind source address message f p) f.contents ≡ f
  unfolding bits
  fault-told f no_entry = by f.recordable
    where
      by : (t : Bool)
          → ◌≡◌ {A = FaultAnswer} (record { reason = f.reason; recordable = bit (one-if t) 0; contents = f.contents })
          (record { reason = f.reason; recordable = t; contents = f.contents })
      by true = refl
      by false = refl
  fault-told f (entry_at at) = by f.recordable
    where
      by : (t : Bool)
          → ◌≡◌ {A = FaultAnswer} (record { reason = f.reason; recordable = bit (one-if t + 2) 0; contents = f.contents })
          (record { reason = f.reason; recordable = t; contents = f.contents })
      by true = refl
      by false = refl

  -- laid out well, where the request is and the reason is one of its kind
  pub fault-well : (f : FaultAnswer) (p : Place) → well_asked (plain kind source address message 2 0 0 0) ≡ true
      → well_reason (plain kind source address message 2 f.reason 0 0) ≡ true
      → well_traced (fault_traced kind source address message f p) ≡ true
  unfolding well_traced bits
  fault-well f no_entry asked reason = by f.recordable
    where
      by : (t : Bool) → well_traced (plain kind source address message 2 f.reason (one-if t) 0) ≡ true
      by true = rw (asked, reason)
      by false = rw (asked, reason)
  fault-well f (entry_at at) asked reason = by f.recordable
    where
      by : (t : Bool) → well_traced (plain kind source address message 2 f.reason (one-if t + 2) at) ≡ true
      by true = rw (asked, reason)
      by false = rw (asked, reason)

  -- what is told of every fault of these
  pub fault-cases : (P : Traced → Type 0) (f : FaultAnswer) (p : Place)
      → ((flags value : ℕ) → P (plain kind source address message 2 f.reason flags value)) → P (fault_traced kind source address message f p)
  fault-cases P f no_entry h = h (one-if f.recordable) 0
  fault-cases P f (entry_at at) h = h (one-if f.recordable + 2) at
