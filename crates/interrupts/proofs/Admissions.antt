-- An interrupt request by what becomes of it at admission, and then by its format.
use Prim.Native.Nat.{ℕ, ◌%◌, ◌^◌, ◌<◌}
use mathlib.Core.Bool.{Bool, true, false, not}
use mathlib.Core.Path.{◌≡◌, ap, sym}
use Rattle.image.specs.Check.{Check, stop, go}
use Rattle.image.specs.Memory.{Memory}
use Rattle.image.specs.Place.{no_entry, last_tried, stopped_at}
use Rattle.image.specs.Rules.{run}
use Rattle.image.proofs.Places.{tried-map}
use Rattle.image.proofs.Trees.{run-map}
use Rattle.registers.specs.Admission.{refusal, pass, taken_up, admission, in_interrupt_range}
use Rattle.registers.specs.Registers.{registers_bad}
use Rattle.registers.specs.declared.Registers.{Registers}
use Rattle.registers.proofs.Good.{taken-good, below-most}
use Rattle.faults.specs.Record.{interrupt_fault}
use Rattle.interrupts.specs.Request.{Format, compatibility, remappable, request_check}
use Rattle.interrupts.specs.Interrupts.{Delivery, index_rules, passed, blocked, refused, delivered, request_rules, interrupt_rules}
use Rattle.interrupts.specs.declared.InterruptRequest.{InterruptRequest}

-- so that no entry leaves its page, and no address of an entry wraps
pub table-placed : (registers : Registers) (wrong on : Bool) → taken_up ≡ admission registers wrong on
    → (registers.interrupt_table % 4096 ≡ 0) × (registers.interrupt_table < 2 ^ 52)
table-placed registers wrong on h =
    let g = taken-good registers wrong on h in
    (g.interrupt.aligned, below-most g g.interrupt.below)

module _ (registers : Registers) (request : InterruptRequest) (m : Memory) where
  pub refuses-bad : registers_bad registers ≡ true → refused 1 ≡ run (interrupt_rules registers request) m
  unfolding interrupt_rules run admission
  refuses-bad h = rw h

  module _ {inside : Bool} (kind : inside ≡ in_interrupt_range request.address) where
    pub refuses : {n : ℕ} → refusal n ≡ admission registers (not inside) registers.ire
        → refused n ≡ run (interrupt_rules registers request) m
    unfolding interrupt_rules run
    refuses h = rw (← kind, ← h)

    pub passes : pass ≡ admission registers (not inside) registers.ire → passed ≡ run (interrupt_rules registers request) m
    unfolding interrupt_rules run
    passes h = rw (← kind, ← h)

    pub takes : taken_up ≡ admission registers (not inside) registers.ire
        → run (request_rules registers request) m ≡ run (interrupt_rules registers request) m
    unfolding interrupt_rules
    takes h = rw (← kind, ← h)

    pub takes_at_lem : taken_up ≡ admission registers (not inside) registers.ire
        → stopped_at (request_rules registers request) m ≡ stopped_at (interrupt_rules registers request) m
    unfolding interrupt_rules
    takes_at_lem h = rw (← kind, ← h)

  module _ {k : Check Format} (checked : k ≡ request_check registers request.address request.«data») where
    pub stops : {reason : ℕ} → k ≡ stop reason
        → blocked (interrupt_fault reason false request.source.id 0) ≡ run (request_rules registers request) m
    unfolding request_rules run
    stops told = rw (← checked, told)

    pub compatible : k ≡ go compatibility → passed ≡ run (request_rules registers request) m
    unfolding request_rules run
    compatible told = rw (← checked, told)

    pub indexed : {index : ℕ} {d : Delivery} → k ≡ go (remappable index)
        → d ≡ run (index_rules registers request.source.id index) m
        → delivered request.source.id index d ≡ run (request_rules registers request) m
    unfolding request_rules
    indexed {index} told comes =
        rw (← checked, told, run-map (delivered request.source.id index) (index_rules registers request.source.id index) m)
        (ap (delivered request.source.id index) comes)

    -- where they stopped: before any fetch, and where the table's rules do
    pub stops_at_lem : {reason : ℕ} → k ≡ stop reason → no_entry ≡ stopped_at (request_rules registers request) m
    unfolding request_rules last_tried
    stops_at_lem told = rw (← checked, told)

    pub indexed-at : {index : ℕ} → k ≡ go (remappable index)
        → stopped_at (index_rules registers request.source.id index) m ≡ stopped_at (request_rules registers request) m
    unfolding request_rules
    indexed-at {index} told =
        rw (← checked, told)
        (sym (tried-map (delivered request.source.id index) no_entry (index_rules registers request.source.id index) m))
