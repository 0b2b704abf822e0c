-- Document 01, "Memory requests, step by step": the root entry, then the context entry, as a rules tree over any kind of answer. What
-- follows a context is a parameter.
use Rattle.std.specs.Prelude.{ℕ, ◌+◌, ◌*◌, Bool, false}
use Rattle.image.specs.Check.{on_check}
use Rattle.image.specs.EntryKind.{root_entry, context_entry}
use Rattle.image.specs.Rules.{Rules, answer}
use Rattle.image.specs.Stage.{stage}
use Rattle.registers.specs.Source.{bus_of, devfn_of}
use Rattle.registers.specs.declared.Registers.{Registers}
use Rattle.dma.specs.Context.{context_check, fault_processing_disabled}
use Rattle.dma.specs.Root.{root_check}
use Rattle.dma.specs.declared.context.Context.{Context}

-- a fault carries FPD as it was read by then: a root entry has none
module _ {A : Type 0} (registers : Registers) (faulted : (reason : ℕ) (fpd : Bool) → A) (next : Context → Rules A) where
  unfoldable pub context_rules : (source table : ℕ) → Rules A
  context_rules source table =
      stage context_entry (table + 16 * devfn_of source) (faulted 0x09 false) (context_check registers)
      (λ e reason. faulted reason (fault_processing_disabled e)) next

  unfoldable pub root_rules : (source : ℕ) → Rules A
  root_rules source =
      stage root_entry (registers.root_table + 16 * bus_of source) (faulted 0x08 false) (root_check registers.haw)
      (λ e reason. faulted reason false) (context_rules source)

-- the lookup alone: for the code's contracts
pub data Lookup : Type 0 where
  context : Context → Lookup
  no_context : (reason : ℕ) (fpd : Bool) → Lookup

abbrev pub on_lookup {ℓ} : {B : Type ℓ} → Lookup → (ℕ → Bool → B) → (Context → B) → B
on_lookup (context c) none some = some c
on_lookup (no_context reason fpd) none some = none reason fpd

abbrev pub lookup_rules : Registers → (source : ℕ) → Rules Lookup
lookup_rules registers = root_rules registers no_context (λ c. answer (context c))

-- what the context entry's check says, told as a lookup
abbrev pub checked_context : Registers → (e : ℕ) → Lookup
checked_context registers e =
    on_check (context_check registers e) (λ reason. no_context reason (fault_processing_disabled e)) context
