-- The two stages of a request, the remapping entry and the descriptor, by what the code's fetches and checks said.
use Prim.Native.Nat.{ℕ, ◌+◌, ◌*◌, ◌^◌}
use mathlib.Core.Bool.{Bool, true, false}
use mathlib.Core.Path.{◌≡◌, refl, ap, ◌∙◌}
use lib.Dec.{leb}
use Rattle.image.specs.Check.{Check, stop, go, on_check}
use Rattle.image.specs.EntryKind.{remapping_entry, posted_descriptor}
use Rattle.image.specs.Memory.{Memory, Fetched, missing, found, entry, on_fetch}
use Rattle.image.specs.Place.{Place, no_entry, entry_at, last_tried, stopped_at}
use Rattle.image.specs.Rules.{Rules, answer, run}
use Rattle.image.proofs.Places.{unfetched-at, checked-at, only_at}
use Rattle.image.proofs.Stages.{unfetched, checked, only}
use Rattle.registers.specs.declared.Registers.{Registers}
use Rattle.irte.specs.Irte.{Irte, Asked, asks, stops, asked, irte_check, fault_processing_disabled}
use Rattle.interrupts.specs.Descriptor.{Notification, descriptor_check}
use Rattle.interrupts.specs.Interrupts.{Delivery, fault, post, descriptor_rules, on_irte, index_rules}

module _ (m : Memory) (eime urgent fpd : Bool) (vector at : ℕ) where
  pub no-descriptor : missing ≡ entry 8 m at → fault 0x27 fpd ≡ run (descriptor_rules eime urgent fpd at vector) m
  unfolding descriptor_rules
  no-descriptor = unfetched posted_descriptor at (fault 0x27 fpd) (descriptor_check eime urgent) (λ d reason. fault reason fpd) (λ n. answer (post at vector n)) m

  pub descriptor-checked : {d : ℕ} {k : Check Notification} → found d ≡ entry 8 m at → k ≡ descriptor_check eime urgent d
      → on_check k (λ reason. fault reason fpd) (post at vector) ≡ run (descriptor_rules eime urgent fpd at vector) m
  unfolding descriptor_rules
  descriptor-checked {d} {k} h told =
      only m k (λ reason. fault reason fpd) (post at vector)
      ∙ checked posted_descriptor at (fault 0x27 fpd) (descriptor_check eime urgent) (λ d reason. fault reason fpd) (λ n. answer (post at vector n)) m h
      (ap (λ (k : Check Notification). on_check k (λ reason. answer (fault reason fpd)) (λ n. answer (post at vector n))) told)

  -- the rules of a descriptor stop at it
  pub descriptor-place : (before : Place) → entry_at at ≡ last_tried before (descriptor_rules eime urgent fpd at vector) m
  unfolding descriptor_rules last_tried
  descriptor-place before = by (entry 8 m at)
    where
      by : (f : Fetched)
          → entry_at at
          ≡ on_fetch f (entry_at at)
          (λ d. last_tried (entry_at at) (on_check (descriptor_check eime urgent d) (λ reason. answer (fault reason fpd)) (λ n. answer (post at vector n))) m)
      by missing = refl
      by (found d) = only_at (entry_at at) m (descriptor_check eime urgent d) (λ reason. fault reason fpd) (post at vector)

-- what follows what an entry's check says
abbrev pub on_asked : (eime : Bool) → Asked → Rules Delivery
on_asked eime (asks i) = on_irte eime i
on_asked eime (stops reason fpd) = answer (fault reason fpd)

on-asked : (eime fpd : Bool) (k : Check Irte)
    → on_asked eime (on_check k (λ reason. stops reason fpd) asks) ≡ on_check k (λ reason. answer (fault reason fpd)) (on_irte eime)
on-asked eime fpd (stop reason) = refl
on-asked eime fpd (go i) = refl

module _ (m : Memory) (registers : Registers) (source index : ℕ) where
  pub out_of_range : leb (2 ^ (registers.s + 1)) index ≡ true → fault 0x21 false ≡ run (index_rules registers source index) m
  unfolding index_rules run
  out_of_range h = rw h

  pub out-of-range-at : leb (2 ^ (registers.s + 1)) index ≡ true → no_entry ≡ stopped_at (index_rules registers source index) m
  unfolding index_rules last_tried
  out-of-range-at h = rw h

  module _ (inside : leb (2 ^ (registers.s + 1)) index ≡ false) where
    pub no-entry : missing ≡ entry 2 m (registers.interrupt_table + 16 * index)
        → fault 0x23 false ≡ run (index_rules registers source index) m
    unfolding index_rules
    no-entry h =
        rw inside
        (unfetched remapping_entry (registers.interrupt_table + 16 * index) (fault 0x23 false) (irte_check registers source) (λ e reason. fault reason (fault_processing_disabled e)) (on_irte registers.eime) m h)

    pub entry-checked : {e : ℕ} {r : Asked} {d : Delivery} → found e ≡ entry 2 m (registers.interrupt_table + 16 * index)
        → r ≡ asked registers source e → d ≡ run (on_asked registers.eime r) m → d ≡ run (index_rules registers source index) m
    unfolding index_rules
    entry-checked {e} h told comes =
        rw inside
        (comes
        ∙ checked remapping_entry (registers.interrupt_table + 16 * index) (fault 0x23 false) (irte_check registers source) (λ e reason. fault reason (fault_processing_disabled e)) (on_irte registers.eime) m h
        (ap (on_asked registers.eime) told ∙ on-asked registers.eime (fault_processing_disabled e) (irte_check registers source e)))

    -- where they stopped
    pub no-entry-at : missing ≡ entry 2 m (registers.interrupt_table + 16 * index)
        → entry_at (registers.interrupt_table + 16 * index) ≡ stopped_at (index_rules registers source index) m
    unfolding index_rules
    no-entry-at h =
        rw inside
        (unfetched-at remapping_entry (registers.interrupt_table + 16 * index) (fault 0x23 false) (irte_check registers source) (λ e reason. fault reason (fault_processing_disabled e)) (on_irte registers.eime) no_entry m h)

    pub entry-checked-at : {e : ℕ} {r : Asked} → found e ≡ entry 2 m (registers.interrupt_table + 16 * index)
        → r ≡ asked registers source e
        → last_tried (entry_at (registers.interrupt_table + 16 * index)) (on_asked registers.eime r) m ≡ stopped_at (index_rules registers source index) m
    unfolding index_rules
    entry-checked-at {e} h told =
        rw inside
        (checked-at remapping_entry (registers.interrupt_table + 16 * index) (fault 0x23 false) (irte_check registers source) (λ e reason. fault reason (fault_processing_disabled e)) (on_irte registers.eime) no_entry m h
        (ap (on_asked registers.eime) told ∙ on-asked registers.eime (fault_processing_disabled e) (irte_check registers source e)))
