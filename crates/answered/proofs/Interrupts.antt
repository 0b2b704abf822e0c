-- Entries of interrupts.
use Prim.Native.Nat.{ℕ, ◌+◌, ◌*◌, ◌%◌, ◌^◌, ◌<◌}
use mathlib.Core.Bool.{Bool, true, false, not, ◌||◌}
use mathlib.Core.List.{List}
use mathlib.Core.Path.{◌≡◌, refl, ap, sym, ◌∙◌, subst}
use native.Mathlib.Nat.{add-zero}
use native.Mathlib.Omega.{arith}
use borrow.Author.Tests.{not-true, not-false, le-leb}
use lib.Dec.{eqb, leb}
use lib.ListN.{length}
use Rattle.image.specs.Bits.{bits, bit, any_set}
use Rattle.image.specs.Check.{Check, stop, go, on_check}
use Rattle.std.specs.Prelude.{if◌then◌else◌}
use Rattle.image.specs.Choice.{one-if}
use Rattle.image.specs.EntryKind.{remapping_entry, posted_descriptor}
use Rattle.image.specs.Memory.{Memory}
use Rattle.image.specs.Place.{Place, no_entry, stopped_at}
use Rattle.image.specs.Rules.{answer, run}
use Rattle.image.specs.Windows.{bad_windows, of_windows}
use Rattle.image.proofs.Choices.{either, chosen}
use Rattle.image.proofs.Fields.{fits}
use Rattle.image.proofs.Stages.{run-cases}
use Rattle.image.proofs.Trees.{run-map}
use Rattle.registers.specs.Admission.{Admitted, admission, on_admission, in_interrupt_range}
use Rattle.registers.specs.Registers.{registers_bad}
use Rattle.registers.specs.declared.Registers.{Registers}
use Rattle.faults.specs.Record.{index_field, interrupt_record, interrupt_fault}
use Rattle.irte.specs.Irte.{Remapped, Irte, remaps, posts, reserved_irte, irte_check, fault_processing_disabled}
use Rattle.irte.specs.Source.{source_allowed}
use Rattle.interrupts.specs.Claims.{whole_index}
use Rattle.interrupts.specs.Descriptor.{silent, notification, reserved_descriptor, descriptor_check}
use Rattle.interrupts.specs.Interrupts.{Delivery, fault, remap, post, descriptor_rules, on_irte, index_rules, InterruptOutcome, passed, remapped, posted, blocked, refused, delivered, on_format, request_rules, interrupt_rules, concerned, interrupt_answer, interrupt_answer_place}
use Rattle.interrupts.specs.Request.{Format, compatibility, remappable, handle_of, request_check}
use Rattle.interrupts.specs.declared.InterruptRequest.{InterruptRequest}
use Rattle.traced.specs.Well.{well_traced, well_reason}
use Rattle.answered.specs.Answered.{plain, modes_of, interrupt_traced}
use Rattle.answered.specs.Claims.{interrupt_entry}
use Rattle.answered.specs.Told.{interrupt_in, interrupt_outcome_in, concerned_in, fault_in}
use Rattle.answered.proofs.Faults.{Stops, tested, fault-place, fault-told, fault-well, fault-cases}

-- 20h to 28h
abbrev Reason : ℕ → Type 0
Reason n = well_reason (plain 3 0 0 0 2 n 0 0) ≡ true

-- a delivery mode has three bits
abbrev Asks : Irte → Type 0
Asks (remaps r) = r.delivery < 8
Asks (posts descriptor vector urgent fpd) = Unit {0}

abbrev Says : Delivery → Type 0
Says (fault reason fpd) = Reason reason
Says (remap r) = r.delivery < 8
Says (post descriptor vector n) = Unit {0}

-- what an entry's check says
abbrev Checked : Check Irte → Type 0
Checked (stop reason) = Reason reason
Checked (go i) = Asks i

irte-checked : (registers : Registers) (source e : ℕ) → Checked (irte_check registers source e)
unfolding irte_check
irte-checked registers source e =
    either Checked (not (bit e 0)) refl
    (either Checked (reserved_irte registers e) refl
    (either Checked (not (source_allowed source e)) refl
    (either Asks (bit e 15) tt (fits e 7 5))))

module _ (registers : Registers) (m : Memory) where
  irte-says : (i : Irte) → Asks i → Says (run (on_irte registers.eime i) m)
  unfolding descriptor_rules descriptor_check run
  irte-says (remaps r) h = h
  irte-says (posts at vector urgent fpd) h =
      run-cases posted_descriptor at (fault 0x27 fpd) (descriptor_check registers.eime urgent) (λ d reason. fault reason fpd)
      (λ n. answer (post at vector n)) m Says refl
      (λ d reason there stops. subst (Stops Reason) stops (tested Reason (reserved_descriptor registers.eime d) 0x28 _ refl tt))
      (λ d n there goes. tt)

  index-says : (source index : ℕ) → Says (run (index_rules registers source index) m)
  unfolding index_rules run
  index-says source index =
      either (λ q. Says (run q m)) (leb (2 ^ (registers.s + 1)) index) refl
      (run-cases remapping_entry (registers.interrupt_table + 16 * index) (fault 0x23 false) (irte_check registers source)
      (λ e reason. fault reason (fault_processing_disabled e)) (on_irte registers.eime) m Says refl
      (λ e reason there stops. subst Checked stops (irte-checked registers source e))
      (λ e i there goes. irte-says i (subst Checked goes (irte-checked registers source e))))

-- the modes of a remapped answer, as numbers
module _ (a b c d : ℕ) (a_small : a < 2) (b-small : b < 2) (c-small : c < 2) where
  abbrev sum : ℕ
  sum = a + 2 * b + 4 * c + 8 * (d % 8)

  sum-few : leb sum 63 ≡ true
  sum-few = le-leb (a + 2 * b + 4 * c + 8 * (d % 8)) 63 (omega arith)

  first-mode : bits sum 0 0 ≡ a
  unfolding bits
  first-mode = omega arith

  second-mode : bits sum 1 1 ≡ b
  unfolding bits
  second-mode = omega arith

  third-mode : bits sum 2 2 ≡ c
  unfolding bits
  third-mode = omega arith

  delivery-mode : d < 8 → bits sum 5 3 ≡ d
  unfolding bits
  delivery-mode small = omega arith

flag_small : (t : Bool) → one-if t < 2
flag_small true = omega arith
flag_small false = omega arith

flag-told : (t : Bool) → eqb (one-if t) 1 ≡ t
flag-told true = refl
flag-told false = refl

module _ (r : Remapped) where
  abbrev a : ℕ
  a = one-if r.destination_mode

  abbrev b : ℕ
  b = one-if r.redirection_hint

  abbrev c : ℕ
  c = one-if r.trigger

  modes-few : leb (modes_of r) 63 ≡ true
  modes-few = sum-few a b c r.delivery (flag_small r.destination_mode) (flag_small r.redirection_hint) (flag_small r.trigger)

  modes-told : r.delivery < 8
      → ◌≡◌ {A = Remapped}
      (record {
        destination_mode = bit (modes_of r) 0;
        redirection_hint = bit (modes_of r) 1;
        trigger = bit (modes_of r) 2;
        delivery = bits (modes_of r) 5 3;
        vector = r.vector;
        destination = r.destination;
      })
      r
  modes-told small =
      let x = flag_small r.destination_mode in
      let y = flag_small r.redirection_hint in
      let z = flag_small r.trigger in
      rw (
        first-mode a b c r.delivery x y z,
        second-mode a b c r.delivery x y z,
        third-mode a b c r.delivery x y z,
        delivery-mode a b c r.delivery x y z small,
        flag-told r.destination_mode,
        flag-told r.redirection_hint,
        flag-told r.trigger,
      )

module _ (registers : Registers) (q : InterruptRequest) where
  -- what an answer is: a refusal's number, a fault's reason and record, a delivery mode
  abbrev Answers : InterruptOutcome → Type 0
  Answers passed = Unit {0}
  Answers (remapped r) = r.delivery < 8
  Answers (posted descriptor vector n) = Unit {0}
  Answers (blocked f) = Reason f.reason × (f.contents ≡ interrupt_record q.source.id (whole_index q) f.reason)
  Answers (refused n) = well_traced (plain 3 0 0 0 1 n 0 0) ≡ true

  delivery-answers : (d : Delivery) → Says d → Answers (delivered q.source.id (whole_index q) d)
  unfolding interrupt_fault
  delivery-answers (fault reason fpd) h = (h, refl)
  delivery-answers (remap r) h = h
  delivery-answers (post descriptor vector n) h = tt

  -- the format's check: a stop's record has index 0 as 20h and 25h have; the index that it lets through is the whole one
  abbrev Formed : Check Format → Type 0
  Formed (stop reason) = Answers (blocked (interrupt_fault reason false q.source.id 0))
  Formed (go compatibility) = Unit {0}
  Formed (go (remappable index)) = index ≡ whole_index q

  formed : Formed (request_check registers q.address q.«data»)
  unfolding request_check interrupt_fault interrupt_record index_field
  formed =
      either Formed (not (bit q.address 4)) (either Formed (registers.eime || not registers.cfis) (refl, refl) tt)
      (chosen Formed (not (bit q.address 3)) (λ plain. rw (not-true (bit q.address 3) plain) (sym (add-zero (handle_of q.address))))
      (λ shv. either Formed (any_set q.«data» 31 16) (refl, refl) (rw (not-false (bit q.address 3) shv))))

  answers : (m : Memory) → Answers (run (interrupt_rules registers q) m)
  unfolding interrupt_rules request_rules admission run well_traced
  answers m =
      either By (registers_bad registers) refl
      (either By (not (in_interrupt_range q.address)) refl
      (either By registers.ire (formatted (request_check registers q.address q.«data») formed) tt))
    where
      By : Admitted → Type 0
      By k = Answers (run (on_admission k refused passed (request_rules registers q)) m)

      formatted : (k : Check Format) → Formed k
          → Answers (run (on_check k (λ reason. answer (blocked (interrupt_fault reason false q.source.id 0))) (on_format registers q.source.id)) m)
      formatted (stop reason) h = h
      formatted (go compatibility) h = tt
      formatted (go (remappable index)) h =
          rw (h, run-map (delivered q.source.id (whole_index q)) (index_rules registers q.source.id (whole_index q)) m)
          (delivery-answers (run (index_rules registers q.source.id (whole_index q)) m) (index-says registers m q.source.id (whole_index q)))

  well : (o : InterruptOutcome) (p : Place) → Answers o → well_traced (interrupt_traced q o (concerned o p)) ≡ true
  unfolding interrupt_traced well_traced
  well passed p h = refl
  well (remapped r) p h = rw (modes-few r)
  well (posted descriptor vector silent) p h = refl
  well (posted descriptor vector (notification v d)) p h = refl
  well (blocked f) p h = fault-well 3 q.source.id q.address q.«data» f p refl h.0
  well (refused n) p h = h

  abbrev Told : InterruptOutcome → Place → Type 0
  Told o p =
      (interrupt_in (interrupt_traced q o p) ≡ q)
      × (interrupt_outcome_in (interrupt_traced q o p) ≡ o)
      × (concerned_in (interrupt_traced q o p) ≡ p)

  told : (o : InterruptOutcome) (p : Place) → Answers o → Told o (concerned o p)
  unfolding interrupt_traced
  told passed p h = (refl, refl, refl)
  told (remapped r) p h = (refl, ap remapped (modes-told r h), refl)
  told (posted descriptor vector silent) p h = (refl, refl, refl)
  told (posted descriptor vector (notification v d)) p h = (refl, refl, refl)
  told (refused n) p h = (refl, refl, refl)
  told (blocked f) p h =
      let record-told : (flags value : ℕ) → interrupt_outcome_in (plain 3 q.source.id q.address q.«data» 2 f.reason flags value)
      ≡ blocked (fault_in (plain 3 q.source.id q.address q.«data» 2 f.reason flags value) f.contents) =
      λ flags value. rw h.1 in (
        fault-cases 3 q.source.id q.address q.«data» (λ e. interrupt_in e ≡ q) f p (λ flags value. refl),
        fault-cases 3 q.source.id q.address q.«data» (λ e. interrupt_outcome_in e ≡ blocked (fault_in e f.contents)) f p record-told
            ∙ ap blocked (fault-told 3 q.source.id q.address q.«data» f p),
        fault-place 3 q.source.id q.address q.«data» f p,
      )

  module _ (windows bytes : List ℕ) where
    -- an answer over lent memory, with the entry concerned in it
    lent : (P : InterruptOutcome → Place → Type 0) → ((o : InterruptOutcome) (p : Place) → Answers o → P o (concerned o p))
        → P (interrupt_answer registers q windows bytes) (interrupt_answer_place registers q windows bytes)
    unfolding well_traced
    lent P h = by (bad_windows windows (length bytes))
      where
        m : Memory
        m = of_windows windows bytes

        o : InterruptOutcome
        o = run (interrupt_rules registers q) m

        by : (bad : Bool) → P (if bad then refused 1 else o) (if bad then no_entry else concerned o (stopped_at (interrupt_rules registers q) m))
        by true = h (refused 1) no_entry refl
        by false = h o (stopped_at (interrupt_rules registers q) m) (answers m)

    pub interrupt-well : well_traced (interrupt_entry registers windows bytes q) ≡ true
    unfolding interrupt_entry
    interrupt-well = lent (λ o p. well_traced (interrupt_traced q o p) ≡ true) well

    pub interrupt-told : (interrupt_in (interrupt_entry registers windows bytes q) ≡ q)
        × (interrupt_outcome_in (interrupt_entry registers windows bytes q) ≡ interrupt_answer registers q windows bytes)
        × (concerned_in (interrupt_entry registers windows bytes q) ≡ interrupt_answer_place registers q windows bytes)
    unfolding interrupt_entry
    interrupt-told = lent Told told
