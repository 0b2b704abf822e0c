-- Requests whose walk reads nothing in the region, and all interrupt requests: answered as before, with the same entry concerned.
use Prim.Native.Nat.{ℕ, ◌+◌, ◌*◌, ◌^◌, ◌<◌}
use mathlib.Core.Bool.{Bool, true, false, not, ◌||◌}
use mathlib.Core.Path.{◌≡◌, refl, sym, subst}
use mathlib.Core.List.{Memᴰ}
use native.Mathlib.Omega.{arith}
use borrow.Author.Tests.{leb-false, not-false}
use lib.Dec.{eqb, leb}
use Rattle.image.specs.Bits.{bits, bit}
use Rattle.image.specs.Check.{Check, stop, go, on_check}
use Rattle.std.specs.Prelude.{if◌then◌else◌}
use Rattle.image.specs.EntryKind.{root_entry, context_entry, remapping_entry, posted_descriptor, is_page}
use Rattle.image.specs.Memory.{Memory, missing, found, entry}
use Rattle.image.specs.Rules.{Rules, answer, map_rules}
use Rattle.image.specs.Stage.{stage}
use Rattle.image.proofs.Choices.{either, past}
use Rattle.image.proofs.Trees.{entries-map}
use Rattle.registers.specs.Admission.{Admitted, refusal, pass, taken_up, admission, on_admission, in_interrupt_range}
use Rattle.registers.specs.Source.{bus_of, devfn_of}
use Rattle.registers.specs.declared.Registers.{Registers}
use Rattle.faults.specs.Record.{interrupt_fault}
use Rattle.irte.specs.Irte.{Irte, remaps, posts, reserved_irte, irte_of, irte_check, fault_processing_disabled, descriptor_address, urgent_of, remapped_by}
use Rattle.irte.specs.Source.{source_allowed}
use Rattle.interrupts.specs.Descriptor.{Notification, descriptor_check}
use Rattle.interrupts.specs.Interrupts.{post, remap, descriptor_rules, on_irte, index_rules, delivered, on_format, interrupt_rules}
use Rattle.interrupts.specs.Interrupts as interrupt
use Rattle.interrupts.specs.Request.{Format, compatibility, remappable, request_check}
use Rattle.interrupts.specs.declared.InterruptRequest.{InterruptRequest}
use Rattle.dma.specs.Context.{context_check}
use Rattle.dma.specs.Context as context
use Rattle.dma.specs.Lookup.{context_rules, root_rules}
use Rattle.dma.specs.Requests.{memory_outcome, memory_rules}
use Rattle.dma.specs.Requests as memory
use Rattle.dma.specs.Root.{root_check}
use Rattle.dma.specs.Translation.{Translation, fault, page_step, width_rules, translation_rules, overflows}
use Rattle.dma.specs.declared.context.Context.{Context}
use Rattle.dma.specs.declared.MemoryRequest.{MemoryRequest}
use Rattle.dma.proofs.Cases.{width-cases}
use Rattle.translation.specs.Completion.{Completion, entry_step, type_rules, completion_rules}
use Rattle.translation.specs.Completion as completion
use Rattle.translation.specs.Requests.{translation_outcome, request_rules}
use Rattle.translation.specs.Requests as translation
use Rattle.translation.specs.Rights.{both}
use Rattle.translation.specs.declared.TranslationRequest.{TranslationRequest}
use Rattle.region.specs.Shared.{shares_tables}
use Rattle.built.proofs.Apart.{Beside, root-same, context-same, irte-same, descriptor-same}
use Rattle.built.proofs.Unmoved.{Unmoved, PagesAlike, only-answer, on-fetch, other-fetch, mapped, walk-unmoved}

-- what a posted entry that goes on tells
posted-by : (registers : Registers) (source e : ℕ) {d v : ℕ} {u f : Bool} → irte_check registers source e ≡ go (posts d v u f)
    → (bit e 0 ≡ true) × (bit e 15 ≡ true) × (descriptor_address e ≡ d)
unfolding irte_check
posted-by registers source e {d} {v} {u} {f} h =
    let h1 = past (not (bit e 0)) 0x22 _ (posts d v u f) h in
    let h2 = past (reserved_irte registers e) 0x24 _ (posts d v u f) h1.1 in
    let h3 = past (not (source_allowed source e)) 0x26 (go (irte_of registers.eime e)) (posts d v u f) h2.1 in
    by (bit e 15) refl (not-false (bit e 0) h1.0) h3.1
  where
    by : (t : Bool) → bit e 15 ≡ t → bit e 0 ≡ true
        → go (if t then posts (descriptor_address e) (bits e 23 16) (urgent_of e) (fault_processing_disabled e) else remaps (remapped_by registers.eime e)) ≡ go (posts d v u f)
        → (bit e 0 ≡ true) × (bit e 15 ≡ true) × (descriptor_address e ≡ d)
    by true is here h = (here, is, cc)
    by false is here h = let z : ◌≡◌ {A = ℕ} 0 1 = cc in absurd (omega arith)

module _ (registers : Registers) (start size : ℕ) (some : 0 < size) (m m' : Memory) (unshared : shares_tables registers start size m ≡ false)
    (kept : (words at : ℕ) → Beside start size at (8 * words) → entry words m' at ≡ entry words m at)
    (gone : (at : ℕ) → entry 1 m at ≡ missing → entry 1 m' at ≡ missing) where
  abbrev Same : {A : Type 0} → Rules A → Type 0
  Same = Unmoved m m'

  abbrev Alike : {A : Type 0} → Rules A → Type 0
  Alike = PagesAlike m m'

  -- a lookup, and what follows it
  pub lookup-unmoved : {A : Type 0} (faulted : (reason : ℕ) (fpd : Bool) → A) (next : Context → Rules A) (source : ℕ)
      → ((c : Context) → Alike (next c) → Same (next c)) → Alike (root_rules registers faulted next source) → Same (root_rules registers faulted next source)
  unfolding root_rules context_rules
  lookup-unmoved {A} faulted next source follows =
      other-fetch m m' root_entry (registers.root_table + 16 * bus_of source) (faulted 0x08 false) _ refl
      (root-same registers start size some m m' unshared kept source) (λ e is. at-root e is (root_check registers.haw e) refl)
    where
      at-context : (e : ℕ) (k : Check Context)
          → Alike (on_check k (λ reason. answer (faulted reason (context.fault_processing_disabled e))) next)
          → Same (on_check k (λ reason. answer (faulted reason (context.fault_processing_disabled e))) next)
      at-context e (stop reason) alike = only-answer m m' (faulted reason (context.fault_processing_disabled e))
      at-context e (go c) alike = follows c alike

      at-root : (e : ℕ) → entry 2 m (registers.root_table + 16 * bus_of source) ≡ found e → (k : Check ℕ) → root_check registers.haw e ≡ k
          → Alike (on_check k (λ reason. answer (faulted reason false)) (context_rules registers faulted next source))
          → Same (on_check k (λ reason. answer (faulted reason false)) (context_rules registers faulted next source))
      at-root e is (stop reason) told alike = only-answer m m' (faulted reason false)
      at-root e is (go table) told alike =
          other-fetch m m' context_entry (table + 16 * devfn_of source) (faulted 0x09 false) _ refl
          (context-same registers start size some m m' unshared kept source e table is told) (λ e' is'. at-context e' (context_check registers e')) alike

  pub memory-unmoved : (request : MemoryRequest) → Alike (memory_rules registers request) → Same (memory_rules registers request)
  unfolding memory_rules
  memory-unmoved request = by (admission registers (in_interrupt_range request.address) registers.te)
    where
      rules : Rules Translation
      rules = translation_rules registers request.address request.write request.source.id

      walks : (c : Context) → Alike (width_rules registers request.address request.write c) → Same (width_rules registers request.address request.write c)
      walks c =
          width-cases (λ q. Alike q → Same q) registers request.address request.write c (λ alike. only-answer m m' _) (λ alike. only-answer m m' _)
          (walk-unmoved m m' request.address (λ s. fault 0x07 c.fpd) (page_step registers request.address request.write c.fpd) gone c.levels c.top tt)

      by : (a : Admitted) → Alike (on_admission a memory.refused (memory.granted request.address) (map_rules (memory_outcome request) rules))
          → Same (on_admission a memory.refused (memory.granted request.address) (map_rules (memory_outcome request) rules))
      by (refusal n) alike = only-answer m m' (memory.refused n)
      by pass alike = only-answer m m' (memory.granted request.address)
      by taken_up alike =
          mapped m m' (memory_outcome request) rules
          (lookup-unmoved fault (width_rules registers request.address request.write) request.source.id walks
          (λ at among. alike at (subst (Memᴰ at) (sym (entries-map (memory_outcome request) is_page rules m)) among)))

  pub translation-unmoved : (request : TranslationRequest) → Alike (request_rules registers request) → Same (request_rules registers request)
  unfolding request_rules type_rules
  translation-unmoved request = by (admission registers (in_interrupt_range request.address) registers.te)
    where
      rules : Rules Completion
      rules = completion_rules registers request.address request.source.id

      walks : (c : Context) → Alike {A = Completion} (type_rules registers request.address c) → Same {A = Completion} (type_rules registers request.address c)
      walks c =
          either (λ (q : Rules Completion). Alike q → Same q) (eqb c.translation_type 0 || eqb c.translation_type 2) (λ alike. only-answer m m' _)
          (either (λ (q : Rules Completion). Alike q → Same q) (overflows registers c.levels request.address) (λ alike. only-answer m m' _)
          (walk-unmoved m m' request.address (λ above. completion.fault 0x07 c.fpd) (entry_step registers c.fpd) gone c.levels c.top both))

      by : (a : Admitted) → Alike (on_admission a translation.refused (translation.passed request.address) (map_rules (translation_outcome request) rules))
          → Same (on_admission a translation.refused (translation.passed request.address) (map_rules (translation_outcome request) rules))
      by (refusal n) alike = only-answer m m' (translation.refused n)
      by pass alike = only-answer m m' (translation.passed request.address)
      by taken_up alike =
          mapped m m' (translation_outcome request) rules
          (lookup-unmoved completion.fault (type_rules registers request.address) request.source.id walks
          (λ at among. alike at (subst (Memᴰ at) (sym (entries-map (translation_outcome request) is_page rules m)) among)))

  -- an interrupt's entry and descriptor
  index-unmoved : (source index : ℕ) → Same (index_rules registers source index)
  unfolding index_rules descriptor_rules
  index-unmoved source index = within (leb (2 ^ (registers.s + 1)) index) refl
    where
      told : (at vector : ℕ) (fpd : Bool) (k : Check Notification)
          → Same (on_check k (λ reason. answer (interrupt.fault reason fpd)) (λ n. answer (post at vector n)))
      told at vector fpd (stop reason) = only-answer m m' (interrupt.fault reason fpd)
      told at vector fpd (go n) = only-answer m m' (post at vector n)

      on : (e : ℕ) → index < 2 ^ (registers.s + 1) → entry 2 m (registers.interrupt_table + 16 * index) ≡ found e
          → (k : Check Irte) → irte_check registers source e ≡ k
          → Same (on_check k (λ reason. answer (interrupt.fault reason (fault_processing_disabled e))) (on_irte registers.eime))
      on e few is (stop reason) says = only-answer m m' (interrupt.fault reason (fault_processing_disabled e))
      on e few is (go (remaps r)) says = only-answer m m' (remap r)
      on e few is (go (posts d v u f)) says =
          let p = posted-by registers source e says in
          on-fetch m m' posted_descriptor d (interrupt.fault 0x27 f) _
          (subst (λ (at : ℕ). entry 8 m' at ≡ entry 8 m at) p.2 (descriptor-same registers start size some m m' unshared kept index e few is p.0 p.1))
          (λ x found-x. told d v f (descriptor_check registers.eime u x))

      within : (t : Bool) → leb (2 ^ (registers.s + 1)) index ≡ t
          → Same (if t then answer (interrupt.fault 0x21 false)
          else
          stage remapping_entry (registers.interrupt_table + 16 * index) (interrupt.fault 0x23 false) (irte_check registers source)
          (λ e reason. interrupt.fault reason (fault_processing_disabled e)) (on_irte registers.eime))
      within true is = only-answer m m' (interrupt.fault 0x21 false)
      within false is =
          let few = leb-false (2 ^ (registers.s + 1)) index is in
          on-fetch m m' remapping_entry (registers.interrupt_table + 16 * index) (interrupt.fault 0x23 false) _
          (irte-same registers start size some m m' unshared kept index few) (λ e found-e. on e few found-e (irte_check registers source e) refl)

  pub interrupt-unmoved : (request : InterruptRequest) → Same (interrupt_rules registers request)
  unfolding interrupt_rules interrupt.request_rules
  interrupt-unmoved request = by (admission registers (not (in_interrupt_range request.address)) registers.ire)
    where
      source : ℕ
      source = request.source.id

      format : (f : Format) → Same (on_format registers source f)
      format compatibility = only-answer m m' interrupt.passed
      format (remappable index) = mapped m m' (delivered source index) (index_rules registers source index) (index-unmoved source index)

      rest : Rules interrupt.InterruptOutcome
      rest = interrupt.request_rules registers request

      asked : (k : Check Format)
          → Same (on_check k (λ reason. answer (interrupt.blocked (interrupt_fault reason false request.source.id 0))) (on_format registers source))
      asked (stop reason) = only-answer m m' _
      asked (go f) = format f

      by : (a : Admitted) → Same (on_admission a interrupt.refused interrupt.passed rest)
      by (refusal n) = only-answer m m' (interrupt.refused n)
      by pass = only-answer m m' interrupt.passed
      by taken_up = asked (request_check registers request.address request.«data»)
