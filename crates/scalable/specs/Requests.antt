-- A read or write in scalable mode, from registers to answer, as one rules tree.
use Rattle.std.specs.Prelude.{ℕ, ◌^◌, Bool, ◌&&◌, List, [], ◌≡◌, eqb, leb}
use Rattle.std.specs.Prelude.{if◌then◌else◌}
use Rattle.image.specs.Memory.{Memory}
use Rattle.image.specs.Place.{Place, no_entry, stopped_at}
use Rattle.image.specs.Rules.{Rules, answer, run, map_rules}
use Rattle.image.specs.Windows.{over_windows}
use Rattle.registers.specs.Admission.{admission, on_admission, in_interrupt_range}
use Rattle.dma.specs.InterruptRange.{meets_interrupt_range, span_at}
use Rattle.dma.specs.Requests.{MemoryOutcome, granted, blocked, refused, concerned}
use Rattle.dma.specs.Translation.{overflows}
use Rattle.pasid.specs.Record.{scalable_fault}
use Rattle.pasid.specs.declared.Pasid.{Pasid}
use Rattle.pasid.specs.declared.ScalableRegisters.{ScalableRegisters}
use Rattle.pasid.specs.declared.table.PasidEntry.{PasidEntry}
use Rattle.scalable.specs.Lookup.{Lookup, pasid_entry, no_pasid_entry, lookup_rules}
use Rattle.flags.specs.Flags.{set_flags}
use Rattle.first.specs.First.{not_canonical}
use Rattle.second.specs.Second.{at_top, second_rules}
use Rattle.nested.specs.Pages.{Pages, reached, fault, wanted_of_page, to_page, pages_rules, PagesWalkable}
use Rattle.nested.specs.Then.{then_rules}
use Rattle.scalable.specs.declared.ScalableRequest.{ScalableRequest}

-- the address itself, where the PASID table entry passes through; or the page or the fault that it comes to
pub data Translation : Type 0 where
  through : Translation
  translated : Pages → Translation

-- a PASID of more than 20 bits
abbrev pub pasid_too_wide : Pasid → Bool
pasid_too_wide pasid = pasid.present && leb (2 ^ 20) pasid.value

-- a lookup that found no PASID table entry ends the request. The other case doesn't come up; it is told as an entry that can't be fetched
abbrev pub without_entry : Lookup → Translation
without_entry (pasid_entry p) = translated (fault 0x58 p.fpd)
without_entry (no_pasid_entry reason fpd) = translated (fault reason fpd)

module _ (r : ScalableRegisters) (address : ℕ) (write : Bool) where
  -- the second level alone: an address at or above 2^X is 84h; then the second-level walk
  unfoldable pub second_pages : PasidEntry → Rules Pages
  second_pages p =
      if overflows r.base p.second_levels address then answer (fault 0x84 p.fpd)
      else map_rules (to_page address) (second_rules r p (wanted_of_page write) address p.second_levels p.second_top (at_top []))

  -- PGTT 2: the second level. PGTT 1 and 3: an address that isn't canonical is 80h; then the first-level walk, nested with 3
  unfoldable pub paged_rules : PasidEntry → Rules Pages
  paged_rules p =
      if eqb p.kind 2 then second_pages p
      else if not_canonical p.first_levels address then answer (fault 0x80 p.fpd)
      else pages_rules r p address write

  -- PGTT 4 passes through, whatever the address
  unfoldable pub type_rules : PasidEntry → Rules Translation
  type_rules p = if eqb p.kind 4 then answer through else map_rules translated (paged_rules p)

  abbrev pub looked_up : Lookup → Rules Translation
  looked_up (pasid_entry p) = type_rules p
  looked_up (no_pasid_entry reason fpd) = answer (translated (fault reason fpd))

  abbrev pub translation_rules : Pasid → (source : ℕ) → Rules Translation
  translation_rules pasid source = then_rules without_entry looked_up (lookup_rules r pasid source)

-- what a request is answered, and the flags that it sets: those of a granted one, and no other's
pub record Decision : Type 0 where
  pub outcome : MemoryOutcome
  pub flags : List ℕ

abbrev pub say_only : MemoryOutcome → Decision
say_only o = record { outcome = o; flags = [] }

-- a page with a byte in the interrupt range is refusal 4, whatever the address's offset in it
abbrev pub decision : ScalableRequest → Translation → Decision
decision q through = say_only (granted q.address)
decision q (translated (reached frame level host flags)) =
    if meets_interrupt_range frame (span_at level) then say_only (refused 4) else record { outcome = granted host; flags = flags }
decision q (translated (fault reason fpd)) = say_only (blocked (scalable_fault reason fpd q.source.id q.address q.write q.pasid))

-- past admission: a PASID of more than 20 bits is refusal 6
abbrev pub taken_rules : ScalableRegisters → ScalableRequest → Rules Decision
taken_rules r q =
    if pasid_too_wide q.pasid then answer (say_only (refused 6))
    else map_rules (decision q) (translation_rules r q.address q.write q.pasid q.source.id)

-- refusals 1 and 2 are those of legacy mode, and 6 comes after them; with TE off the address itself is granted
unfoldable pub scalable_rules : ScalableRegisters → ScalableRequest → Rules Decision
scalable_rules r q =
    on_admission (admission r.base (in_interrupt_range q.address) r.base.te) (λ number. say_only (refused number))
    (say_only (if pasid_too_wide q.pasid then refused 6 else granted q.address)) (taken_rules r q)

-- the entry concerned in an answer: the one at which the rules stopped, where they ended in a fault
abbrev pub scalable_place : ScalableRegisters → ScalableRequest → Memory → Place
scalable_place r q m = concerned (run (scalable_rules r q) m).outcome (stopped_at (scalable_rules r q) m)

-- over lent memory, windows on a run of bytes: windows that are bad are refusal 1, like bad registers
abbrev pub scalable_decision : ScalableRegisters → ScalableRequest → (windows bytes : List ℕ) → Decision
scalable_decision r q windows bytes = over_windows (say_only (refused 1)) (run (scalable_rules r q)) windows bytes

abbrev pub scalable_answer : ScalableRegisters → ScalableRequest → (windows bytes : List ℕ) → MemoryOutcome
scalable_answer r q windows bytes = (scalable_decision r q windows bytes).outcome

abbrev pub scalable_answer_place : ScalableRegisters → ScalableRequest → (windows bytes : List ℕ) → Place
scalable_answer_place r q windows bytes = over_windows no_entry (scalable_place r q) windows bytes

-- what the request leaves in the run
abbrev pub scalable_written : ScalableRegisters → ScalableRequest → (windows bytes : List ℕ) → List ℕ
scalable_written r q windows bytes = set_flags windows (scalable_decision r q windows bytes).flags bytes

-- a PASID table entry whose tables can be walked, as each is that the check lets pass: for the code's contracts
abbrev pub Walkable : PasidEntry → Type 0
Walkable p = (p.kind ≡ 4 → ⊥) → PagesWalkable p
