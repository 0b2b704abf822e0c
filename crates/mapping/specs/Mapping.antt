-- Document 02, Ask 4: what is mapped for a source.
use Rattle.std.specs.Prelude.{ℕ, ◌+◌, ◌*◌, ◌^◌, min, Bool, false, List, eqb}
use Rattle.std.specs.Prelude.{if◌then◌else◌}
use Rattle.image.specs.Memory.{Memory}
use Rattle.image.specs.Rules.{Rules, answer, run}
use Rattle.image.specs.Windows.{of_windows, over_windows}
use Rattle.registers.specs.Admission.{admission, on_admission}
use Rattle.registers.specs.declared.Registers.{Registers}
use Rattle.dma.specs.Lookup.{root_rules}
use Rattle.dma.specs.declared.context.Context.{Context}
use Rattle.translation.specs.Rights.{both}
use Rattle.regions.specs.Outside.{table_outside}
use Rattle.regions.specs.Region.{Region, region_in}
use Rattle.regions.specs.declared.tables.Tables.{Tables}
use Rattle.mapping.specs.Spans.{Span, spans_after}

-- refused, by number; passed unchanged; a root or context entry that faults, by its reason; or pages, and then every span
pub data Mapped : Type 0 where
  refused : (number : ℕ) → Mapped
  passed : Mapped
  faulted : (reason : ℕ) → Mapped
  spans_mapped : List Span → Mapped

module _ (registers : Registers) (m : Memory) (outside : (table : ℕ) → Bool) where
  module _ (context : Context) where
    -- document 01's 2^X, where the address space of a context ends
    abbrev pub space_end : ℕ
    space_end = 2 ^ min registers.mgaw (12 + 9 * context.levels)

    abbrev pub region_at : (address : ℕ) → Region
    region_at address = region_in registers m outside address context.levels context.top both

    abbrev pub spans : List Span
    spans = spans_after region_at space_end 0

    abbrev pub in_context : Mapped
    in_context = if eqb context.translation_type 2 then passed else spans_mapped spans

  -- root and context entry, then a context that passes through
  abbrev pub source_rules : (source : ℕ) → Rules Mapped
  source_rules = root_rules registers (λ reason fpd. faulted reason) (λ context. answer (in_context context))

  -- before them refusal 1, then TE off
  unfoldable pub mapping_rules : (source : ℕ) → Rules Mapped
  mapping_rules source = on_admission (admission registers false registers.te) refused passed (source_rules source)

  abbrev pub mapping : (source : ℕ) → Mapped
  mapping source = run (mapping_rules source) m

-- the regions of lent memory, by a context's tables: for the code's contracts
abbrev pub regions_over : Tables → (windows bytes : List ℕ) (address : ℕ) → Region
regions_over tables windows bytes address =
    region_in tables.registers (of_windows windows bytes) (table_outside windows) address tables.levels tables.top both

-- over lent memory, windows on a run of bytes: windows that are bad are refusal 1, like bad registers
abbrev pub mapping_answer : Registers → (source : ℕ) (windows bytes : List ℕ) → Mapped
mapping_answer registers source windows bytes =
    over_windows (refused 1) (λ m. mapping registers m (table_outside windows) source) windows bytes
