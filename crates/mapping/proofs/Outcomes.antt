-- A listing by what becomes of its request.
use Prim.Native.Nat.{ℕ, ◌+◌, ◌-◌, ◌*◌, ◌%◌, ◌^◌, ◌≤◌}
use mathlib.Core.Bool.{Bool, true, false}
use mathlib.Core.List.{List}
use mathlib.Core.Path.{◌≡◌, refl, ap, sym, ◌∙◌}
use native.Mathlib.Omega.{arith}
use lib.Dec.{eqb}
use lib.ListN.{length}
use lib.Pow.{pow-add}
use Rattle.image.specs.Memory.{Memory}
use Rattle.image.specs.Rules.{answer, run}
use Rattle.image.specs.Windows.{of_windows, bad_windows}
use Rattle.registers.specs.Admission.{refusal, pass, taken_up, admission}
use Rattle.registers.specs.declared.Registers.{Registers}
use Rattle.dma.specs.Lookup.{Lookup, context, no_context, on_lookup, lookup_rules}
use Rattle.dma.specs.declared.context.Context.{Context}
use Rattle.dma.proofs.Lookups.{looked-up}
use Rattle.regions.specs.Outside.{table_outside}
use Rattle.mapping.specs.Filled.{FilledWith}
use Rattle.mapping.specs.Mapping.{refused, passed, faulted, spans_mapped, spans, in_context, source_rules, mapping_rules, mapping_answer}
use Rattle.mapping.specs.Rows.{rows_of}
use Rattle.mapping.specs.Spans.{Span}
use Rattle.mapping.specs.Told.{ListedAs}
use Rattle.mapping.specs.Told as told

pub page-power : (n : ℕ) → 12 ≤ n → 2 ^ n % 4096 ≡ 0
page-power n wide =
    let width : 12 + (n - 12) ≡ n = omega arith in
    let whole : 2 ^ n ≡ 4096 * 2 ^ (n - 12) = sym (ap (λ (k : ℕ). 2 ^ k) width) ∙ pow-add 2 12 (n - 12) in
    omega arith

-- nothing is listed, and no row changes
pub told-refused : (number : ℕ) (rows : List ℕ) → ListedAs (refused number) rows rows (told.refused number)
unfolding rows_of
told-refused number rows = (refl, refl)

pub told-passed : (rows : List ℕ) → ListedAs passed rows rows told.passed
unfolding rows_of
told-passed rows = (refl, refl)

pub told-faulted : (reason : ℕ) (rows : List ℕ) → ListedAs (faulted reason) rows rows (told.faulted reason)
unfolding rows_of
told-faulted reason rows = (refl, refl)

pub told-spans : (l : List Span) (before after : List ℕ) (count : ℕ) (more : Bool) → FilledWith l before after count more
    → ListedAs (spans_mapped l) before after (told.listed count more)
told-spans l before after count more f = (rw (f.counted, f.told), f.written)

module _ (registers : Registers) (m : Memory) (outside : (table : ℕ) → Bool) where
  pub passes-through : (c : Context) → c.translation_type ≡ 2 → in_context registers m outside c ≡ passed
  passes-through c is = rw is

  pub translates : (c : Context) → eqb c.translation_type 2 ≡ false → in_context registers m outside c ≡ spans_mapped (spans registers m outside c)
  translates c is = rw is

  -- by the lookup
  source-by : (source : ℕ) (l : Lookup) → run (lookup_rules registers source) m ≡ l
      → run (source_rules registers m outside source) m ≡ on_lookup l (λ reason fpd. faulted reason) (in_context registers m outside)
  unfolding run
  source-by source l is =
      looked-up registers (λ reason fpd. faulted reason) (λ c. answer (in_context registers m outside c)) m source
      ∙ ap (λ (k : Lookup). on_lookup k (λ reason fpd. faulted reason) (in_context registers m outside)) is

  pub source-fault : (source reason : ℕ) (fpd : Bool) → run (lookup_rules registers source) m ≡ no_context reason fpd
      → run (source_rules registers m outside source) m ≡ faulted reason
  source-fault source reason fpd is = source-by source (no_context reason fpd) is

  pub source-context : (source : ℕ) (c : Context) → run (lookup_rules registers source) m ≡ context c
      → run (source_rules registers m outside source) m ≡ in_context registers m outside c
  source-context source c is = source-by source (context c) is

-- by the registers
module _ (registers : Registers) (source : ℕ) (windows bytes : List ℕ) where
  pub answer-bad : bad_windows windows (length bytes) ≡ true → mapping_answer registers source windows bytes ≡ refused 1
  answer-bad bad = rw bad

  module _ (fine : bad_windows windows (length bytes) ≡ false) where
    pub answer-refused : (n : ℕ) → refusal n ≡ admission registers false registers.te → mapping_answer registers source windows bytes ≡ refused n
    unfolding mapping_rules run
    answer-refused n is = rw (fine, ← is)

    pub answer-passed : pass ≡ admission registers false registers.te → mapping_answer registers source windows bytes ≡ passed
    unfolding mapping_rules run
    answer-passed is = rw (fine, ← is)

    pub answer-taken : taken_up ≡ admission registers false registers.te
        → mapping_answer registers source windows bytes
        ≡ run (source_rules registers (of_windows windows bytes) (table_outside windows) source) (of_windows windows bytes)
    unfolding mapping_rules
    answer-taken is = rw (fine, ← is)
