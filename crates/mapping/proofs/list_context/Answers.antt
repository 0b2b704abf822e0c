use Prim.Native.Nat.{ℕ}
use mathlib.Core.Path.{refl, sym, subst}
use borrow.Author.Tests.{ne_eqb}
use Rattle.image.specs.Answers.{memory_of}
use Rattle.translation.specs.Rights.{both}
use Rattle.regions.specs.Outside.{table_outside}
use Rattle.regions.specs.Region.{Region, region_in}
use Rattle.mapping.specs.Filled.{FilledWith}
use Rattle.mapping.specs.Mapping.{Mapped}
use Rattle.mapping.specs.Spans.{spans_after}
use Rattle.mapping.specs.Told.{ListedAs}
use Rattle.mapping.specs.Told as told
use Rattle.mapping.proofs.Outcomes.{passes-through, translates, told-passed, told-spans}
use Rattle.mapping.proofs.list_context.Goals as goal

pub returns-then-context-eq2 : goal.returns-then-context-eq2
returns-then-context-eq2 c =
    let a = c.args in
    record {
      listed_as = subst (λ (k : Mapped). ListedAs k a.rows.now a.rows.now told.passed) (sym (passes-through a.registers (memory_of a.memory.now) (table_outside a.memory.now.windows.now) a.context c.if-context-eq2.true)) (told-passed a.rows.now);
      known_len_unchanged = refl;
    }

pub shape_of-known : goal.shape_of-known
shape_of-known c = c.fill-filled.ensures.known_len_unchanged

pub returns : goal.returns
returns c =
    let a = c.args in
    let region : (address : ℕ) → Region =
    λ address. region_in a.registers (memory_of a.memory.now) (table_outside a.memory.now.windows.now) address a.context.levels a.context.top both in
    record {
      listed_as = subst (λ (k : Mapped). ListedAs k a.rows.now c.fill-filled.new.rows (told.listed c.fill-filled.result.count c.fill-filled.result.more))
          (sym (translates a.registers (memory_of a.memory.now) (table_outside a.memory.now.windows.now) a.context (ne_eqb _ _ c.if-context-eq2.false)))
          (told-spans _ a.rows.now _ _ _ (subst (λ (n : ℕ). FilledWith (spans_after region n 0) a.rows.now c.fill-filled.new.rows c.fill-filled.result.count c.fill-filled.result.more) c.space_end-end.ensures.0 c.fill-filled.ensures.filled_with));
      known_len_unchanged = c.fill-filled.ensures.known_len_unchanged;
    }
