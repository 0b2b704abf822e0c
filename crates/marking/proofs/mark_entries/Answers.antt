use Rattle.std.proofs.Common.{ℕ, ◌+◌, ◌-◌, ◌*◌, ap, ◌∙◌, arith}
use Rattle.tables.proofs.Folds.{again}
use Rattle.marking.specs.Marking.{mark_entry, mark_entries}
use Rattle.marking.proofs.Turns.{good, bad, entries_first, entries_done, no_tables}
use Rattle.marking.proofs.mark_entries.Goals as goal

pub returns-then-below-eq0 : goal.returns-then-below-eq0
returns-then-below-eq0 c = let a = c.args in rw c.if-below-eq0.true (no_tables a.bytes.now a.start 512 a.table a.marks.now)

pub returns-then-not-mark_entry : goal.returns-then-not-mark_entry
returns-then-not-mark_entry c =
    let l = c.loop-word in
    let a = c.args in
    bad (mark_entries a.bytes.now a.start a.below (512 - (l.word + 1)) (a.table + 8 * (l.word + 1)))
    (c.mark_entry.ensures ∙ ap (λ (x : ℕ). mark_entry a.start a.below x l.marks) c.entry_of.ensures) (c.if-not-mark_entry.true)
    ∙ entries_first a.bytes.now a.start a.below (a.table + 8 * l.word) l.marks (512 - l.word) _ _ (again 512 l.word (omega arith)) (omega arith)
    ∙ l.invariant

pub loop-word-preserved : goal.loop-word-preserved
loop-word-preserved c =
    let l = c.loop-word in
    let a = c.args in
    good (mark_entries a.bytes.now a.start a.below (512 - (l.word + 1)) (a.table + 8 * (l.word + 1)))
    (c.mark_entry.ensures ∙ ap (λ (x : ℕ). mark_entry a.start a.below x l.marks) c.entry_of.ensures) (c.if-not-mark_entry.false)
    ∙ entries_first a.bytes.now a.start a.below (a.table + 8 * l.word) l.marks (512 - l.word) _ _ (again 512 l.word (omega arith)) (omega arith)
    ∙ l.invariant

pub returns : goal.returns
returns c =
    let l = c.loop-word in
    let a = c.args in
    entries_done a.bytes.now a.start a.below (a.table + 8 * l.word) l.marks (512 - l.word) (omega arith) ∙ l.invariant
