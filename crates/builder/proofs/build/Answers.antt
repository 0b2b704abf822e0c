use Rattle.std.proofs.Common.{◌≡◌, ◌/◌, length, Ok, Err, refl, ap, sym, ◌∙◌, subst, arith}
use Rattle.std.proofs.lemmas.Result.{err_from_is_err_and}
use Rattle.image.specs.Windows.{of_windows}
use Rattle.registers.specs.declared.refusal.Refusal.TheVariants.{BadRegisters}
use Rattle.region.specs.Copy.{copied_in}
use Rattle.builder.specs.declared.ready.Unready.TheVariants.{Refused}
use Rattle.builder.specs.Answers.{readiness_of, taken_of}
use Rattle.builder.specs.Ready.{ready, readiness, TablesReady, IfReady}
use Rattle.builder.proofs.Builds.{unready_built, ready_built, not_marked, stopped_at, finished}
use Rattle.builder.proofs.Readied.{refused_1}
use Rattle.builder.proofs.Takes.{some_number}
use Rattle.builder.proofs.build.Goals.{After-copy_in, In_ok-tree}
use Rattle.builder.proofs.build.Goals as goal

-- what the first answer says of ready tables
is : (k : In_ok-tree) → readiness_of k.make_ready.result ≡ ready k.in_ok-tree.tree
is k = ap readiness_of k.in_ok-tree.was

usable : (k : In_ok-tree) → TablesReady k.args.registers (length k.args.copy.now) (length k.args.marks.now) k.in_ok-tree.tree
usable k =
    subst (IfReady (TablesReady k.args.registers (length k.args.copy.now) (length k.args.marks.now))) (is k)
    k.make_ready.ensures.if_ready

readied : (k : In_ok-tree) → readiness k.args.registers k.args.windows.now k.args.memory.now k.args.start k.args.size (length k.args.copy.now) (length k.args.marks.now) k.args.source.id ≡ ready k.in_ok-tree.tree
readied k =
    let seen = k.in-Some.ensures in
    sym (rw (seen.1, seen.2) at k.make_ready.ensures.result_value) ∙ is k

pub returns-in_default : goal.returns-in_default
returns-in_default c =
    let a = c.args in
    unready_built a.registers a.windows.now a.items.now a.memory.now a.copy.now a.marks.now a.source.id a.start a.size (Refused BadRegisters) (refused_1 a.registers a.windows.now a.memory.now a.start a.size (length a.copy.now) (length a.marks.now) a.source.id c.in_default.ensures)

pub returns-in_err-tree : goal.returns-in_err-tree
returns-in_err-tree c =
    let a = c.args in
    let p = err_from_is_err_and c.from_residual.result c.from_residual.ensures.1 in
    let seen = c.in-Some.ensures in
    rw (p.1, p.2) (unready_built a.registers a.windows.now a.items.now a.memory.now a.copy.now a.marks.now a.source.id a.start a.size c.in_err-tree.field-0.0 (rw (seen.1, seen.2) at c.in_err-tree.ensures.result_value))

-- the copy is of the lent memory
copied : (k : After-copy_in)
    → k.copy_in.new.copy ≡ copied_in (of_windows k.args.windows.now k.args.memory.now) k.in_ok-tree.tree.start (length k.args.copy.now / 8) 0 k.args.copy.now
copied k = let seen = k.in-Some.ensures in rw (seen.1, seen.2) at k.copy_in.ensures

pub copy_in-requires : goal.copy_in-requires
copy_in-requires c = let u = usable (goal.at.copy_in-requires c).In_ok-tree in (omega (arith, u.1), omega (arith, u.2))

pub mark_tables-requires : goal.mark_tables-requires
mark_tables-requires c =
    let u = usable (goal.at.mark_tables-requires c).In_ok-tree in
    (omega (arith, u.2, u.3), u.5)

pub returns-then-not-mark_tables : goal.returns-then-not-mark_tables
returns-then-not-mark_tables c =
    let a = c.args in
    not_marked a.registers a.windows.now a.items.now a.memory.now _ a.marks.now c.in_ok-tree.tree c.mark_tables.ensures (c.if-not-mark_tables.true)
    ∙ ready_built a.registers a.windows.now a.items.now a.memory.now a.copy.now a.marks.now a.source.id a.start a.size (readied (goal.at.returns-then-not-mark_tables c).In_ok-tree) (copied (goal.at.returns-then-not-mark_tables c).After-copy_in)

pub take_items-requires : goal.take_items-requires
take_items-requires c =
    let u = usable (goal.at.take_items-requires c).In_ok-tree in
    (u.0, omega (arith, u.2, u.3), u.4, u.5)

pub returns-in_err-take_items : goal.returns-in_err-take_items
returns-in_err-take_items c =
    let a = c.args in
    let item = c.in_err-take_items.field-0.0 in
    let p = err_from_is_err_and c.from_residual-in_err-take_items.result c.from_residual-in_err-take_items.ensures.1 in
    rw (p.1, p.2)
    (stopped_at a.registers a.windows.now a.items.now a.memory.now _ a.marks.now c.in_ok-tree.tree c.mark_tables.ensures (c.if-not-mark_tables.false) (taken_of (length a.items.now / 4) (Err item)) c.in_err-take_items.ensures (some_number item.error)
    ∙ ready_built a.registers a.windows.now a.items.now a.memory.now a.copy.now a.marks.now a.source.id a.start a.size (readied (goal.at.returns-in_err-take_items c).In_ok-tree) (copied (goal.at.returns-in_err-take_items c).After-copy_in))

pub copy_out-requires : goal.copy_out-requires
copy_out-requires c = let u = usable (goal.at.copy_out-requires c).In_ok-tree in (c.in-Some.ensures.0, omega (arith, u.2))

pub returns : goal.returns
returns c =
    let a = c.args in
    finished a.registers a.windows.now a.items.now a.memory.now _ a.marks.now c.in_ok-tree.tree c.mark_tables.ensures (c.if-not-mark_tables.false) (taken_of (length a.items.now / 4) (Ok tt)) c.in_ok-take_items.ensures refl c.copy_out.ensures
    ∙ ready_built a.registers a.windows.now a.items.now a.memory.now a.copy.now a.marks.now a.source.id a.start a.size (readied (goal.at.returns c).In_ok-tree) (copied (goal.at.returns c).After-copy_in)
