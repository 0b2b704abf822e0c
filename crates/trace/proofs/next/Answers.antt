use Prim.Native.Nat.{◌+◌, ◌*◌, ◌≤◌, ◌<◌}
use mathlib.Core.Path.{◌≡◌, ap, sym, ◌∙◌}
use mathlib.Core.Bool.{false}
use native.Mathlib.Omega.{arith}
use lib.Dec.{leb}
use lib.ListN.{length}
use Rattle.traced.specs.Answers.{decoded_of}
use Rattle.trace.specs.Reader.{entry, damaged, shut}
use Rattle.trace.specs.declared.Cursor.{Cursor}
use Rattle.trace.proofs.Steps.{at-end, more_left, at-shut, at-malformed, at_entry, open-index, open-whole}
use Rattle.trace.proofs.next.Goals.{Else-is_past, Else-is_shut}
use Rattle.trace.proofs.next.Goals as goal

more : (c : Else-is_past) → leb (length c.args.bytes.now) (512 * c.args.cursor.place) ≡ false
more c = sym c.is_past.ensures ∙ c.if-is_past.false

further : (c : Else-is_past) → 512 * c.args.cursor.place < length c.args.bytes.now
further c =
    let a = c.args in
    more_left a.bytes.now a.cursor.place a.cursor.index (more c)

unshut : (c : Else-is_shut)
    → shut c.args.bytes.now c.args.cursor.place c.args.cursor.index
    ≡ false
unshut c = sym c.is_shut.ensures ∙ c.if-is_shut.false

whole : (c : Else-is_shut)
    → 512 * c.args.cursor.place + 512 ≤ length c.args.bytes.now
whole c =
    let a = c.args in
    open-whole a.bytes.now a.cursor.place a.cursor.index (unshut c)

few : (c : Else-is_shut) → c.args.cursor.index < 15
few c =
    let a = c.args in
    open-index a.bytes.now a.cursor.place a.cursor.index (unshut c)

pub returns-then-is_past : goal.returns-then-is_past
returns-then-is_past c =
    let a = c.args in
    at-end a.bytes.now a.cursor.place a.cursor.index (sym c.is_past.ensures ∙ c.if-is_past.true)

pub next_block-requires : goal.next_block-requires
next_block-requires c = omega (arith, further (goal.at.next_block-requires c).Else-is_past)

pub returns-then-is_shut : goal.returns-then-is_shut
returns-then-is_shut c =
    let a = c.args in
    ap damaged c.next_block.ensures
    ∙ at-shut a.bytes.now a.cursor.place a.cursor.index (more (goal.at.returns-then-is_shut c).Else-is_past)
    (sym c.is_shut.ensures ∙ c.if-is_shut.true)

pub overflow_mul-at : goal.overflow_mul-at
overflow_mul-at c = omega (arith, whole (goal.at.overflow_mul-at c).Else-is_shut)

pub overflow_add-at : goal.overflow_add-at
overflow_add-at c = omega (arith, whole (goal.at.overflow_add-at c).Else-is_shut)

pub overflow_add-at-2 : goal.overflow_add-at-2
overflow_add-at-2 c = omega (arith, whole (goal.at.overflow_add-at-2 c).Else-is_shut, few (goal.at.overflow_add-at-2 c).Else-is_shut)

pub returns-in_default : goal.returns-in_default
returns-in_default c =
    let a = c.args in
    ap damaged c.next_block.ensures
    ∙ at-malformed a.bytes.now a.cursor.place a.cursor.index (more (goal.at.returns-in_default c).Else-is_past)
    (unshut (goal.at.returns-in_default c).Else-is_shut)
    (sym (ap decoded_of c.in_default.is) ∙ c.decode.ensures)

pub behind-requires : goal.behind-requires
behind-requires c =
    (whole (goal.at.behind-requires c).Else-is_shut, few (goal.at.behind-requires c).Else-is_shut)

pub returns : goal.returns
returns c =
    let a = c.args in
    ap (λ (n : Cursor). entry c.in-Some.e n) c.behind.ensures
    ∙ at_entry a.bytes.now a.cursor.place a.cursor.index (more (goal.at.returns c).Else-is_past) (unshut (goal.at.returns c).Else-is_shut)
    (sym (ap decoded_of c.in-Some.is) ∙ c.decode.ensures)
