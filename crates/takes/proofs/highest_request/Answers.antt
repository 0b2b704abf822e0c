use mathlib.Core.Path.{sym}
use native.Mathlib.Omega.{arith}
use Rattle.image.specs.Entry.{Words}
use Rattle.takes.proofs.Highest.{words_of, top-of-fourth, top-of-third, top-of-second, top-of-first, top-of-none}
use Rattle.takes.proofs.highest_request.Goals.{After-struct_known-1}
use Rattle.takes.proofs.highest_request.Goals as goal

-- The highest word that is not 0 has the highest bit.
words : (c : After-struct_known-1) → Words (words_of c.args.d)
unfolding Words
words c =
    (omega arith, (omega arith, (omega arith, (omega arith, (omega arith, (omega arith, (omega arith, (omega arith, tt))))))))

pub returns-then-d-ne0 : goal.returns-then-d-ne0
returns-then-d-ne0 c = sym (top-of-fourth c.args.d (words (goal.at.returns-then-d-ne0 c).After-struct_known-1) c.top_bit.result c.top_bit.ensures.1)

pub returns-then-d-ne0-2 : goal.returns-then-d-ne0-2
returns-then-d-ne0-2 c =
    let first = c in
    sym (top-of-third first.args.d (words (goal.at.returns-then-d-ne0-2 c).After-struct_known-1) first.if-d-ne0.false c.top_bit-then-d-ne0-2.result c.top_bit-then-d-ne0-2.ensures.1)

pub returns-then-d-ne0-3 : goal.returns-then-d-ne0-3
returns-then-d-ne0-3 c =
    let second = c in
    let first = second in
    sym (top-of-second first.args.d (words (goal.at.returns-then-d-ne0-3 c).After-struct_known-1) first.if-d-ne0.false second.if-d-ne0-2.false c.top_bit-then-d-ne0-3.result c.top_bit-then-d-ne0-3.ensures.1)

pub returns-then-d-ne0-4 : goal.returns-then-d-ne0-4
returns-then-d-ne0-4 c =
    let third = c in
    let second = third in
    let first = second in
    sym (top-of-first first.args.d (words (goal.at.returns-then-d-ne0-4 c).After-struct_known-1) first.if-d-ne0.false second.if-d-ne0-2.false third.if-d-ne0-3.false c.top_bit-then-d-ne0-4.result c.top_bit-then-d-ne0-4.ensures.1)

pub returns : goal.returns
returns c =
    let third = c in
    let second = third in
    let first = second in
    sym (top-of-none first.args.d (words (goal.at.returns c).After-struct_known-1) first.if-d-ne0.false second.if-d-ne0-2.false third.if-d-ne0-3.false c.if-d-ne0-4.false)
