use Rattle.std.proofs.Common.{◌≡◌, ◌+◌, ap, ◌∙◌, arith}
use Rattle.std.proofs.lemmas.Result.{err_from_is_err_and}
use Rattle.image.specs.Answers.{memory_of}
use Rattle.image.specs.Memory.{entry}
use Rattle.image.proofs.Halves.{none-low, none-high, both}
use Rattle.image.proofs.memory.Memory.table_entry32.Goals as goal

pub returns-in_err-low-clause-result_value : goal.returns-in_err-low-clause-result_value
returns-in_err-low-clause-result_value c =
    let p = err_from_is_err_and c.from_residual.result c.from_residual.ensures.1 in
    rw p.1 (none-low (memory_of c.args.self.now) (c.args.table + c.args.offset) c.in_err-low.ensures.result_value)

pub returns-in_default-clause-result_value : goal.returns-in_default-clause-result_value
returns-in_default-clause-result_value c =
    let same : c.args.table + (c.args.offset + 16) ≡ c.args.table + c.args.offset + 16 = omega arith in
    none-high (memory_of c.args.self.now) (c.args.table + c.args.offset) c.in_ok-low.ensures.result_value
    (c.in_default.ensures.result_value ∙ ap (entry 2 (memory_of c.args.self.now)) same)

pub returns-clause-result_value : goal.returns-clause-result_value
returns-clause-result_value c =
    let same : c.args.table + (c.args.offset + 16) ≡ c.args.table + c.args.offset + 16 = omega arith in
    let l = c.in_ok-low.low in
    let h = c.in-Ok.high in
    both (memory_of c.args.self.now) (c.args.table + c.args.offset) l.low l.high h.low h.high c.in_ok-low.ensures.result_value
    (c.in-Ok.ensures.result_value ∙ ap (entry 2 (memory_of c.args.self.now)) same)
