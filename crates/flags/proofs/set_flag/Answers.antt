use Rattle.std.proofs.Common.{ℕ, ◌*◌, ◌%◌, ◌^◌, get_or, set, ap, ◌∙◌}
use lib.Bits.{bit_or}
use Rattle.flags.proofs.Turns.{set_there, not_set}
use Rattle.flags.proofs.set_flag.Goals as goal

pub returns-in-Some : goal.returns-in-Some
returns-in-Some c =
    let a = c.args in
    ap (λ (place : ℕ). set a.image.now place (bit_or (get_or a.image.now place 0) ((1 * 2 ^ (a.flag % 8)) % 256))) c.place_in-place.ensures
    ∙ set_there a.windows.now a.image.now a.flag c.in-Some.ensures.spot

pub returns-in_default : goal.returns-in_default
returns-in_default c = not_set c.args.windows.now c.args.image.now c.args.flag c.in_default.ensures
