use Rattle.registers.proofs.bad_table.Goals as goal

pub returns : goal.returns
returns c = cc c.at_or_above_power.ensures
