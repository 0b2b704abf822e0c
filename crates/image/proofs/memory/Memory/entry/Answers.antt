use Rattle.image.proofs.WindowEntries.{placed, placed-room, placed-entry, placed-missing}
use Rattle.image.proofs.memory.Memory.entry.Goals as goal

pub load-requires : goal.load-requires
load-requires g c = placed-room (placed g.met.E.Entry.laws c.args.self.now.opened.0 c.requires (rw c.WORDS.ensures at c.place_of.ensures)) c.in-Some.is

pub returns-in-Some-clause-result_value : goal.returns-in-Some-clause-result_value
returns-in-Some-clause-result_value g c =
    placed-entry (placed g.met.E.Entry.laws c.args.self.now.opened.0 c.requires (rw c.WORDS.ensures at c.place_of.ensures)) c.in-Some.is c.load.ensures

pub returns-in-None-clause-result_value : goal.returns-in-None-clause-result_value
returns-in-None-clause-result_value g c =
    placed-missing (placed g.met.E.Entry.laws c.args.self.now.opened.0 c.requires (rw c.WORDS.ensures at c.place_of.ensures)) c.in-None.is
