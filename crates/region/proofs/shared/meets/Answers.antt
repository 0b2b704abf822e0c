use Rattle.region.proofs.Tests.{meets-none, meets-not, meets-low, meets-high}
use Rattle.region.proofs.shared.meets.Goals as goal

pub returns-then-area-eq0 : goal.returns-then-area-eq0
returns-then-area-eq0 c = let a = c.args in meets-none a.area.start a.area.size a.other a.n c.if-area-eq0.true

pub returns-then-area-other : goal.returns-then-area-other
returns-then-area-other c =
    let a = c.args in
    meets-not a.area.start a.area.size a.other a.n c.if-area-eq0.false c.if-area-other.true

pub returns-then-area-n : goal.returns-then-area-n
returns-then-area-n c =
    let a = c.args in
    meets-low a.area.start a.area.size a.other a.n c.if-area-eq0.false c.requires.1 c.if-area-other.false c.if-area-n.true

pub returns : goal.returns
returns c =
    let a = c.args in
    meets-high a.area.start a.area.size a.other a.n c.if-area-eq0.false c.if-area-other.false c.if-area-n.false
