use Rattle.image.proofs.WindowEntries.{paged, page-begins, page-room, page-entry, page-missing}
use Rattle.image.proofs.memory.Memory.table_entry.Goals as goal

pub table_page-requires : goal.table_page-requires
table_page-requires g c =
    let at = c.requires in
    page-begins (paged g.met.E.Entry.laws c.args.self.now.opened.0 at.0 at.1 at.2 (rw c.WORDS.ensures at c.window.ensures)) c.in-Some.is

pub load-requires : goal.load-requires
load-requires g c =
    let at = c.requires in
    page-room (paged g.met.E.Entry.laws c.args.self.now.opened.0 at.0 at.1 at.2 (rw c.WORDS.ensures at c.window.ensures)) c.in-Some.is c.table_page.ensures

pub returns-in-Some-clause-result_value : goal.returns-in-Some-clause-result_value
returns-in-Some-clause-result_value g c =
    let at = c.requires in
    page-entry (paged g.met.E.Entry.laws c.args.self.now.opened.0 at.0 at.1 at.2 (rw c.WORDS.ensures at c.window.ensures)) c.in-Some.is c.table_page.ensures c.load.ensures

pub returns-in-None-clause-result_value : goal.returns-in-None-clause-result_value
returns-in-None-clause-result_value g c =
    let at = c.requires in
    page-missing (paged g.met.E.Entry.laws c.args.self.now.opened.0 at.0 at.1 at.2 (rw c.WORDS.ensures at c.window.ensures)) c.in-None.is
