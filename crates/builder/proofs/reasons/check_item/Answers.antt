use Rattle.std.proofs.Common.{sym}
use Rattle.builder.proofs.ItemLaws.{sized}
use Rattle.builder.proofs.reasons.check_item.Goals as goal

pub check_map-requires : goal.check_map-requires
check_map-requires c =
    let a = c.args in
    sized a.registers a.levels a.item (sym c.in_ok-check_place.ensures)
