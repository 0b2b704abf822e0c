use Rattle.std.proofs.Common.{◌+◌, sym, ◌∙◌}
use Rattle.builder.proofs.ItemLaws.{frame_below}
use Rattle.builder.proofs.items.take_item.Goals as goal

pub leaf-requires : goal.leaf-requires
leaf-requires c =
    let a = c.args in
    frame_below a.registers (a.tree.below + 1) a.item (sym c.in_ok-check_item.ensures) (sym c.unmaps.ensures ∙ c.if-unmaps.false) c.requires.0
