use Rattle.std.proofs.Common.{◌<◌, length, vec_items, refl, arith}
use Rattle.semantics.specs.Programs.{in_names}
use Rattle.reference.proofs.Cells.{in_names_more}
use Rattle.reference.proofs.names.held_places.Goals as goal

pub loop-cell-init : goal.loop-cell-init
unfolding in_names
loop-cell-init c = refl

pub loop-cell-preserved : goal.loop-cell-preserved
loop-cell-preserved c =
    let items = vec_items c.args.names.now in
    let there : c.loop-cell.cell-index < length items = omega (arith, c.args.names.now.ok.0) in
    let more = in_names_more items c.loop-cell.cell-index c.cell-item.result there (rw c.deref-cell-items.ensures.value at c.cell-item.is) in
    omega (arith, more, c.loop-cell.invariant, c.saturating_add-places.ensures, c.cell_places.ensures)
