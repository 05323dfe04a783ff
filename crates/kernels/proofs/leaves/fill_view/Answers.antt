use Rattle.std.proofs.Common.{length, arith}
use Rattle.kernels.proofs.Readings.{stand_same, packed_row, packed_short, row_walk, row_seen}
use Rattle.kernels.proofs.leaves.fill_view.Goals as goal

pub overflow_add-view : goal.overflow_add-view
overflow_add-view c = record { fits = omega (arith, packed_short c.args.view.now c.args.first c.requires.good (c.is_packed.ensures.0 c.if-is_packed.true) (omega arith)) }

pub read_row-requires : goal.read_row-requires
read_row-requires c =
    let v = c.args.view.now in
    record {
      walk = row_walk v c.args.first _ (length c.args.out.now) c.requires.good c.requires.there (packed_row v c.args.first (c.is_packed.ensures.0 c.if-is_packed.true) (omega arith)) (omega arith);
      some = omega arith;
    }

pub returns-then-is_packed : goal.returns-then-is_packed
returns-then-is_packed c =
    let v = c.args.view.now in
    stand_same (λ j l. row_seen c.args.lent.area.now c.args.lent.bytes.now v c.args.first _ j (packed_row v c.args.first (c.is_packed.ensures.0 c.if-is_packed.true) (omega arith)) (omega arith)) c.read_row.ensures
