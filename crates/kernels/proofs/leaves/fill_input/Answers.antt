use Rattle.std.proofs.Common.{get_or, sym, ap, subst, arith}
use Rattle.semantics.specs.Shapes.{size}
use Rattle.encoding.specs.ShapeOf.{shape_of}
use Rattle.encoding.specs.Format.{offsets, array_at}
use Rattle.encoding.proofs.Formats.{next_at_is}
use Rattle.encoding.proofs.Rows.{good_at_parts}
use Rattle.views.specs.Broadcasting.{Spread}
use Rattle.kernels.specs.Filling.{CellFilled}
use Rattle.kernels.proofs.Feeding.{input_not, input_there, cell_leaf, spread_of}
use Rattle.kernels.proofs.leaves.fill_input.Goals as goal

pub unreachable-requires : goal.unreachable-requires
unreachable-requires c = input_not c.args.env.now.lent.bytes.now c.args.input c.in_default.ensures c.requires.ready.leaf

pub of_input-requires : goal.of_input-requires
of_input-requires c =
    let f = c.in-Some.ensures in
    let bs = c.args.env.now.lent.bytes.now in
    let at = get_or (offsets bs) c.args.input 0 in
    let fits = (good_at_parts bs at f.heads.good).1 in
    let same = ap size f.heads.shaped in
    omega (arith, next_at_is bs at)

pub fill_broadcast-requires : goal.fill_broadcast-requires
fill_broadcast-requires c =
    let f = c.in-Some.ensures in
    let bs = c.args.env.now.lent.bytes.now in
    let at = get_or (offsets bs) c.args.input 0 in
    let h = c.of_input.ensures.holds c.args.env.now.lent.area.now bs at f.heads in
    let l = cell_leaf (array_at bs at) (input_there bs c.args.input f.there) c.requires.ready.leaf in
    record {
      good = h.good;
      there = h.there;
      spread = subst (λ s. Spread s (shape_of c.args.env.now.shape)) (sym h.shaped) (spread_of l.spreads);
      within = c.requires.within;
      short = c.requires.short;
    }

pub returns : goal.returns
returns c =
    let f = c.in-Some.ensures in
    let bs = c.args.env.now.lent.bytes.now in
    let at = get_or (offsets bs) c.args.input 0 in
    let h = c.of_input.ensures.holds c.args.env.now.lent.area.now bs at f.heads in
    subst (CellFilled (shape_of c.args.env.now.shape) c.args.first c.fill_broadcast.new.out) (sym (input_there bs c.args.input f.there)) (c.fill_broadcast.ensures (array_at bs at) h)
