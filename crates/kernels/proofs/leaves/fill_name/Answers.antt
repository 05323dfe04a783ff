use Rattle.std.proofs.Common.{◌≡◌, get_or, sym, ◌∙◌, subst, arith, Some, None}
use Rattle.encoding.specs.ShapeOf.{shape_of}
use Rattle.views.specs.Broadcasting.{Spread}
use Rattle.kernels.specs.Filling.{CellFilled}
use Rattle.kernels.proofs.Feeding.{name_below, name_view, get_d_any, slot_cell, cell_leaf, spread_of}
use Rattle.kernels.proofs.leaves.fill_name.Goals as goal

pub listed : goal.listed
listed c = name_below c.requires.ready

pub bounds-env-name : goal.bounds-env-name
bounds-env-name c = omega (arith, name_below c.requires.ready)

pub unreachable-requires : goal.unreachable-requires
unreachable-requires c =
    let v = name_view c.requires.ready in
    c.in_default.not-Some v.view (get_d_any c.args.env.now.names.now c.args.name c.index-env-name.result None (name_below c.requires.ready) ∙ v.slot_is)

pub fill_broadcast-requires : goal.fill_broadcast-requires
fill_broadcast-requires c =
    let q = c.requires.ready in
    let k = c.args.name in
    let is : get_or c.args.env.now.names.now k None ≡ Some c.in-Some.view = get_d_any c.args.env.now.names.now k None c.index-env-name.result (name_below q) ∙ c.in-Some.is in
    let a = slot_cell is (q.tabled.each k) in
    let l = cell_leaf a.array a.cell_is q.leaf in
    record {
      good = a.holds.good;
      there = a.holds.there;
      spread = subst (λ s. Spread s (shape_of c.args.env.now.shape)) (sym a.holds.shaped) (spread_of l.spreads);
      within = c.requires.within;
      short = c.requires.short;
    }

pub returns : goal.returns
returns c ns t =
    let k = c.args.name in
    let is : get_or c.args.env.now.names.now k None ≡ Some c.in-Some.view = get_d_any c.args.env.now.names.now k None c.index-env-name.result (name_below c.requires.ready) ∙ c.in-Some.is in
    let a = slot_cell is (t.each k) in
    subst (CellFilled (shape_of c.args.env.now.shape) c.args.first c.fill_broadcast.new.out) (sym a.cell_is) (c.fill_broadcast.ensures a.array a.holds)
