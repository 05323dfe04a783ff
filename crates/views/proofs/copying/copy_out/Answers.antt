use Rattle.std.proofs.Common.{length, sym, refl, ap, ◌∙◌, subst, arith, length-take}
use Rattle.semantics.specs.Shapes.{size}
use Rattle.views.specs.Copying.{Walk, Copied}
use Rattle.views.proofs.Seeing.{view_walk, copied_seen, seen_listed}
use Rattle.views.proofs.Packs.{packed_walk, packed_seen}
use Rattle.views.proofs.copying.copy_out.Goals as goal

pub copy_axes-requires : goal.copy_axes-requires
copy_axes-requires c =
    let v = c.args.view in
    let same = sym c.lengths.ensures in
    record {
      axes = omega (arith, ap length c.lengths.ensures, length-take v.shape.rank v.shape.lens, v.shape.few);
      walk = subst (λ s. Walk v.source c.args.lent.area.now c.args.lent.bytes.now s v.strides v.start) same (view_walk v c.args.lent.area.now c.args.lent.bytes.now c.requires.good c.requires.there);
      room = c.requires.room ∙ ap size same;
    }

pub returns : goal.returns
returns c =
    let v = c.args.view in
    let each = copied_seen v (subst (λ s. Copied v.source c.args.lent.area.now c.args.lent.bytes.now s v.strides v.start c.copy_axes.new.out) c.lengths.ensures c.copy_axes.ensures) in
    record { each = each; holds = λ a h. seen_listed h (c.copy_axes.auto.out ∙ c.requires.room) each }

pub copy_row-requires : goal.copy_row-requires
copy_row-requires c =
    let packed = c.if-is_packed.ensures.0 refl in
    packed_walk c.args.view c.args.lent.area.now c.args.lent.bytes.now (length c.args.out.now) c.requires.good packed c.requires.there c.requires.room

pub returns-then-is_packed : goal.returns-then-is_packed
returns-then-is_packed c =
    let packed = c.if-is_packed.ensures.0 refl in
    let each = packed_seen c.args.view (length c.args.out.now) packed c.requires.room c.copy_row.ensures in
    record { each = each; holds = λ a h. seen_listed h (c.copy_row.auto.out ∙ c.requires.room) each }
