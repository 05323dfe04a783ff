use Rattle.std.proofs.Common.{◌≡◌, ◌+◌, ◌-◌, length, refl, subst, arith, length-append, length-drop}
use borrow.Rule.Slice.PartMut.{post_of}
use Rattle.std.proofs.lemmas.List.{length-take-le}
use Rattle.encoding.specs.ShapeOf.{shape_of}
use Rattle.encoding.specs.Format.{inputs_of}
use Rattle.kernels.specs.Filling.{Shown, tree_array}
use Rattle.kernels.proofs.Costing.{ready_tree}
use Rattle.kernels.proofs.Growing.{block_able}
use Rattle.kernels.proofs.Listing.{shown_none, shown_more}
use Rattle.kernels.proofs.showing.show_with.Goals as goal

pub cost_of-requires : goal.cost_of-requires
cost_of-requires c = ready_tree c.requires.ready

pub loop-done-init : goal.loop-done-init
loop-done-init c =
    (omega arith, omega arith, refl, record { shown = λ q. shown_none c.args.room.now c.args.index (tree_array (inputs_of c.args.env.now.lent.bytes.now) q.names q.expr (shape_of c.args.env.now.shape)) }, omega arith)

pub show_block-requires : goal.show_block-requires
show_block-requires c =
    let many = c.min-many.result in
    let long = length-take-le (many - 0) c.loop-done.block (omega arith) in
    let same = length-take-le (many - 0) c.loop-done.patterns (omega arith) in
    record {
      able = block_able c.requires.ready c.cost_of.ensures c.block_length-len.ensures.fits (omega arith) (omega arith);
      within = omega arith;
      same = omega arith;
      fits = omega arith;
    }

pub loop-done-preserved : goal.loop-done-preserved
unfolding tree_array
loop-done-preserved c =
    let many = c.min-many.result in
    let done = c.loop-done.done in
    let s = c.show_block.ensures in
    let w = shape_of c.args.env.now.shape in
    let ins = inputs_of c.args.env.now.lent.bytes.now in
    let old = c.args.room.now in
    let new = c.show_block.new.room in
    let long = length-take-le (many - 0) c.loop-done.block (omega arith) in
    let more = length-take-le (many - 0) c.loop-done.patterns (omega arith) in
    let same : done + length s.list ≡ done + many = omega arith in (
      omega (arith, length-append c.show_block.new.block (post_of 0 (many - 0) c.loop-done.block), length-drop (many - 0) c.loop-done.block),
      omega arith,
      omega (arith, length-append c.show_block.new.patterns (post_of 0 (many - 0) c.loop-done.patterns), length-drop (many - 0) c.loop-done.patterns),
      subst (λ n. Shown c.args.env.now.words.now c.args.node c.args.env.now.names.now c.args.env.now.lent.area.now c.args.env.now.lent.bytes.now w c.args.index n old new) same
          (record { shown = λ q. shown_more old c.loop-done.room new c.args.index done (tree_array ins q.names q.expr w) s.list (omega arith) (c.loop-done.invariant.3.shown q) s.bytes (s.each q) }),
      omega arith,
    )
