use Rattle.std.proofs.Common.{◌≡◌, ◌+◌, ◌-◌, ◌<◌, length, get_or, take, sym, ap, ◌∙◌, ⊎_elim, arith, length-append, length-drop}
use borrow.Rule.Slice.PartMut.{post_of}
use Rattle.std.proofs.lemmas.List.{length-take-le}
use Rattle.std.proofs.lemmas.Bool.{cases_lt}
use Rattle.semantics.specs.Shapes.{unflat}
use Rattle.encoding.specs.ShapeOf.{shape_of}
use Rattle.encoding.specs.Format.{inputs_of}
use Rattle.kernels.specs.Trees.{tree}
use Rattle.kernels.proofs.Costing.{ready_tree}
use Rattle.kernels.proofs.Growing.{ready_same, block_able}
use Rattle.kernels.proofs.Turns.{take_fewer, drop_more_same, get_d_front}
use Rattle.kernels.proofs.storing.store_with.Goals as goal

pub cost_of-requires : goal.cost_of-requires
cost_of-requires c = ready_tree c.requires.ready

pub store_block-requires : goal.store_block-requires
store_block-requires c =
    let many = c.min-many.result in
    let whole : many - 0 ≡ many = omega arith in
    let long = length-take-le (many - 0) c.loop-done.block (omega arith) in
    let q = ready_same (sym c.loop-done.invariant.2) c.requires.ready in
    record {
      able = block_able q c.cost_of.ensures c.block_length-len.ensures.fits (omega arith) (omega arith);
      within = omega arith;
      room = omega arith;
    }

pub loop-done-preserved : goal.loop-done-preserved
loop-done-preserved c =
    let many = c.min-many.result in
    let done = c.loop-done.done in
    let to = c.args.to in
    let count = c.size-count.result in
    let s = c.store_block.ensures in
    let area = c.loop-done.area in
    let new = c.store_block.new.area in
    let old = c.args.area.now in
    let long = length-take-le (many - 0) c.loop-done.block (omega arith) in
    let m = length (take (many - 0) c.loop-done.block) in
    let same : m ≡ many = omega arith in (
      omega (arith, length-append c.store_block.new.block (post_of 0 (many - 0) c.loop-done.block), length-drop (many - 0) c.loop-done.block),
      omega arith,
      take_fewer to (to + done) new area (omega arith) s.before ∙ c.loop-done.invariant.2,
      drop_more_same (to + done + m) (to + count) new area (omega arith) s.behind ∙ c.loop-done.invariant.3,
      (λ q n l.
          ⊎_elim
          (λ h. get_d_front (to + done) new area s.before (to + n) (omega arith) ∙ c.loop-done.invariant.4 q n h)
          (λ h.
          let k : n - done < m = omega arith in
          let there : to + n ≡ to + done + (n - done) = omega arith in
          let place : done + (n - done) ≡ n = omega arith in
          let q' = ready_same (sym c.loop-done.invariant.2) q in
          ap (λ i. get_or new i 0) there ∙ (s.each q' (n - done) k ∙ ap (λ i. tree (inputs_of c.args.bytes.now) q.names q.expr (unflat (shape_of c.args.shape) i)) place))
          (cases_lt n done)),
      omega arith,
    )
