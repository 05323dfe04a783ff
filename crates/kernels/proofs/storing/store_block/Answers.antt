use Rattle.std.proofs.Common.{◌≡◌, ◌+◌, ◌-◌, ◌≤◌, length, take, ◌∙◌, subst, arith}
use Rattle.std.proofs.lemmas.Slice.{take-put_mid_below, drop-put_mid}
use Rattle.semantics.specs.Shapes.{unflat}
use Rattle.semantics.proofs.Places.{inside_unflat}
use Rattle.encoding.specs.ShapeOf.{shape_of}
use Rattle.encoding.specs.Format.{inputs_of}
use Rattle.kernels.specs.Trees.{tree}
use Rattle.kernels.specs.Filling.{Able, Filled}
use Rattle.kernels.proofs.Patterned.{tree_pattern}
use Rattle.kernels.proofs.Turns.{part_at, length_part}
use Rattle.kernels.proofs.storing.store_block.Goals as goal

pub fill-requires : goal.fill-requires
fill-requires c =
    let whole : c.args.to ≡ c.args.to - 0 = omega arith in
    record {
      able = subst (λ n. Able c.args.words.now c.args.node c.args.names.now (take n c.args.area.now) c.args.bytes.now (shape_of c.args.shape) (length c.args.block.now) (length c.args.spare.now)) whole c.requires.able;
      within = c.requires.within;
      short = omega arith;
    }

pub returns : goal.returns
returns c =
    let to = c.args.to in
    let first = c.args.first in
    let a = to + first in
    let out = c.fill.new.out in
    let k = a + length out - a in
    let old = c.args.area.now in
    let part = c.write_block.new.out in
    let w = shape_of c.args.shape in
    let few : a ≤ length old = omega arith in
    let long = length_part 0 a (length out) old (omega arith) in
    let same : length part ≡ length c.args.block.now = omega arith in
    let whole : to - 0 ≡ to = omega arith in
    let filled = subst (λ m. Filled c.args.words.now c.args.node c.args.names.now (take m old) c.args.bytes.now w first out) whole c.fill.ensures.filled in
    record {
      before = take-put_mid_below a k old part a (omega arith) few;
      behind = drop-put_mid a k old part (a + length c.args.block.now) (omega arith) few (omega arith);
      each = λ q n l.
          part_at 0 a k old part n few (omega arith)
          ∙ c.write_block.ensures (λ j. tree (inputs_of c.args.bytes.now) q.names q.expr (unflat w (first + j))) (filled.stand q)
          (λ j m. tree_pattern (inputs_of c.args.bytes.now) q.names q.expr q.leaves (inside_unflat w (first + j) (omega arith))) n (omega arith);
    }
