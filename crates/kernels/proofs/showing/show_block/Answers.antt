use Rattle.std.proofs.Common.{◌+◌, arith}
use Rattle.semantics.specs.Shapes.{unflat}
use Rattle.semantics.proofs.Places.{inside_unflat}
use Rattle.encoding.specs.ShapeOf.{shape_of}
use Rattle.encoding.specs.Format.{inputs_of}
use Rattle.encoding.proofs.Writings.{length_number_bytes}
use Rattle.kernels.specs.Trees.{tree}
use Rattle.kernels.proofs.Patterned.{tree_pattern}
use Rattle.kernels.proofs.showing.show_block.Goals as goal

pub unreachable-requires : goal.unreachable-requires
unreachable-requires c = omega (arith, length_number_bytes c.write_block.new.out, c.in_default.ensures.0)

pub returns : goal.returns
returns c =
    let w = shape_of c.args.env.now.shape in
    let ins = inputs_of c.args.env.now.lent.bytes.now in
    record {
      list = c.write_block.new.out;
      long = omega arith;
      bytes = c.in-Some.ensures.2;
      each = λ q n l.
          c.write_block.ensures (λ j. tree ins q.names q.expr (unflat w (c.args.first + j))) (c.fill.ensures.filled.stand q)
          (λ j m. tree_pattern ins q.names q.expr q.leaves (inside_unflat w (c.args.first + j) (omega arith))) n (omega arith);
    }
