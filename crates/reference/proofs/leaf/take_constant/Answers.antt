use Rattle.std.proofs.Common.{refl, arith}
use Rattle.semantics.specs.Shapes.{size}
use Rattle.semantics.specs.Arrays.{constant_array}
use Rattle.reference.proofs.Rights.{right_too_many, right_taken, right_wanting}
use Rattle.reference.proofs.leaf.take_constant.Goals as goal

pub returns-then-left-lt1 : goal.returns-then-left-lt1
unfolding size constant_array
returns-then-left-lt1 c = right_too_many c.args.left 0 (constant_array c.args.value) c.if-left-lt1.true

pub returns-in_err-array : goal.returns-in_err-array
returns-in_err-array c = right_wanting c.from_residual.result c.from_residual.ensures.1

pub returns : goal.returns
unfolding size constant_array
returns c = right_taken c.args.left 0 (constant_array c.args.value) _ c.in_ok-array.ensures refl (omega arith)
