use Rattle.std.proofs.Common.{◌≡◌, ◌++◌, take, vec_items}
use Rattle.std.specs.List.{flat_map}
use Rattle.encoding.specs.ShapeOf.{shape_of}
use Rattle.encoding.specs.Words.{bytes8}
use Rattle.encoding.specs.Writing.{head_bytes}
use Rattle.reference.proofs.output.encode.Given as goal

abbrev pub invariant-loop-number : goal.invariant-loop-number
invariant-loop-number l = vec_items l.out ≡ head_bytes (shape_of l.fn.array.shape) ++ flat_map bytes8 (take l.number-index l.number-items)
