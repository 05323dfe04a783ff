use Rattle.std.proofs.Common.{◌≡◌, ◌∷◌, take, vec_items}
use Rattle.std.specs.List.{flat_map}
use Rattle.encoding.specs.Words.{bytes4}
use Rattle.reference.proofs.output.encode_head.Given as goal

abbrev pub invariant-loop-len : goal.invariant-loop-len
invariant-loop-len l = vec_items l.out ≡ l.fn.shape.rank ∷ flat_map bytes4 (take l.len-index l.len-items)
