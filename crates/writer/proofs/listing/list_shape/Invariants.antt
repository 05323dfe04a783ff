use Rattle.std.proofs.Common.{◌≡◌, ◌∷◌, ◌++◌, take, vec_items, decimal}
use Rattle.std.specs.List.{flat_map}
use Rattle.writer.proofs.listing.list_shape.Given as goal

abbrev pub invariant-loop-len : goal.invariant-loop-len
invariant-loop-len l = vec_items l.out ≡ vec_items l.initial.out ++ flat_map (λ d. 32 ∷ decimal d) (take l.len-index l.len-items)
