use Rattle.std.proofs.Common.{◌<◌, ◌≤◌, ◌++◌, length, get_or, take, vec_items, ap, ◌∙◌, append_assoc, arith}
use Rattle.std.proofs.lemmas.List.{take_all}
use Rattle.std.specs.List.{flat_map}
use Rattle.encoding.specs.ShapeOf.{shape_of}
use Rattle.encoding.specs.Words.{bytes8}
use Rattle.encoding.specs.Writing.{head_bytes, number_bytes, array_bytes}
use Rattle.encoding.proofs.Writings.{joined_push}
use Rattle.reference.proofs.output.encode.Goals as goal

pub loop-number-preserved : goal.loop-number-preserved
unfolding bytes8
loop-number-preserved c =
    let items = c.deref-number-items.result.now in
    let head = head_bytes (shape_of c.args.array.now.shape) in
    let k = c.loop-number.number-index in
    let there : k < length items = omega arith in
    c.in_ok-extend_from_slice.ensures.items
    ∙ (ap (λ l. vec_items c.loop-number.out ++ l) c.to_le_bytes.ensures
    ∙ (ap (λ l. l ++ bytes8 (get_or items k 0)) c.loop-number.invariant
    ∙ (append_assoc head (flat_map bytes8 (take k items)) (bytes8 (get_or items k 0)) ∙ ap (λ l. head ++ l) (joined_push bytes8 items k there))))

pub returns : goal.returns
unfolding array_bytes number_bytes
returns c =
    let items = c.deref-number-items.result.now in
    let all : length items ≤ c.loop-number.number-index = omega arith in
    c.loop-number.invariant ∙ ap (λ l. head_bytes (shape_of c.args.array.now.shape) ++ flat_map bytes8 l) (take_all c.loop-number.number-index items all ∙ c.deref-number-items.ensures.value)
