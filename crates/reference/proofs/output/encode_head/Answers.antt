use Rattle.std.proofs.Common.{◌≡◌, ◌<◌, ◌≤◌, ◌∷◌, ◌++◌, length, get_or, vec_items, sym, ap, ◌∙◌, arith}
use Rattle.std.proofs.lemmas.List.{length-take-le, take_all}
use Rattle.std.specs.List.{flat_map}
use Rattle.encoding.specs.ShapeOf.{shape_of}
use Rattle.encoding.specs.Words.{bytes4}
use Rattle.encoding.specs.Writing.{head_bytes}
use Rattle.encoding.proofs.Writings.{joined_push}
use Rattle.reference.proofs.output.encode_head.Goals as goal

pub loop-len-preserved : goal.loop-len-preserved
unfolding bytes4
loop-len-preserved c =
    let lens = c.lengths-len-items.result.now in
    let k = c.loop-len.len-index in
    let there : k < length lens = omega arith in
    c.in_ok-extend_from_slice.ensures.items
    ∙ (ap (λ l. vec_items c.loop-len.out ++ l) c.to_le_bytes.ensures
    ∙ (ap (λ l. l ++ bytes4 (get_or lens k 0)) c.loop-len.invariant ∙ ap (λ l. c.args.shape.rank ∷ l) (joined_push bytes4 lens k there)))

pub returns : goal.returns
unfolding head_bytes
returns c =
    let s = c.args.shape in
    let lens = c.lengths-len-items.result.now in
    let all : length lens ≤ c.loop-len.len-index = omega arith in
    let l : length (shape_of s) ≡ s.rank = length-take-le s.rank s.lens (omega arith) in
    c.loop-len.invariant ∙ (ap (λ x. s.rank ∷ flat_map bytes4 x) (take_all c.loop-len.len-index lens all ∙ c.lengths-len-items.ensures) ∙ ap (λ n. n ∷ flat_map bytes4 (shape_of s)) (sym l))
