use Rattle.std.proofs.Common.{◌-◌, ◌<◌, ◌≤◌, sym, ap, ◌∙◌, arith}
use Rattle.std.proofs.lemmas.Bool.{lt-ltb, le-ltb}
use Rattle.semantics.specs.Shapes.{pick}
use Rattle.memory.specs.Spans.{low_of, high_of, slot_size, loose_size}
use Rattle.memory.proofs.spans.loose_of.Goals as goal

pub returns-then-size-room : goal.returns-then-size-room
unfolding loose_size
returns-then-size-room c =
    let s = c.args.slot in
    let less : slot_size s < high_of s - low_of s = omega arith in
    c.size_of-size.ensures ∙ sym (ap (λ b. pick b (slot_size s) 0) (lt-ltb (slot_size s) (high_of s - low_of s) less))

pub returns-else-size-room : goal.returns-else-size-room
unfolding loose_size
returns-else-size-room c =
    let s = c.args.slot in
    let more : high_of s - low_of s ≤ slot_size s = omega arith in
    sym (ap (λ b. pick b (slot_size s) 0) (le-ltb (slot_size s) (high_of s - low_of s) more))
