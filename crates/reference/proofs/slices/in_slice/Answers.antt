use Rattle.std.proofs.Common.{◌/◌, ◌%◌, ◌&&◌, eqb, ltb, ap, ◌∙◌}
use Rattle.semantics.specs.Parts.{apart, in_part}
use Rattle.semantics.specs.Slices.{part_of}
use Rattle.reference.proofs.slices.in_slice.Goals as goal

pub returns-then-ahead : goal.returns-then-ahead
unfolding in_part
returns-then-ahead c =
    let s = c.args.slice in
    c.on_step.ensures
    ∙ (ap (λ n. eqb (n % s.step) 0 && ltb (n / s.step) s.many) c.distance.ensures
    ∙ ap (λ b. b && (eqb (apart (part_of s) c.args.index % s.step) 0 && ltb (apart (part_of s) c.args.index / s.step) s.many)) c.if-ahead.ensures)

pub returns-else-ahead : goal.returns-else-ahead
unfolding in_part
returns-else-ahead c =
    let s = c.args.slice in
    c.if-ahead.false
    ∙ ap (λ b. b && (eqb (apart (part_of s) c.args.index % s.step) 0 && ltb (apart (part_of s) c.args.index / s.step) s.many)) c.if-ahead.ensures
