use Rattle.std.proofs.Common.{sym, ap, ◌∙◌}
use Rattle.std.specs.List.{list_all}
use Rattle.std.proofs.Common.{ltb, get_or}
use Rattle.numbers.specs.Operations.{binary64}
use Rattle.encoding.specs.ShapeOf.{shape_of}
use Rattle.reference.proofs.Gathering.{rows_all}
use Rattle.reference.proofs.gather.rows_exist.Goals as goal

pub returns : goal.returns
returns c =
    let len = get_or (shape_of c.args.array.now.shape) 0 0 in
    c.all_below.ensures
    ∙ (ap (list_all (λ x. ltb (binary64.index x) c.from-len.result)) c.as_slice.ensures.value
    ∙ (ap (λ d. list_all (λ x. ltb (binary64.index x) d) c.args.rows.now.numbers.items) (c.from-len.ensures ∙ c.axis_length.ensures) ∙ sym (rows_all binary64 c.args.array.now c.args.rows.now)))
