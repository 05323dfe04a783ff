use Rattle.std.proofs.Common.{◌++◌, vec_items, sym, refl, ap, ◌∙◌}
use Rattle.std.proofs.lemmas.List.{append_assoc}
use Rattle.semantics.specs.Programs.{listed}
use Rattle.encoding.specs.ShapeOf.{shape_of}
use Rattle.encoding.specs.Format.{array_at}
use Rattle.encoding.proofs.Rows.{flawed_not_good}
use Rattle.encoding.proofs.Listed.{shape_listed}
use Rattle.writer.specs.Listing.{shape_text, row_length, numbers_text, array_text}
use Rattle.writer.proofs.listing.list_array.Goals as goal

pub returns-in_default : goal.returns-in_default
returns-in_default c = (flawed_not_good c.args.bytes.now c.args.at c.in_default.field-0 c.in_default.ensures, refl)

pub returns : goal.returns
unfolding array_text
returns c =
    let heads = c.in-Ok.ensures in
    let h = listed (array_at c.args.bytes.now c.args.at) in
    let shaped = heads.shaped ∙ sym (shape_listed c.args.bytes.now c.args.at) in
    let old = vec_items c.args.out.now in (
      heads.good,
      heads.ends,
      c.in_ok-list_numbers.ensures
          ∙ (ap (λ xs. xs ++ numbers_text (row_length (shape_of c.in-Ok.head.shape)) 0 h.numbers) c.in_ok-list_shape.ensures
          ∙ (ap (λ s. old ++ shape_text s ++ numbers_text (row_length s) 0 h.numbers) shaped ∙ append_assoc old (shape_text h.shape) (numbers_text (row_length h.shape) 0 h.numbers))),
    )
