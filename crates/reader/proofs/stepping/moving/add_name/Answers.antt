use Rattle.std.proofs.Common.{◌<◌, [], ◌∷◌, ◌++◌, length, take, sym, ap, ◌∙◌, arith}
use Rattle.std.proofs.lemmas.List.{take_more_set, length-set}
use Rattle.semantics.specs.Shapes.{pick}
use Rattle.reader.proofs.stepping.moving.add_name.Goals as goal

pub returns : goal.returns
returns c =
    let ns = c.args.names.now in
    let low : c.args.count < length ns = c.requires.room c.if-not-new.false in (
      take_more_set ns c.args.count c.args.span low ∙ sym (ap (λ x. pick x (take c.args.count ns ++ c.args.span ∷ []) (take c.args.count ns)) c.if-not-new.false),
      simp length-set (omega arith),
    )
