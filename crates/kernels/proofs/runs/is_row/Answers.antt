use Rattle.std.proofs.Common.{[], ◌∷◌, ap, ◌∙◌, arith, eqb-true}
use Rattle.kernels.proofs.InPlace.{one_axis}
use Rattle.kernels.proofs.runs.is_row.Goals as goal

pub returns : goal.returns
returns c e = one_axis c.args.shape (omega arith) (omega arith) ∙ ap (λ n. n ∷ []) (eqb-true _ _ e)
