use Rattle.std.proofs.Common.{◌^◌, ◌<◌}
use Rattle.program.specs.Sayable.{fit_none}
use Rattle.program.proofs.Fitting.{fit_program, words_fit}
use Rattle.program.proofs.laws.sayable_fits_stands.Goals as goal

pub returns : goal.returns
returns c = (λ p h. fit_program (λ x. x < 2 ^ 64) (λ x l. l) h fit_none, words_fit)
