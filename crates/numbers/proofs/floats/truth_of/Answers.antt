use Rattle.std.proofs.Common.{◌≡◌, not, ◌||◌, ◌∙◌, rules}
use lib.Ieee.{eq, is_nan}
use Rattle.numbers.specs.Binary64.{read}
use Rattle.numbers.proofs.Floated.{truth_stands}
use Rattle.numbers.proofs.floats.truth_of.Goals as goal

pub returns : goal.returns
returns c a s =
    let e : not c.if-x.result ≡ not (eq c.args.x (read 0) || is_nan c.args.x) = search rules in
    e ∙ truth_stands a s
