use Rattle.std.proofs.Common.{ap, ◌∙◌}
use Rattle.numbers.specs.Binary64.{canonical_bits}
use Rattle.encoding.specs.Format.{number_at}
use Rattle.encoding.proofs.words.read_number.Goals as goal

pub returns : goal.returns
unfolding number_at
returns c =
    let word = c.in_ok-read_u64.ensures in (word.0, c.canonical.ensures ∙ ap canonical_bits word.1)
