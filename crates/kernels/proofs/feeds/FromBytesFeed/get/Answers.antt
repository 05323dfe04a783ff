use Rattle.std.proofs.Common.{◌+◌, ◌*◌, sym, ◌∙◌}
use Rattle.encoding.specs.Words.{word8}
use Rattle.encoding.specs.Format.{number_at}
use Rattle.numbers.proofs.Plainly.{no_nan_canonical}
use Rattle.kernels.proofs.Readings.{stands_to}
use Rattle.kernels.proofs.feeds.FromBytesFeed.get.Goals as goal

pub returns : goal.returns
unfolding number_at
returns c =
    record { on = λ a e. stands_to (c.word_at.ensures ∙ (sym (no_nan_canonical (word8 c.args.lent.bytes.now (c.args.place + 8 * c.args.k)) c.requires.1) ∙ e)) c.plain_float.ensures }
