use Rattle.std.proofs.Common.{ap, ◌∙◌}
use Rattle.std.specs.Int.{w64, from_le_bytes}
use Rattle.encoding.proofs.Taken.{word8_taken}
use Rattle.encoding.proofs.words.read_u64.Goals as goal

pub returns : goal.returns
returns c =
    let taken = c.in_ok-bytes_at.ensures in (taken.0, c.from_le_bytes.ensures ∙ (ap (from_le_bytes w64) taken.1 ∙ word8_taken c.args.bytes.now c.args.at))
