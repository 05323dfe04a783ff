use Rattle.std.proofs.Common.{ap, ◌∙◌}
use Rattle.std.specs.Int.{w32, from_le_bytes}
use Rattle.encoding.proofs.Taken.{word4_taken}
use Rattle.encoding.proofs.words.read_u32.Goals as goal

pub returns : goal.returns
returns c =
    let taken = c.in_ok-bytes_at.ensures in (taken.0, c.from_le_bytes.ensures ∙ (ap (from_le_bytes w32) taken.1 ∙ word4_taken c.args.bytes.now c.args.at))
