use Rattle.std.proofs.Common.{◌≡◌, ◌+◌, ◌-◌, length, ap, ◌∙◌, arith}
use borrow.Rule.Slice.PartMut.{put_mid}
use Rattle.encoding.proofs.Writings.{put_mid_written}
use Rattle.encoding.proofs.writing.put.Goals as goal

pub returns : goal.returns
returns c =
    let bytes = c.args.bytes.now in
    let size : length bytes ≡ c.args.at + length bytes - c.args.at = omega arith in
    ap (put_mid c.args.at (c.args.at + length bytes - c.args.at) c.args.room.now) c.copy_from_slice.ensures.after ∙ put_mid_written c.args.room.now bytes c.args.at (c.args.at + length bytes - c.args.at) size
