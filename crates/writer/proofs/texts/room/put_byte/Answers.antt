use Rattle.writer.proofs.Overlays.{laid_byte, laid_past}
use Rattle.writer.proofs.texts.room.put_byte.Goals as goal

pub returns-then-at-room : goal.returns-then-at-room
returns-then-at-room c = laid_past c.args.room.now c.args.at c.args.byte c.if-at-room.true

pub returns : goal.returns
returns c = laid_byte c.args.room.now c.args.at c.args.byte
