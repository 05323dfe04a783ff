use Rattle.std.proofs.Common.{refl}
use Rattle.reader.proofs.Skimming.{word_read}
use Rattle.reader.proofs.stepping.skimming.go_on.Goals as goal

pub returns : goal.returns
returns c =
    let goes = c.if-not-may_go_on.ensures refl in
    word_read c.args.text.now c.args.i c.args.machine.now c.requires goes.0 goes.1 goes.2 c.in-Some.symbol c.in-Some.ensures (c.if-not-is_spelling.ensures refl)
