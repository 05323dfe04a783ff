use Rattle.std.proofs.Common.{get_or, sym, subst, arith}
use Rattle.reader.specs.Names.{spelling, KnownAs}
use Rattle.reader.proofs.Settling.{names_of}
use Rattle.reader.proofs.Known.{known_by}
use Rattle.reader.proofs.stepping.known.known_name.Goals as goal

pub returns : goal.returns
unfolding spelling
returns c =
    let t = c.args.text.now in
    let m = c.args.machine.now in
    let k = get_or m.hints c.sum_of.result 0 in
    subst (λ w. KnownAs (names_of t m) w k) c.part_of-word.ensures
    (known_by t m.names m.count k _ c.part_of-word.result.now c.of.result.now c.requires.hinted.named (omega (arith, c.requires.good.few, c.requires.good.spans)) c.if-k-machine.false c.of.ensures (sym c.if-not-same_word.ensures))
