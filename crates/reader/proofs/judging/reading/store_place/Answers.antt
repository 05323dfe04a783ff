use Rattle.std.proofs.Common.{◌+◌, ◌++◌, length, take, set, sym, ap, ◌∙◌, arith}
use Rattle.std.proofs.lemmas.List.{take_more_set}
use Rattle.reader.proofs.Lines.{place_some}
use Rattle.reader.proofs.judging.reading.store_place.Goals as goal

pub returns : goal.returns
returns c =
    let one = place_some c.args.mark c.args.i c.in_default.not-Inside in
    ap (λ x. take (c.args.marks + length x) (set c.args.places.now c.args.marks c.args.i)) (sym one)
    ∙ (take_more_set c.args.places.now c.args.marks c.args.i (omega (arith, c.requires.room, ap length one)) ∙ ap (λ x. take c.args.marks c.args.places.now ++ x) one)
