use Rattle.std.proofs.Common.{◌+◌, ◌-◌, get_or, sym, ap, ◌∙◌}
use Rattle.std.proofs.lemmas.Bool.{ltb-true}
use Rattle.grammar.specs.Words.{shaped}
use Rattle.reader.specs.Names.{part}
use Rattle.reader.proofs.Turnings.{part_one}
use Rattle.reader.proofs.Skimming.{still_shaped, letter_shaped}
use Rattle.reader.proofs.stepping.skimming.stays_shaped.Goals as goal

pub returns-then-machine : goal.returns-then-machine
returns-then-machine c is =
    let m = c.args.machine.now in
    still_shaped c.args.text.now m.word c.args.i c.requires.reading.good.begun c.requires.reading.inside (c.requires.reading.hinted.shape c.if-machine.true) c.requires.letter (ltb-true (c.args.i - m.word) 8 is)

pub returns : goal.returns
returns c is =
    let t = c.args.text.now in
    let i = c.args.i in
    ap (λ a. shaped (part t a (i + 1))) c.if-machine-i.false ∙ (ap shaped (part_one t i c.requires.reading.inside) ∙ letter_shaped (get_or t i 0) (sym c.is_letter.ensures ∙ is))
