use Rattle.program.proofs.Storing.{place_of_five}
use Rattle.program.proofs.words.place_at.Goals as goal

pub returns : goal.returns
returns c =
    let (there, is) = c.in_ok-place.ensures in (there, place_of_five c.args.words.now c.args.node c.in_ok-place.field-0 is)
