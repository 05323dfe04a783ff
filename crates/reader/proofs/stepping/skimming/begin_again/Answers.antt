use Rattle.std.proofs.Common.{◌+◌, refl, ◌∙◌, subst, arith}
use Rattle.reader.specs.Machines.{Placed}
use Rattle.reader.proofs.Skimming.{again_read}
use Rattle.reader.proofs.stepping.skimming.begin_again.Goals as goal

pub replace_top-requires : goal.replace_top-requires
replace_top-requires c = record { there = c.in-Some.ensures.there; room = omega (arith, c.requires.good.room, c.as_slice.ensures.few) }

pub returns : goal.returns
returns c =
    let m = c.args.machine.now in
    let placed = subst (λ p. Placed m c.replace_top.new.self p (c.args.i + 1)) (c.as_slice.ensures.are ∙ c.again_line-line.ensures) c.replace_top.ensures in
    again_read c.args.text.now c.args.i m c.requires c.in-Some.symbol _ c.in-Some.ensures (c.if-not-is_between.ensures refl) c.if-text-i-ne97.false placed
