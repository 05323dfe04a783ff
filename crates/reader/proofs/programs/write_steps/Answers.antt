use Rattle.std.proofs.Common.{◌<◌, get_or, refl, subst, arith}
use Rattle.std.proofs.lemmas.List.{length-take-le, get_or-take}
use Rattle.program.specs.declared.step.Step.{Step}
use Rattle.program.specs.Words.{Stores}
use Rattle.reader.proofs.Writing.{stores_more, all_stored}
use Rattle.reader.proofs.programs.write_steps.Goals as goal

pub loop-k-init : goal.loop-k-init
loop-k-init c = record { long = refl; are = refl; stand = refl; rest = refl }

pub loop-k-preserved : goal.loop-k-preserved
loop-k-preserved c =
    let k = c.loop-k.k in
    let low : k < c.args.n = omega (arith, c.loop-k-test.true, length-take-le c.args.n c.args.steps.now c.requires.steps_long) in
    let stored = subst (λ s. Stores c.loop-k.words c.put_step.new.words k s (get_or c.args.places.now k 0) c.put_step.result) (get_or-take c.args.n c.args.steps.now k Step.End low) c.put_step.ensures in
    stores_more c.args.words.now c.loop-k.words c.args.n k c.args.steps.now c.args.places.now c.requires.room c.loop-k.invariant c.put_step.new.words c.put_step.result low c.requires.steps_long c.requires.places_long c.put_step.auto.words stored

pub returns : goal.returns
returns c =
    all_stored c.args.words.now c.loop-k.words c.args.n c.loop-k.k c.args.steps.now c.args.places.now c.requires.room c.loop-k.invariant
    (omega (arith, length-take-le c.args.n c.args.steps.now c.requires.steps_long))
