use Rattle.std.proofs.Common.{rules, ap, ◌∙◌, inl, length, arith}
use borrow.Author.Tests.{tests}
use Rattle.std.specs.Option.{is_some}
use Rattle.std.proofs.lemmas.List.Folds.{length-prefix_len}
use Rattle.std.proofs.lemmas.Iterator.Consumers.{count_from_yields_List}
use Rattle.std.proofs.lemmas.Iterator.Search.{YieldsList-from_take_while}
use Rattle.program.specs.Standing.{steps_from}
use Rattle.program.specs.Steps.{steps_left}
use Rattle.program.specs.Leading.{slice_in, slices_at}
use Rattle.program.proofs.Storing.{length_steps_in}
use Rattle.program.proofs.Nodes.{length_from}
use Rattle.program.proofs.Leadings.{prefix_leading, steps_yield}
use Rattle.program.proofs.lists.count_slices.Goals as goal

pub count-requires-clause-fits : goal.count-requires-clause-fits
count-requires-clause-fits c =
    let ws = c.args.words.now in
    let i = c.args.node in
    let left = ap steps_left c.take_while-slices.ensures.source in
    inl (omega (arith, ap length left, length_from ws i, length_steps_in ws))

pub returns-clause-count : goal.returns-clause-count
unfolding slices_at
returns-clause-count c =
    let ws = c.args.words.now in
    let i = c.args.node in
    count_from_yields_List c.take_while-slices.result c.count.result c.count.ensures.ran (YieldsList-from_take_while _ (λ s. is_some (slice_in s)) (steps_yield _ (steps_from ws i) (ap steps_left c.take_while-slices.ensures.source)) c.take_while-slices.ensures.closure c.take_while-slices.ensures.done (λ x b q k. search (rules, tests)))
    ∙ (length-prefix_len (λ s. is_some (slice_in s)) (steps_from ws i) ∙ prefix_leading slice_in (steps_from ws i))

pub returns-clause-fits : goal.returns-clause-fits
returns-clause-fits c =
    let ws = c.args.words.now in
    let i = c.args.node in
    let left = ap steps_left c.take_while-slices.ensures.source in
    omega (arith, c.count.ensures.bound, ap length left, length_from ws i, length_steps_in ws)
