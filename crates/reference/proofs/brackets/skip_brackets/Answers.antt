use Rattle.std.proofs.Common.{◌+◌, length, ap, ◌∙◌, inl, rules, arith}
use borrow.Author.Tests.{tests}
use Rattle.std.proofs.lemmas.List.Folds.{length-prefix_len}
use Rattle.std.proofs.lemmas.Iterator.Consumers.{count_from_yields_List}
use Rattle.std.proofs.lemmas.Iterator.Search.{YieldsList-from_take_while}
use Rattle.program.specs.Standing.{steps_from}
use Rattle.program.specs.Steps.{steps_left}
use Rattle.program.proofs.Storing.{length_steps_in}
use Rattle.program.proofs.Nodes.{length_from}
use Rattle.program.proofs.Leadings.{steps_yield}
use Rattle.reference.specs.Brackets.{bracketed}
use Rattle.reference.proofs.Bracketed.{prefix_skipped}
use Rattle.reference.proofs.brackets.skip_brackets.Goals as goal

pub count-requires-clause-fits : goal.count-requires-clause-fits
count-requires-clause-fits c =
    let ws = c.args.words.now in
    let i = c.args.node in
    let left = ap steps_left c.take_while-brackets.ensures.source in
    inl (omega (arith, ap length left, length_from ws i, length_steps_in ws))

pub overflow_add-result : goal.overflow_add-result
overflow_add-result c =
    let ws = c.args.words.now in
    let i = c.args.node in
    let left = ap steps_left c.take_while-brackets.ensures.source in
    omega (arith, c.count.ensures.bound, ap length left, length_from ws i, length_steps_in ws)

pub returns-clause-all : goal.returns-clause-all
returns-clause-all c =
    let ws = c.args.words.now in
    let i = c.args.node in
    ap (λ n. i + n) (count_from_yields_List c.take_while-brackets.result c.count.result c.count.ensures.ran (YieldsList-from_take_while _ bracketed (steps_yield _ (steps_from ws i) (ap steps_left c.take_while-brackets.ensures.source)) c.take_while-brackets.ensures.closure c.take_while-brackets.ensures.done (λ x b q k. search (rules, tests))) ∙ length-prefix_len bracketed (steps_from ws i))

pub returns-clause-skips : goal.returns-clause-skips
returns-clause-skips c = prefix_skipped c.args.words.now c.args.node _ (returns-clause-all c)
