use Rattle.std.proofs.Common.{◌++◌, sym, ap, ◌∙◌}
use Rattle.program.specs.Steps.{steps_left}
use Rattle.program.specs.Leading.{item_in, leading}
use Rattle.reference.proofs.Leading.{read_more, read_up_to, read_all, items_read}
use Rattle.reference.proofs.brackets.read_items.Goals as goal

pub loop-step-init : goal.loop-step-init
loop-step-init c =
    ap (λ s. leading item_in (steps_left s)) (sym c.into_iter-step-iterator.ensures.into_iter_gives)
    ∙ ap (λ l. l ++ leading item_in (steps_left c.into_iter-step-iterator.result)) (sym c.new-list.ensures.items)

pub loop-step-preserved : goal.loop-step-preserved
loop-step-preserved c =
    read_more item_in c.args.words.now c.args.node _ _ c.in-Some-item.item c.in-Some.step c.loop-step.step-iterator c.next.new.self c.in-Some.ensures.steps (sym c.item.ensures ∙ c.in-Some-item.is) c.in_ok-push.ensures.items c.loop-step.invariant

pub returns-in_default : goal.returns-in_default
returns-in_default c =
    items_read c.args.words.now c.args.node c.loop-step.list.items
    (read_up_to item_in c.args.words.now c.args.node _ c.in-Some.step c.loop-step.step-iterator c.next.new.self c.in-Some.ensures.steps (sym c.item.ensures ∙ c.in_default.is) c.loop-step.invariant)

pub returns : goal.returns
returns c =
    items_read c.args.words.now c.args.node c.loop-step.list.items
    (read_all item_in c.args.words.now c.args.node _ c.loop-step.step-iterator c.next.new.self c.in-None.ensures.steps c.loop-step.invariant)
