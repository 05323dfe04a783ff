use Rattle.std.proofs.Common.{◌++◌, [], ◌∷◌, map, sym, ap, ◌∙◌}
use Rattle.std.specs.Option.{option_map}
use Rattle.std.proofs.lemmas.List.{map-append}
use Rattle.semantics.specs.Slices.{part_of, parts_of}
use Rattle.program.specs.Steps.{steps_left}
use Rattle.program.specs.Leading.{slice_in, leading}
use Rattle.reference.proofs.Leading.{read_more, read_up_to, read_all, slices_read}
use Rattle.reference.proofs.brackets.read_slices.Goals as goal

pub loop-step-init : goal.loop-step-init
loop-step-init c =
    ap (λ s. leading slice_in (steps_left s)) (sym c.into_iter-step-iterator.ensures.into_iter_gives)
    ∙ ap (λ l. map part_of l ++ leading slice_in (steps_left c.into_iter-step-iterator.result)) (sym c.new-list.ensures.items)

pub loop-step-preserved : goal.loop-step-preserved
loop-step-preserved c =
    read_more slice_in c.args.words.now c.args.node _ _ (part_of c.in-Some-slice.slice) c.in-Some.step c.loop-step.step-iterator c.next.new.self c.in-Some.ensures.steps (sym c.slice.ensures ∙ ap (option_map part_of) c.in-Some-slice.is)
    (ap (map part_of) c.in_ok-push.ensures.items ∙ map-append part_of c.loop-step.list.items (c.in-Some-slice.slice ∷ []))
    c.loop-step.invariant

pub returns-in_default : goal.returns-in_default
returns-in_default c =
    slices_read c.args.words.now c.args.node (parts_of c.loop-step.list.items)
    (read_up_to slice_in c.args.words.now c.args.node _ c.in-Some.step c.loop-step.step-iterator c.next.new.self c.in-Some.ensures.steps (sym c.slice.ensures ∙ ap (option_map part_of) c.in_default.is) c.loop-step.invariant)

pub returns : goal.returns
returns c =
    slices_read c.args.words.now c.args.node (parts_of c.loop-step.list.items)
    (read_all slice_in c.args.words.now c.args.node _ c.loop-step.step-iterator c.next.new.self c.in-None.ensures.steps c.loop-step.invariant)
