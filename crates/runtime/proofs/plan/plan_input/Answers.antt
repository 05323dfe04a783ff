use Rattle.std.proofs.Common.{◌≤◌, Option, length, sym, ap, ◌∙◌, subst, MatchOption}
use Rattle.encoding.specs.declared.header.Header.{Header}
use Rattle.encoding.specs.Format.{offsets}
use Rattle.encoding.specs.Inputs.{Found}
use Rattle.runtime.specs.Planning.{InputPlan}
use Rattle.runtime.proofs.Planning.{input_nothing, input_counts}
use Rattle.runtime.proofs.Stops.{exits, found, missed}
use Rattle.runtime.proofs.plan.plan_input.Goals as goal

pub returns-in_err-head : goal.returns-in_err-head
returns-in_err-head c =
    let Looked = λ (o : Option Header). MatchOption o (length (offsets c.args.inputs.now) ≤ c.args.input) (λ h. Found c.args.inputs.now c.args.input h) in
    let m = missed c.find_input.result c.at.result c.in_err-head.field-0.0 (sym c.ok_or.ensures.value ∙ c.in_err-head.was) in
    exits (InputPlan c.args.inputs.now c.args.input c.args.left c.args.next) c.from_residual.result c.in_err-head.field-0.0 c.from_residual.ensures.1
    (input_nothing c.args.inputs.now c.args.input c.args.left c.args.next c.in_err-head.field-0.0 (subst Looked m.0 c.find_input.ensures) (ap (λ s. s.fault) m.1 ∙ c.at.ensures.fault))

pub returns : goal.returns
returns c =
    let Looked = λ (o : Option Header). MatchOption o (length (offsets c.args.inputs.now) ≤ c.args.input) (λ h. Found c.args.inputs.now c.args.input h) in
    let h = found c.find_input.result c.at.result c.in_ok-head.head (sym c.ok_or.ensures.value ∙ c.in_ok-head.was) in
    input_counts c.args.inputs.now c.args.input c.args.left c.args.next c.in_ok-head.head _ (subst Looked h c.find_input.ensures) c.count_array.ensures
