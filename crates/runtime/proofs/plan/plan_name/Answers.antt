use Rattle.std.proofs.Common.{sym, ap, ◌∙◌}
use Rattle.runtime.specs.Planning.{NamePlan}
use Rattle.runtime.proofs.Planning.{name_nothing, name_counts}
use Rattle.runtime.proofs.Stops.{exits, found, missed}
use Rattle.runtime.proofs.plan.plan_name.Goals as goal

pub returns-in_err-view : goal.returns-in_err-view
returns-in_err-view c =
    let x = c.in_err-view.field-0.0 in
    let m = missed c.view_of.result c.at.result x (sym c.ok_or.ensures.value ∙ c.in_err-view.was) in
    exits (NamePlan c.args.names.now c.args.name c.args.left c.args.next) c.from_residual.result x c.from_residual.ensures.1
    (name_nothing c.args.names.now c.args.name c.args.left c.args.next x (sym c.view_of.ensures ∙ m.0) (ap (λ s. s.fault) m.1 ∙ c.at.ensures.fault))

pub returns : goal.returns
returns c =
    let h = found c.view_of.result c.at.result c.in_ok-view.view (sym c.ok_or.ensures.value ∙ c.in_ok-view.was) in
    name_counts c.args.names.now c.args.name c.args.left c.args.next c.in_ok-view.view _ (sym c.view_of.ensures ∙ h) c.count_array.ensures
