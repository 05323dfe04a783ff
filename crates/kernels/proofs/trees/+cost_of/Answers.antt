use Rattle.std.proofs.Common.{⊎_elim, arith}
use Rattle.kernels.proofs.Growing.{skips_name, skips_input, skips_constant, skips_count}
use Rattle.kernels.proofs.Costing.{tree_there, tree_step, tree_further, tree_each, tree_left, tree_right, tree_first, tree_second, tree_third, costs_name, costs_input, costs_constant, costs_count, costs_each, costs_both, costs_choose}
use Rattle.kernels.proofs.trees.+cost_of.Goals as goal

pub unreachable-requires : goal.unreachable-requires
unreachable-requires t c = tree_there c.in_default.ensures c.requires

pub unreachable-requires-in_default-step : goal.unreachable-requires-in_default-step
unreachable-requires-in_default-step t c =
    let no = c.in_default-step in
    tree_step c.in-Some.ensures c.requires no.not-Name no.not-Input no.not-Constant no.not-Count no.not-Each no.not-Both no.not-Choose

pub cost_of-requires : goal.cost_of-requires
cost_of-requires t c =
    let at = c.in-Some.ensures in
    (omega (arith, at.there, c.decreases), tree_each at c.in-Each.is c.requires)

pub cost_of-left-requires : goal.cost_of-left-requires
cost_of-left-requires t c =
    let at = c.in-Some.ensures in
    (omega (arith, at.there, c.decreases), tree_left at c.in-Both.is c.requires)

pub cost_of-right-requires : goal.cost_of-right-requires
cost_of-right-requires t c =
    let at = c.in-Some.ensures in
    let s = c.cost_of-left.ensures.skips in
    (omega (arith, at.there, c.decreases, tree_further (tree_left at c.in-Both.is c.requires) s), tree_right at c.in-Both.is s c.requires)

pub cost_of-first-requires : goal.cost_of-first-requires
cost_of-first-requires t c =
    let at = c.in-Some.ensures in
    (omega (arith, at.there, c.decreases), tree_first at c.in-Choose.is c.requires)

pub cost_of-left-requires-in-Choose : goal.cost_of-left-requires-in-Choose
cost_of-left-requires-in-Choose t c =
    let at = c.in-Some.ensures in
    let s = c.cost_of-first.ensures.skips in
    (omega (arith, at.there, c.decreases, tree_further (tree_first at c.in-Choose.is c.requires) s), tree_second at c.in-Choose.is s c.requires)

pub cost_of-right-requires-in-Choose : goal.cost_of-right-requires-in-Choose
cost_of-right-requires-in-Choose t c =
    let at = c.in-Some.ensures in
    let s = c.cost_of-first.ensures.skips in
    let r = c.cost_of-left-in-Choose.ensures.skips in
    (omega (arith, at.there, c.decreases, tree_further (tree_first at c.in-Choose.is c.requires) s, tree_further (tree_second at c.in-Choose.is s c.requires) r), tree_third at c.in-Choose.is s r c.requires)

pub returns-in-Name : goal.returns-in-Name
returns-in-Name t c =
    let at = c.in-Some.ensures in
    ⊎_elim (λ h. costs_name at h.1 c.requires (skips_name at h.1))
    (⊎_elim (λ h. costs_input at h.1 c.requires (skips_input at h.1))
    (⊎_elim (λ h. costs_constant at h.1 c.requires (skips_constant at h.1)) (λ h. costs_count at h.1 c.requires (skips_count at h.1))))
    c.in-Name.is

pub returns-in-Each : goal.returns-in-Each
returns-in-Each t c = costs_each c.in-Some.ensures c.in-Each.is c.requires c.cost_of.ensures

pub returns-in-Both : goal.returns-in-Both
returns-in-Both t c = costs_both c.in-Some.ensures c.in-Both.is c.requires c.cost_of-left.ensures c.cost_of-right.ensures (omega arith)

pub returns-in-Choose : goal.returns-in-Choose
returns-in-Choose t c =
    costs_choose c.in-Some.ensures c.in-Choose.is c.requires c.cost_of-first.ensures c.cost_of-left-in-Choose.ensures c.cost_of-right-in-Choose.ensures (omega arith)
