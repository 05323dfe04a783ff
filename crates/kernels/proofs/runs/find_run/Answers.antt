use Rattle.std.proofs.Common.{◌≡◌, get_or, ◌∙◌, arith, Some, None}
use Rattle.kernels.proofs.Feeding.{name_below, get_d_any, slot_cell}
use Rattle.kernels.proofs.Growing.{ready_name}
use Rattle.kernels.proofs.InPlace.{name_run}
use Rattle.kernels.proofs.runs.find_run.Goals as goal

pub listed : goal.listed
listed c = name_below (ready_name c.in-Some-Name.ensures c.in-Some-Name.field-0-is c.requires.ready)

pub bounds-env-k : goal.bounds-env-k
bounds-env-k c = omega (arith, name_below (ready_name c.in-Some-Name.ensures c.in-Some-Name.field-0-is c.requires.ready))

pub view_run-requires : goal.view_run-requires
view_run-requires c =
    let q = ready_name c.in-Some-Name.ensures c.in-Some-Name.field-0-is c.requires.ready in
    let k = c.in-Some-Name.k in
    let is : get_or c.args.env.now.names.now k None ≡ Some c.in-Some.view = get_d_any c.args.env.now.names.now k None c.index-env-k.result (name_below q) ∙ c.in-Some.is in
    let a = slot_cell is (q.tabled.each k) in
    record { good = a.holds.good; there = a.holds.there; within = c.requires.within }

pub returns : goal.returns
returns c =
    let q = ready_name c.in-Some-Name.ensures c.in-Some-Name.field-0-is c.requires.ready in
    let k = c.in-Some-Name.k in
    let is : get_or c.args.env.now.names.now k None ≡ Some c.in-Some.view = get_d_any c.args.env.now.names.now k None c.index-env-k.result (name_below q) ∙ c.in-Some.is in
    name_run c.in-Some-Name.ensures c.in-Some-Name.field-0-is is c.view_run.ensures
