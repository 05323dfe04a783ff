use Rattle.std.proofs.Common.{get_or, subst}
use Rattle.std.proofs.lemmas.Result.{IfOk-weaker}
use Rattle.semantics.specs.ValueLaws.{LikeCells}
use Rattle.semantics.specs.Values.{none}
use Rattle.reference.proofs.Rights.{refused_as}
use Rattle.reference.proofs.Stating.{nothing_exit, small_found}
use Rattle.reference.proofs.task.Task.replace_name.Goals as goal

pub returns-in_err-old : goal.returns-in_err-old
returns-in_err-old c =
    let none = rw c.in_err-old.ensures.ok_part at c.find_array.ensures in
    nothing_exit c.args.self.now.words.now c.args.self.now.inputs.now c.args.names.now c.args.node c.args.self.now.places _ c.args.name c.from_residual.result _ c.from_residual.ensures.1
    (refused_as c.find_array.result _ _ c.in_err-old.ensures.ok_part c.in_err-old.ensures.value) none

pub replace_in-requires : goal.replace_in-requires
replace_in-requires c =
    let found = rw c.in_ok-old.ensures.ok_part at c.find_array.ensures in
    record { stands = c.requires.stands; fits = small_found c.args.names.now c.args.name c.in_ok-old.old.now c.requires.fits found.1 }

pub returns : goal.returns
returns c =
    let found = rw c.in_ok-old.ensures.ok_part at c.find_array.ensures in
    let r = c.replace_in.ensures c.args.name in
    record {
      there = IfOk-weaker c.replace_in.result _ _ (λ v h. found.0) r.skips;
      small = r.small;
      skips = r.skips;
      right = λ e s t h l. r.right e s t _ h l (subst (λ x. LikeCells (get_or t.names c.args.name none) x) found.1 (l c.args.name));
    }
