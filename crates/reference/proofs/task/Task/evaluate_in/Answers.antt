use Rattle.std.proofs.Common.{◌≡◌, ◌-◌, arith}
use Rattle.std.proofs.lemmas.Result.{IfOk-weaker}
use Rattle.semantics.specs.Programs.{in_names}
use Rattle.encoding.specs.Format.{inputs_of}
use Rattle.reference.specs.CellsOf.{cells_of}
use Rattle.reference.proofs.Rights.{right_like}
use Rattle.reference.proofs.Stating.{value_in_like}
use Rattle.reference.proofs.task.Task.evaluate_in.Goals as goal

pub returns : goal.returns
returns c =
    let n = c.saturating_sub.result in
    let left : n ≡ c.args.self.now.places - in_names (cells_of c.args.names.now) = omega (arith, c.saturating_sub.ensures, c.held_places.ensures, c.args.self.now.few) in
    record {
      small = IfOk-weaker c.evaluate.result _ _ (λ v h. omega (arith, h.0, h.1, left, c.args.self.now.few)) c.evaluate.ensures.within;
      skips = c.evaluate.ensures.skips;
      right = λ e s t h l. right_like (value_in_like c.args.self.now.places n (inputs_of c.args.self.now.inputs.now) t (cells_of c.args.names.now) e l left) (c.evaluate.ensures.right c.args.self.now.places e s h);
    }
