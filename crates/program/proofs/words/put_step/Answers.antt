use Rattle.std.proofs.Common.{refl, ◌∙◌, arith}
use Rattle.program.proofs.Storing.{stored_by}
use Rattle.program.proofs.words.put_step.Goals as goal

pub returns : goal.returns
returns c =
    stored_by c.args.words.now _ c.copy_from_slice.new.self c.args.node _ c.args.step c.args.place (c.copy_from_slice.ensures.after ∙ c.write_step.ensures) (omega arith) (omega arith) refl
