use Rattle.reference.proofs.Evaluating.{evaluated, exited, zero_leaf, zero_skips, zero_right}
use Rattle.reference.proofs.task.Task.evaluate_none.Goals as goal

pub apply_none-requires : goal.apply_none-requires
apply_none-requires c =
    record { leaf = zero_leaf c.args.self.now.words.now c.args.self.now.inputs.now c.args.names.now c.args.node c.args.self.now.places c.requires.stands c.args.step c.requires.at c.requires.leaf }

pub returns-in_err-made : goal.returns-in_err-made
returns-in_err-made c =
    exited c.args.self.now.words.now c.args.self.now.inputs.now c.args.names.now c.args.node c.args.self.now.places c.from_residual.result c.in_err-made.field-0.0 c.from_residual.ensures.1
    (zero_right c.args.self.now.words.now c.args.self.now.inputs.now c.args.names.now c.args.node c.args.self.now.places c.requires.stands c.args.step c.requires.at c.requires.leaf _ c.in_err-made.ensures)

pub returns : goal.returns
returns c =
    evaluated c.args.self.now.words.now c.args.self.now.inputs.now c.args.names.now c.args.node c.args.self.now.places _ c.requires.stands
    (zero_skips c.args.self.now.words.now c.args.self.now.inputs.now c.args.names.now c.args.node c.args.self.now.places c.requires.stands c.args.step c.requires.at c.requires.leaf)
    (zero_right c.args.self.now.words.now c.args.self.now.inputs.now c.args.names.now c.args.node c.args.self.now.places c.requires.stands c.args.step c.requires.at c.requires.leaf _ c.in_ok-made.ensures)
