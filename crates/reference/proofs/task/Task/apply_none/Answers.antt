use Rattle.std.proofs.Common.{subst}
use Rattle.encoding.specs.Format.{inputs_of}
use Rattle.reference.specs.CellsOf.{cells_of}
use Rattle.reference.specs.Operands.{Leaf}
use Rattle.reference.proofs.Operating.{at_name, at_input, at_constant, at_count}
use Rattle.reference.proofs.task.Task.apply_none.Goals as goal

pub returns-in-Name : goal.returns-in-Name
returns-in-Name c p e l =
    at_name p (inputs_of c.args.self.now.inputs.now) (cells_of c.args.names.now) c.args.self.now.places (subst (λ s. Leaf s e) c.in-Name.is l) c.take_name.ensures

pub returns-in-Input : goal.returns-in-Input
returns-in-Input c p e l =
    at_input p (inputs_of c.args.self.now.inputs.now) (cells_of c.args.names.now) c.args.self.now.places (subst (λ s. Leaf s e) c.in-Input.is l) c.take_input.ensures

pub returns-in-Constant : goal.returns-in-Constant
returns-in-Constant c p e l =
    at_constant p (inputs_of c.args.self.now.inputs.now) (cells_of c.args.names.now) c.args.self.now.places (subst (λ s. Leaf s e) c.in-Constant.is l) c.take_constant.ensures

pub returns-in-Count : goal.returns-in-Count
returns-in-Count c p e l =
    at_count p (inputs_of c.args.self.now.inputs.now) (cells_of c.args.names.now) c.args.self.now.places (subst (λ s. Leaf s e) c.in-Count.is l) c.take_count.ensures
