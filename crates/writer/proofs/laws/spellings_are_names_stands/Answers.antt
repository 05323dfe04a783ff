use Rattle.writer.proofs.Names.{first_are_names}
use Rattle.writer.proofs.laws.spellings_are_names_stands.Goals as goal

pub returns : goal.returns
returns c = first_are_names
