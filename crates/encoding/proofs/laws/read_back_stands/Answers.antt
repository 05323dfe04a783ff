use Rattle.encoding.proofs.ReadingBack.{read_back}
use Rattle.encoding.proofs.laws.read_back_stands.Goals as goal

pub returns : goal.returns
returns c = read_back
