use Rattle.reader.proofs.Turnings.{ended_by}
use Rattle.reader.proofs.endings.end_number.Goals as goal

pub returns : goal.returns
returns c ns w = ended_by ns c.number_step.ensures c.number_rest.ensures
