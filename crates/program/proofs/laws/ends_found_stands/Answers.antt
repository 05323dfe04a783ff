use Rattle.program.proofs.Behinds.{behind_one}
use Rattle.program.proofs.Closings.{closing_body}
use Rattle.program.proofs.laws.ends_found_stands.Goals as goal

pub returns : goal.returns
returns c = (behind_one, closing_body)
