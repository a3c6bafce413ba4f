use Rattle.stx_model.proofs.TooLate.{committed_stays_said}
use Rattle.stx_model.proofs.laws.committed_stays_said.Goals as goal

pub returns : goal.returns
returns c = committed_stays_said
