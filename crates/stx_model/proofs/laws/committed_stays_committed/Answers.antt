use Rattle.stx_model.proofs.BracketLaws.{committed_stays_committed}
use Rattle.stx_model.proofs.laws.committed_stays_committed.Goals as goal

pub returns : goal.returns
returns c = committed_stays_committed
