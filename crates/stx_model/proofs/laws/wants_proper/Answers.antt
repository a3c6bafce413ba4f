use Rattle.stx_model.proofs.ProperLaws.{wants_proper}
use Rattle.stx_model.proofs.laws.wants_proper.Goals as goal

pub returns : goal.returns
returns c = wants_proper
