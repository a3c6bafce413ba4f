use Rattle.stx_model.proofs.PlayedLaw.{faithful_if_done}
use Rattle.stx_model.proofs.laws.done_is_faithful.Goals as goal

pub returns : goal.returns
returns c = faithful_if_done
