use Rattle.stx_model.proofs.PlayedFaithful.{played_is_faithful}
use Rattle.stx_model.proofs.laws.played_is_faithful.Goals as goal

pub returns : goal.returns
returns c = played_is_faithful
