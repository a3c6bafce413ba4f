use Rattle.stx_model.proofs.BracketLaws.{balanced}
use Rattle.stx_model.proofs.laws.balanced.Goals as goal

pub returns : goal.returns
returns c = balanced
