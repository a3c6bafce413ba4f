use Rattle.stx_model.proofs.SaysLaw.{says_within}
use Rattle.stx_model.proofs.laws.says_within.Goals as goal

pub returns : goal.returns
returns c = says_within
