use Rattle.stx_model.proofs.ProperLaws.{gives_all_back}
use Rattle.stx_model.proofs.laws.gives_all_back.Goals as goal

pub returns : goal.returns
returns c = gives_all_back
