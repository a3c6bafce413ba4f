use Rattle.stx_model.proofs.BracketLaws.{completed_once}
use Rattle.stx_model.proofs.laws.completed_once.Goals as goal

pub returns : goal.returns
returns c = completed_once
