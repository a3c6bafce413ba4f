use Rattle.stx_model.proofs.Apart.{joined_scopes_only_mark}
use Rattle.stx_model.proofs.laws.joined_scopes_only_mark.Goals as goal

pub returns : goal.returns
returns c = joined_scopes_only_mark
