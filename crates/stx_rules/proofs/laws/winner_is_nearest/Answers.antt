use Rattle.stx_rules.proofs.NearestLaws.{winner_is_nearest}
use Rattle.stx_rules.proofs.laws.winner_is_nearest.Goals as goal

pub returns : goal.returns
returns c = winner_is_nearest
