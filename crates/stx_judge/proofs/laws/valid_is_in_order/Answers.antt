use Rattle.stx_judge.proofs.JudgeLaws.{valid_is_in_order}
use Rattle.stx_judge.proofs.laws.valid_is_in_order.Goals as goal

pub returns : goal.returns
returns c = valid_is_in_order
