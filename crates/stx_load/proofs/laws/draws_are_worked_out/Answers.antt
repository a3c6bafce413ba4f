use Rattle.stx_load.proofs.WorkedDraws.{draws_are_worked_out}
use Rattle.stx_load.proofs.laws.draws_are_worked_out.Goals as goal

pub returns : goal.returns
returns c = draws_are_worked_out
