use Rattle.stx_model.proofs.Leaving.{calls_leave_the_context}
use Rattle.stx_model.proofs.laws.calls_leave_the_context.Goals as goal

pub returns : goal.returns
returns c = calls_leave_the_context
