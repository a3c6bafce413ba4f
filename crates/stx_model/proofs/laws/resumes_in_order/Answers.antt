use Rattle.stx_model.proofs.BracketLaws.{resumes_in_order}
use Rattle.stx_model.proofs.laws.resumes_in_order.Goals as goal

pub returns : goal.returns
returns c = resumes_in_order
