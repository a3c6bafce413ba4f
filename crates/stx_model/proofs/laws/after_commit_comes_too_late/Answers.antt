use Rattle.stx_model.proofs.TooLate.{after_commit_comes_too_late}
use Rattle.stx_model.proofs.laws.after_commit_comes_too_late.Goals as goal

pub returns : goal.returns
returns c = after_commit_comes_too_late
