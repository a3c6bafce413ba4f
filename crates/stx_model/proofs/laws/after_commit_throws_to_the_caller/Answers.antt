use Rattle.stx_model.proofs.TooLate.{after_commit_throws_to_the_caller}
use Rattle.stx_model.proofs.laws.after_commit_throws_to_the_caller.Goals as goal

pub returns : goal.returns
returns c = after_commit_throws_to_the_caller
