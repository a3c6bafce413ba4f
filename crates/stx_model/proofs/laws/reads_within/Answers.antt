use Rattle.stx_model.proofs.ReadsLaw.{reads_within}
use Rattle.stx_model.proofs.laws.reads_within.Goals as goal

pub returns : goal.returns
returns c = reads_within
