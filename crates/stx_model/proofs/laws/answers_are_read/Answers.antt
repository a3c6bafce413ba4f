use Rattle.stx_model.proofs.NotesLaw.{answers_are_read}
use Rattle.stx_model.proofs.laws.answers_are_read.Goals as goal

pub returns : goal.returns
returns c = answers_are_read
