use Rattle.stx_model.proofs.NotesLaw.{reads_in_order}
use Rattle.stx_model.proofs.laws.reads_in_order.Goals as goal

pub returns : goal.returns
returns c = reads_in_order
