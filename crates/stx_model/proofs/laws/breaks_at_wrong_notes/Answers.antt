use Rattle.stx_model.proofs.BreaksLaw.{breaks_at_wrong_notes}
use Rattle.stx_model.proofs.laws.breaks_at_wrong_notes.Goals as goal

pub returns : goal.returns
returns c = breaks_at_wrong_notes
