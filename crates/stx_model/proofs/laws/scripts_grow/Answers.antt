use Rattle.stx_model.proofs.NotesLaw.{scripts_grow}
use Rattle.stx_model.proofs.laws.scripts_grow.Goals as goal

pub returns : goal.returns
returns c = scripts_grow
