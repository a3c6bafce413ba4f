use Rattle.stx_model.proofs.EntriesLaw.{entries_within}
use Rattle.stx_model.proofs.laws.entries_within.Goals as goal

pub returns : goal.returns
returns c = entries_within
