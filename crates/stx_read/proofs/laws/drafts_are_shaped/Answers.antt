-- By the law on drafts.
use Rattle.stx_read.proofs.ShapeLaws.{shaped}
use Rattle.stx_read.proofs.laws.drafts_are_shaped.Goals as goal

pub returns : goal.returns
returns c = shaped
