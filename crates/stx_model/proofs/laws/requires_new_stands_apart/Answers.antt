use Rattle.stx_model.proofs.Apart.{requires_new_stands_apart}
use Rattle.stx_model.proofs.laws.requires_new_stands_apart.Goals as goal

pub returns : goal.returns
returns c = requires_new_stands_apart
