use Rattle.stx_classes.proofs.TreeLaws.{below_has_way}
use Rattle.stx_classes.proofs.laws.below_is_a_way.Goals as goal

pub returns : goal.returns
returns c = below_has_way
