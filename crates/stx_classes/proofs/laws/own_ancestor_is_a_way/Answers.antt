use Rattle.stx_classes.proofs.TreeLaws.{own_ancestor_has_way}
use Rattle.stx_classes.proofs.laws.own_ancestor_is_a_way.Goals as goal

pub returns : goal.returns
returns c = own_ancestor_has_way
