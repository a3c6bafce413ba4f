use Rattle.stx_classes.proofs.TreeLaws.{tree_reaches}
use Rattle.stx_classes.proofs.laws.tree_reaches_throwable.Goals as goal

pub returns : goal.returns
returns c = tree_reaches
