use Rattle.stx_classes.proofs.TreeLaws.{depth_fewest_steps}
use Rattle.stx_classes.proofs.laws.depth_is_fewest.Goals as goal

pub returns : goal.returns
returns c = depth_fewest_steps
