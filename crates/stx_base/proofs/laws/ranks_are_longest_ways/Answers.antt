use Rattle.stx_base.proofs.WeightLaws.{ranks_are_longest_ways}
use Rattle.stx_base.proofs.laws.ranks_are_longest_ways.Goals as goal

pub returns : goal.returns
returns c = ranks_are_longest_ways
