use Rattle.stx_judge.proofs.CycleLaws.{cycles_are_ways}
use Rattle.stx_judge.proofs.laws.cycles_are_ways.Goals as goal

pub returns : goal.returns
returns c = cycles_are_ways
