use Rattle.std.proofs.Common.{◌≡◌, map, take}
use Rattle.stx_graph.specs.inner.Rounds.{raised}
use Rattle.stx_graph.proofs.ranks.next_round.Given as goal

abbrev pub invariant-loop-row : goal.invariant-loop-row
invariant-loop-row l = l.next.items ≡ map (raised l.ranks) (take l.row-index l.rows)
