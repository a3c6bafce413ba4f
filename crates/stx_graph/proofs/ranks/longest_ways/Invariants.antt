use Rattle.stx_graph.specs.inner.Rounds.{AreLongest}
use Rattle.stx_graph.proofs.ranks.longest_ways.Given as goal

abbrev pub invariant-loop-round : goal.invariant-loop-round
invariant-loop-round l = AreLongest l.rows l._round l.ranks.items
