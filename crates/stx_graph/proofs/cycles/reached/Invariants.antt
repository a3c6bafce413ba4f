use Rattle.std.proofs.Common.{◌≡◌, ◌-◌, length}
use Rattle.stx_graph.proofs.SearchLaws.{Searches}
use Rattle.stx_graph.proofs.cycles.reached.Given as goal

abbrev pub invariant-loop-at : goal.invariant-loop-at
invariant-loop-at l = record {
  bound : length l.set.has.items ≡ length l.rows;
  searches : Searches l.rows l.fn.start l.set.order.items l.at;
}

abbrev pub decreases-loop-at : goal.decreases-loop-at
decreases-loop-at l = length l.rows - l.at
