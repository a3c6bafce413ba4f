use Rattle.stx_base.specs.Weight.{HasNoCycle}
use Rattle.stx_graph.specs.inner.Rows.{next_in}
use Rattle.stx_graph.proofs.cycles.first_on_cycle.Given as goal

abbrev pub invariant-loop-number : goal.invariant-loop-number
invariant-loop-number l = HasNoCycle (next_in l.rows) l.number
