use Rattle.stx_graph.specs.inner.Costs.{AreCosts}
use Rattle.stx_graph.proofs.weighing.method_costs.Given as goal

abbrev pub invariant-loop-round : goal.invariant-loop-round
invariant-loop-round l = AreCosts l.scenario l._round l.costs.items
