use Rattle.std.proofs.Common.{◌≡◌, fold, take}
use Rattle.stx_base.specs.Weight.{no_cost}
use Rattle.stx_graph.specs.inner.Costs.{added, cost_at}
use Rattle.stx_graph.proofs.costs.calls_cost.Given as goal

abbrev pub invariant-loop-method : goal.invariant-loop-method
invariant-loop-method l = l.sum ≡ fold (λ sum m. added sum (cost_at l.methods m)) no_cost (take l.method-index l.calls)
