use Rattle.std.proofs.Common.{◌≡◌, map, take}
use Rattle.stx_base.specs.Weight.{body_cost}
use Rattle.stx_graph.specs.inner.Costs.{capped, cost_at}
use Rattle.stx_graph.proofs.weighing.next_round.Given as goal

abbrev pub invariant-loop-method : goal.invariant-loop-method
invariant-loop-method l = l.next.items ≡ map (λ method. capped (body_cost l.scenario (cost_at l.costs) method.body)) (take l.method-index l.scenario.methods)
