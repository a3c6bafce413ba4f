use Rattle.std.proofs.Common.{◌≡◌, map}
use Rattle.std.specs.List.{range_with_len}
use Rattle.stx_graph.specs.inner.Costs.{capped, cost_at, event_cost}
use Rattle.stx_graph.proofs.weighing.event_costs.Given as goal

abbrev pub invariant-loop-event : goal.invariant-loop-event
invariant-loop-event l = l.events.items ≡ map (λ e. capped (event_cost l.scenario (cost_at l.costs) (record { 0 = e }))) (range_with_len 0 l.event)
