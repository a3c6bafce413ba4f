use Rattle.std.proofs.Common.{◌≡◌, map, take}
use Rattle.stx_base.specs.Weight.{callbacks, callbacks_cost}
use Rattle.stx_graph.specs.inner.Costs.{capped, cost_at}
use Rattle.stx_graph.proofs.weighing.sync_costs.Given as goal

abbrev pub invariant-loop-sync : goal.invariant-loop-sync
invariant-loop-sync l = l.syncs.items ≡ map (λ sync. capped (callbacks_cost (cost_at l.costs) (callbacks sync))) (take l.sync-index l.scenario.syncs)
