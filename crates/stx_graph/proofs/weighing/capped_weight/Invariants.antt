use Rattle.std.proofs.Common.{◌≡◌, map, take, min}
use Rattle.std.specs.List.{sum}
use Rattle.stx_base.specs.Weight.{client_weight, cost_within}
use Rattle.stx_graph.specs.inner.Costs.{cap}
use Rattle.stx_graph.proofs.weighing.capped_weight.Given as goal

abbrev pub invariant-loop-calls : goal.invariant-loop-calls
invariant-loop-calls l = l.weight ≡ min (sum (map (client_weight (cost_within l.scenario l.levels)) (take l.calls-index l.scenario.clients))) cap
