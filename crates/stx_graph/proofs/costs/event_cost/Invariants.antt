use Rattle.std.proofs.Common.{◌≡◌, ◌==◌, cond, fold, take}
use Rattle.stx_base.specs.Weight.{no_cost, listener_cost}
use Rattle.stx_graph.specs.inner.Costs.{added, capped, cost_at}
use Rattle.stx_graph.proofs.costs.event_cost.Given as goal

abbrev pub invariant-loop-listener : goal.invariant-loop-listener
invariant-loop-listener l =
    l.sum ≡ fold (λ sum listener. cond (listener.event.0 == l.event) (added sum (capped (listener_cost (cost_at l.methods) listener))) sum) no_cost (take l.listener-index l.listeners)
