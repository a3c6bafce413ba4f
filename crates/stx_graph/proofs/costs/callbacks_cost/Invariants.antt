use Rattle.std.proofs.Common.{◌≡◌, fold, take}
use Rattle.stx_base.specs.Weight.{callback_cost}
use Rattle.stx_graph.specs.inner.Costs.{added, capped, cost_at}
use Rattle.stx_graph.proofs.costs.callbacks_cost.Given as goal

abbrev pub invariant-loop-statement : goal.invariant-loop-statement
invariant-loop-statement l =
    l.sum ≡ fold (λ sum s. added sum (capped (callback_cost (cost_at l.methods) s))) l.fn.before (take l.statement-index l.body)
