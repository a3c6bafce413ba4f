use Rattle.std.proofs.Common.{◌≡◌, fold, take}
use Rattle.stx_base.specs.Weight.{one}
use Rattle.stx_graph.specs.inner.Costs.{added, capped, statement_at}
use Rattle.stx_graph.proofs.costs.method_cost.Given as goal

abbrev pub invariant-loop-statement : goal.invariant-loop-statement
invariant-loop-statement l =
    l.sum ≡ fold (λ sum s. added sum (capped (statement_at l.methods l.events l.syncs s))) one (take l.statement-index l.body)
