use Rattle.std.proofs.Common.{◌∙◌, map, refl, ap}
use Rattle.stx_base.specs.Weight.{no_cost, total}
use Rattle.stx_graph.specs.inner.Costs.{capped, cost_at}
use Rattle.stx_graph.proofs.CostLaws.{summed, all_turns, nothing_plus}
use Rattle.stx_graph.proofs.costs.calls_cost.Goals as goal

pub returns : goal.returns
returns c =
    c.loop-method.invariant ∙ all_turns _ _ _ _ c.loop-method-test.false
    ∙ summed (cost_at c.args.methods.now) (cost_at c.args.methods.now) (λ m. refl) no_cost c.args.calls.now refl
    ∙ ap capped (nothing_plus (total (map (cost_at c.args.methods.now) c.args.calls.now)))
