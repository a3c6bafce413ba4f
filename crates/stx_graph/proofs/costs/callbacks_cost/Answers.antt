use Rattle.std.proofs.Common.{◌∙◌}
use Rattle.stx_base.specs.Weight.{callback_cost}
use Rattle.stx_graph.specs.inner.Costs.{cost_at}
use Rattle.stx_graph.proofs.CostLaws.{summed_capped, all_turns}
use Rattle.stx_graph.proofs.costs.callbacks_cost.Goals as goal

pub returns : goal.returns
returns c =
    c.loop-statement.invariant ∙ all_turns _ _ _ _ c.loop-statement-test.false
    ∙ summed_capped (callback_cost (cost_at c.args.methods.now)) c.args.before c.args.body.now c.requires.before
