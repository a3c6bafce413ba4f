use Rattle.std.proofs.Common.{◌∙◌, refl}
use Rattle.stx_base.specs.Weight.{one}
use Rattle.stx_graph.specs.inner.Costs.{statement_at}
use Rattle.stx_graph.proofs.CostLaws.{summed_capped, all_turns}
use Rattle.stx_graph.proofs.costs.method_cost.Goals as goal

pub returns : goal.returns
returns c =
    c.loop-statement.invariant ∙ all_turns _ _ _ _ c.loop-statement-test.false
    ∙ summed_capped (statement_at c.args.methods.now c.args.events.now c.args.syncs.now) one c.args.body.now refl
