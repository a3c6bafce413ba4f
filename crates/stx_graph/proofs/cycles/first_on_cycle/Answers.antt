use Rattle.std.proofs.Common.{sym, ◌∙◌}
use Rattle.stx_graph.specs.inner.Rows.{next_in}
use Rattle.stx_graph.proofs.GraphLaws.{none_more}
use Rattle.stx_graph.proofs.cycles.first_on_cycle.Goals as goal

pub loop-number-preserved : goal.loop-number-preserved
loop-number-preserved c =
    none_more (next_in c.args.rows.now) c.loop-number.number _ c.loop-number.invariant c.in_ok-reached.ensures.reached
    (sym c.contains.ensures ∙ c.if-contains.false)
