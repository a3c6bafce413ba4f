use Rattle.stx_graph.proofs.RowLaws.{method_pushed}
use Rattle.stx_graph.proofs.rows.method_rows.Goals as goal

pub loop-method-preserved : goal.loop-method-preserved
loop-method-preserved c =
    method_pushed c.args.scenario.now c.loop-method.method-index c.len-bound.result c.as_slice-method-items.result.now c.method-item.result
    c.as_slice.result.now c.in_ok-events.events c.in_ok-syncs.syncs c.loop-method.rows _ _ c.loop-method.invariant
    c.in_ok-events.ensures c.in_ok-syncs.ensures c.requires c.as_slice-method-items.ensures c.loop-method-test.true c.method-item.is
    c.as_slice.ensures c.len-bound.ensures c.in_ok-method_row.ensures.row c.in_ok-method_row.ensures.range c.in_ok-push.ensures.ok
