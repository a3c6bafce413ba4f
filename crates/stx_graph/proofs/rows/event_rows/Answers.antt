use Rattle.stx_graph.proofs.RowLaws.{event_pushed}
use Rattle.stx_graph.proofs.rows.event_rows.Goals as goal

pub loop-event-preserved : goal.loop-event-preserved
loop-event-preserved c =
    event_pushed c.args.scenario.now c.loop-event.event c.len-bound.result c.as_slice.result.now c.loop-event.rows _ _ c.loop-event.invariant
    c.as_slice.ensures c.len-bound.ensures c.in_ok-event_row.ensures.row c.in_ok-event_row.ensures.range c.in_ok-push.ensures.ok
