use Rattle.stx_graph.specs.inner.Costs.{cost_at}
use Rattle.stx_graph.proofs.WeighLaws.{event_turn}
use Rattle.stx_graph.proofs.weighing.event_costs.Goals as goal

pub loop-event-preserved : goal.loop-event-preserved
loop-event-preserved c =
    event_turn c.args.scenario.now (cost_at c.args.costs.now) c.loop-event.event c.as_slice.result.now c.loop-event.events.items _ _
    c.loop-event.invariant c.as_slice.ensures c.event_cost.ensures c.in_ok-push.ensures.items
