use Rattle.std.proofs.Common.{◌∙◌}
use Rattle.stx_graph.proofs.WeighLaws.{body_fits, method_turn}
use Rattle.stx_graph.proofs.weighing.next_round.Goals as goal

pub method_cost-requires : goal.method_cost-requires
method_cost-requires c =
    body_fits c.args.scenario.now c.args.costs.now c.deref.result.now c.deref-in-loop-method.result.now c.as_slice-method-items.result.now
    c.method-item.result c.as_slice.result.now c.loop-method.method-index c.requires.range c.requires.count
    (c.deref.ensures.value ∙ c.in_ok-events.ensures) (c.deref-in-loop-method.ensures.value ∙ c.in_ok-syncs.ensures)
    c.as_slice-method-items.ensures c.loop-method-test.true c.method-item.is c.as_slice.ensures

pub loop-method-preserved : goal.loop-method-preserved
loop-method-preserved c =
    method_turn c.args.scenario.now c.args.costs.now c.deref.result.now c.deref-in-loop-method.result.now c.as_slice-method-items.result.now
    c.method-item.result c.as_slice.result.now c.loop-method.method-index c.loop-method.next.items _ _ c.requires.range
    (c.deref.ensures.value ∙ c.in_ok-events.ensures) (c.deref-in-loop-method.ensures.value ∙ c.in_ok-syncs.ensures)
    c.as_slice-method-items.ensures c.loop-method-test.true c.method-item.is c.as_slice.ensures c.loop-method.invariant
    c.method_cost.ensures c.in_ok-push.ensures.items
