use Rattle.std.proofs.Common.{◌<◌, List, length, map, get_or, ◌∙◌, ap, arith}
use Rattle.stx_scenario.specs.declared.numbers.MethodNo.{MethodNo}
use Rattle.stx_base.specs.declared.cost.Cost.{Cost}
use Rattle.stx_base.specs.Weight.{total, MethodsInRange}
use Rattle.stx_graph.specs.inner.Costs.{capped, cost_at}
use Rattle.stx_graph.proofs.RowLaws.{item_keeps}
use Rattle.stx_graph.proofs.WeighLaws.{client_turn}
use Rattle.stx_graph.proofs.weighing.capped_weight.Goals as goal

pub loop-calls-preserved : goal.loop-calls-preserved
loop-calls-preserved c =
    let S = c.args.scenario.now in
    let n = c.loop-calls.calls-index in
    let calls = c.calls-item.result in
    let count = ap length c.as_slice-calls-items.ensures in
    let below : n < length S.clients = let h = c.loop-calls-test.true in omega (arith, count, h) in
    let here = c.calls-item.is ∙ ap (λ (xs : List (List MethodNo)). get_or xs n calls) c.as_slice-calls-items.ensures in
    let range =
    item_keeps (MethodsInRange (length S.methods)) c.as_slice-calls-items.result.now S.clients n calls c.as_slice-calls-items.ensures
    c.loop-calls-test.true c.calls-item.is c.requires.clients in
    let cost =
    c.calls_cost-cost.ensures
    ∙ ap (λ (costs : List Cost). capped (total (map (cost_at costs) c.as_slice.result.now))) c.deref.ensures.value
    ∙ ap (λ (calls : List MethodNo). capped (total (map (cost_at c.in_ok-methods.methods.items) calls))) c.as_slice.ensures in
    client_turn S c.args.levels c.in_ok-methods.methods.items S.clients n calls c.calls_cost-cost.result c.loop-calls.weight c.client_weight.result
    c.min-weight.result c.in_ok-methods.ensures range c.loop-calls.invariant below here cost c.client_weight.ensures c.min-weight.ensures
