use Rattle.std.proofs.Common.{◌∙◌, map, replicate, ap}
use Rattle.stx_base.specs.Weight.{body_cost, no_cost}
use Rattle.stx_graph.specs.inner.Costs.{capped, cost_at}
use Rattle.stx_graph.proofs.WeighLaws.{first_costs, costs_more}
use Rattle.stx_graph.proofs.weighing.method_costs.Goals as goal

pub loop-round-init : goal.loop-round-init
loop-round-init c =
    first_costs c.args.scenario.now c.in_ok-costs.costs.items
    (c.in_ok-costs.ensures.items_if_clones_equal (λ y e. e) ∙ ap (λ n. replicate n no_cost) c.len.ensures)

pub loop-round-preserved : goal.loop-round-preserved
loop-round-preserved c =
    costs_more c.args.scenario.now c.loop-round._round c.loop-round.costs.items c.in_ok-costs-2.costs.items c.requires c.loop-round.invariant
    (c.in_ok-costs-2.ensures
    ∙ ap (λ costs. map (λ method. capped (body_cost c.args.scenario.now (cost_at costs) method.body)) c.args.scenario.now.methods) c.deref.ensures.value)
