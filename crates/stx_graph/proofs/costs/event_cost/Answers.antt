use Rattle.std.proofs.Common.{◌∙◌, ◌==◌, Bool, map, filter, refl, sym, ap}
use Rattle.stx_scenario.specs.declared.scenario.Listener.{Listener}
use Rattle.stx_base.specs.Weight.{no_cost, total, listener_cost}
use Rattle.stx_graph.specs.inner.Costs.{capped, cost_at}
use Rattle.stx_graph.proofs.CostLaws.{summed_where, all_turns, capped_twice, nothing_plus}
use Rattle.stx_graph.proofs.costs.event_cost.Goals as goal

pub returns : goal.returns
returns c =
    let heard : Listener → Bool = λ listener. listener.event.0 == c.args.event in
    let of = cost_at c.args.methods.now in
    c.loop-listener.invariant ∙ all_turns _ _ _ _ c.loop-listener-test.false
    ∙ summed_where heard (λ l. capped (listener_cost of l)) (listener_cost of) (λ l. sym (capped_twice (listener_cost of l))) no_cost c.args.listeners.now refl
    ∙ ap capped (nothing_plus (total (map (listener_cost of) (filter heard c.args.listeners.now))))
