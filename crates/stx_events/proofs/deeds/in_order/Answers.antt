-- The sort is stable, so it gives the order of the definition.
use Rattle.std.proofs.Common.{rules, sym, ap, map, ◌∙◌}
use Rattle.std.proofs.lemmas.List.Sorted.{answers_always}
use Rattle.stx_model.specs.Orders.{by_order}
use Rattle.stx_events.specs.inner.Heard.{listener_of}
use Rattle.stx_model.proofs.Sorting.{by_order-from_sort, by_order-map}
use Rattle.stx_events.proofs.deeds.in_order.Goals as goal

pub returns : goal.returns
returns c =
    let sorted = by_order-from_sort (λ l. l.1.now.order) _ _
    (c.in_ok-sort_by_key.ensures.sorted (λ l. l.1.now.order) (answers_always _ _ _ (λ f a r next called. search rules)))
    (c.sort_by_key.ensures.stable (λ l. l.1.now.order) (answers_always _ _ _ (λ f a r next called. search rules))) in
    ap (map listener_of) sorted ∙ sym (by_order-map (λ l. l.1.order) listener_of c.in_ok-heard.heard.items) ∙ ap (by_order (λ l. l.1.order)) (rw c.as_slice.ensures at c.in_ok-heard.ensures)
