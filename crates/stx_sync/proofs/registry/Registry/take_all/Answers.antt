-- The registrations, sorted by the order values.
use Rattle.std.proofs.Common.{◌≡◌, rules}
use Rattle.std.proofs.lemmas.Fn.{always_returns_same}
use Rattle.stx_sync.proofs.Sorting.{ordered-from_sort}
use Rattle.stx_sync.proofs.registry.Registry.take_all.Goals as goal

pub returns-in-Ok-clause-ok : goal.returns-in-Ok-clause-ok
returns-in-Ok-clause-ok c =
    let by_order_value = always_returns_same _ (λ a r. r ≡ a.0.now.order) _ (λ a r f k. search rules) in
    let sorted = c.in-Ok.ensures in
    rw (← c.self.view_is, c.from_vec.ensures)
    (ordered-from_sort _ _ (sorted.sorted (λ r. r.order) by_order_value) (sorted.stable (λ r. r.order) by_order_value))
