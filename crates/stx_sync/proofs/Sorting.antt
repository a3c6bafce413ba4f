-- A stable sort of registrations by their order values puts them in the order in which a context tells them.
use Rattle.std.proofs.Common.{◌≡◌, List, map, sym, ap, ◌∙◌}
use Rattle.std.specs.Ordering.{int_cmp}
use Rattle.std.specs.List.Sorted.{IsSortedByKey, IsStableByKey}
use Rattle.stx_model.specs.Contexts.{ordered}
use Rattle.stx_model.proofs.Sorting.{by_order-from_sort, by_order-map}
use Rattle.stx_sync.specs.declared.registered.Registered.{Registered}
use Rattle.stx_sync.specs.Registries.{registration}

pub ordered-from_sort : (xs ys : List Registered) → IsSortedByKey (λ r. r.order) int_cmp ys → IsStableByKey (λ r. r.order) int_cmp xs ys
    → map registration ys ≡ ordered (map registration xs)
ordered-from_sort xs ys sorted stable =
    ap (map registration) (by_order-from_sort (λ r. r.order) xs ys sorted stable) ∙ sym (by_order-map (λ r. r.order) registration xs)
