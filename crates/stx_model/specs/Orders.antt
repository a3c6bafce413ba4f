-- The order of what has order values: lower values come first. (Spring: Ordered, OrderComparator.)
use Rattle.std.specs.Prelude.{ℤ, true, false, int_lt, List, [], ◌∷◌}
use Rattle.std.specs.List.{fold}

-- an item before those of greater order value, and after those of its own
abbrev pub inserted : {X : Type 0} → (X → ℤ) → List X → X → List X
inserted order [] x = x ∷ []
inserted order (y ∷ ys) x = elim (int_lt (order x) (order y)) [ true ↦ x ∷ y ∷ ys | false ↦ y ∷ inserted order ys x ]

-- by ascending order value, ties in the order of the list
abbrev pub by_order : {X : Type 0} → (X → ℤ) → List X → List X
by_order order list = fold (inserted order) [] list
