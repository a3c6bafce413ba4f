-- The law that a public function carries: which rule wins, said without a search.
use Rattle.std.specs.Prelude.{◌≡◌, ◌↔◌, ℕ, ◌<◌, ◌≤◌, List, Option, Some, None, slice_get}
use Rattle.std.specs.Option.{option_and_then}
use Rattle.stx_scenario.specs.declared.scenario.ClassDecl.{ClassDecl}
use Rattle.stx_scenario.specs.declared.scenario.Rule.{Rule}
use Rattle.stx_base.specs.Rules.{rule_depth, winner}

-- how deep the rule at a place is; none where it matches neither the thrown class nor one above it
abbrev pub depth_at : List ClassDecl → List Rule → ℕ → ℕ → Option ℕ
depth_at classes rules thrown place = option_and_then (rule_depth classes thrown) (slice_get rules place)

-- the rule at this place matches: each earlier one that matches is deeper, and no later one is less deep
pub record IsNearest (classes : List ClassDecl) (rules : List Rule) (thrown place : ℕ) : Type 0 where
  pub depth : ℕ
  pub here : depth_at classes rules thrown place ≡ Some depth
  pub earlier : (k d : ℕ) → k < place → depth_at classes rules thrown k ≡ Some d → depth < d
  pub later : (k d : ℕ) → place < k → depth_at classes rules thrown k ≡ Some d → depth ≤ d

-- a rule wins exactly where it is the nearest, and none wins exactly where none matches
abbrev pub WinnerIsNearest : Type 0
WinnerIsNearest =
    (classes : List ClassDecl) (rules : List Rule) (thrown : ℕ)
    → ((place : ℕ) → (winner classes rules thrown ≡ Some place) ↔ IsNearest classes rules thrown place)
    × ((winner classes rules thrown ≡ None) ↔ ((place : ℕ) → depth_at classes rules thrown place ≡ None))
