-- What is reached from a method.
use Rattle.std.specs.Prelude.{◌≡◌, ℕ, suc, true, List}
use Rattle.stx_scenario.specs.declared.numbers.MethodNo.{MethodNo}
use Rattle.stx_base.specs.Weight.{Next, Way, IsOnCycle, has_method}
use Rattle.stx_base.specs.Weight.{HasNoCycle}
use Rattle.stx_graph.specs.declared.graph.GraphFault.{GraphFault}
use Rattle.stx_graph.specs.Ranks.{IsFirst}

-- the list holds exactly the methods to which a way of one or more steps leads
pub record AreReached (next : Next) (start : MethodNo) (order : List MethodNo) : Type 0 where
  pub sound : (m : MethodNo) → has_method order m ≡ true → (steps : ℕ) × Way next (suc steps) start m
  pub whole : (m : MethodNo) (steps : ℕ) → Way next (suc steps) start m → has_method order m ≡ true

-- the fault where this is the first method from which a way is too long: a cycle's first method comes before it
abbrev pub IsDepthFault : Next → ℕ → MethodNo → GraphFault → Type 0
IsDepthFault next count method (GraphFault.CallCycle m) = IsFirst (IsOnCycle next) m
IsDepthFault next count method (GraphFault.TooDeep m) = HasNoCycle next count × (m ≡ method)
IsDepthFault next count method GraphFault.TooLarge = ⊥
IsDepthFault next count method (GraphFault.NoMemory _) = Unit {0}
