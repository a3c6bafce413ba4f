-- What a graph tells of its scenario, and when a scenario is refused.
use Rattle.std.specs.Prelude.{◌≡◌, ℕ, ◌<◌, ◌≤◌, List, length, map}
use Rattle.std.specs.List.{range_with_len}
use Rattle.stx_scenario.specs.declared.limits.TheConstants.{GREATEST_RANK, GREATEST_WEIGHT}
use Rattle.stx_scenario.specs.declared.numbers.MethodNo.{MethodNo}
use Rattle.stx_scenario.specs.declared.scenario.Scenario.{Scenario}
use Rattle.stx_base.specs.Weight.{leads, IsOnCycle, above, rank, body_of, body_cost, cost, weight}
use Rattle.stx_graph.specs.declared.graph.GraphFault.{GraphFault}
use Rattle.stx_graph.specs.Ranks.{IsFirst}

-- the ranks of the methods, in their order, and the weight
pub record Weighed : Type 0 where
  pub ranks : List ℕ
  pub weight : ℕ

abbrev pub weighed : Scenario → Weighed
weighed S = record { ranks = map (λ n. rank S (record { 0 = n })) (range_with_len 0 (length S.methods)); weight = weight S }

-- a method of the scenario that leads to itself
pub record LeadsToItself (S : Scenario) (m : MethodNo) : Type 0 where
  pub method : m.0 < length S.methods
  pub cycle : IsOnCycle (leads S) m

-- a method of the scenario whose rank is too great
pub record IsTooDeep (S : Scenario) (m : MethodNo) : Type 0 where
  pub method : m.0 < length S.methods
  pub deep : GREATEST_RANK < rank S m

abbrev pub NoCycle : Scenario → Type 0
NoCycle S = (m : MethodNo) → ¬ (LeadsToItself S m)

abbrev pub NoneTooDeep : Scenario → Type 0
NoneTooDeep S = (m : MethodNo) → ¬ (IsTooDeep S m)

-- a scenario that is accepted; ranks and costs then are what the methods to which a method leads make them
pub record IsAccepted (S : Scenario) : Type 0 where
  pub no_cycle : NoCycle S
  pub none_too_deep : NoneTooDeep S
  pub light : weight S ≤ GREATEST_WEIGHT
  pub ranks : (m : MethodNo) → m.0 < length S.methods → rank S m ≡ above (map (rank S) (leads S m))
  pub costs : (m : MethodNo) → m.0 < length S.methods → cost S m ≡ body_cost S (cost S) (body_of S m)

-- why a scenario is refused: the first method that leads to itself; without one, the first that is too deep; without
-- one, the weight
abbrev pub IsDue : Scenario → GraphFault → Type 0
IsDue S (GraphFault.CallCycle m) = IsFirst (LeadsToItself S) m
IsDue S (GraphFault.TooDeep m) = NoCycle S × IsFirst (IsTooDeep S) m
IsDue S GraphFault.TooLarge = NoCycle S × NoneTooDeep S × (GREATEST_WEIGHT < weight S)
IsDue S (GraphFault.NoMemory _) = Unit {0}
