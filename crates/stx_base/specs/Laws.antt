-- The law on ranks that a public function carries.
use Rattle.std.specs.Prelude.{◌≡◌, ◌<◌, length, map}
use Rattle.stx_scenario.specs.declared.numbers.MethodNo.{MethodNo}
use Rattle.stx_scenario.specs.declared.scenario.Scenario.{Scenario}
use Rattle.stx_base.specs.Weight.{InRange, IsLongestWay, HasNoCycle, leads, rank, above, cost, body_cost, body_of}

-- where no method leads to itself, a rank is the steps of the longest way, and rank and cost are what the methods to
-- which a method leads make them
pub record IsRanked (S : Scenario) (m : MethodNo) : Type 0 where
  pub is_longest : IsLongestWay (leads S) m (rank S m)
  pub from_ranks : rank S m ≡ above (map (rank S) (leads S m))
  pub from_costs : cost S m ≡ body_cost S (cost S) (body_of S m)

abbrev pub RanksAreLongestWays : Type 0
RanksAreLongestWays = (S : Scenario) → InRange S → HasNoCycle (leads S) (length S.methods) → (m : MethodNo) → m.0 < length S.methods → IsRanked S m
