-- Costs that stop at a cap, above which they don't matter, and costs by rounds.
use Rattle.std.specs.Prelude.{◌≡◌, ℕ, ◌+◌, ◌<◌, List, length, map, min, slice_index_or}
use Rattle.stx_scenario.specs.declared.limits.TheConstants.{GREATEST_WEIGHT}
use Rattle.stx_scenario.specs.declared.numbers.MethodNo.{MethodNo}
use Rattle.stx_scenario.specs.declared.numbers.EventNo.{EventNo}
use Rattle.stx_scenario.specs.declared.scenario.Scenario.{Scenario}
use Rattle.stx_scenario.specs.declared.scenario.Stmt.{Stmt}
use Rattle.stx_base.specs.declared.cost.Cost.{Cost}
use Rattle.stx_base.specs.Weight.{no_cost, one, one_registered, plus, total, listeners_of, listener_cost, cost_within}

-- one more than the greatest weight that a scenario may have
abbrev pub cap : ℕ
cap = GREATEST_WEIGHT + 1

abbrev pub capped : Cost → Cost
capped c = record { size = min c.size cap; registrations = min c.registrations cap }

-- the cost that stands for a method in a list
abbrev pub cost_at : List Cost → MethodNo → Cost
cost_at costs m = slice_index_or costs m.0 no_cost

-- a cost and one more
abbrev pub added : Cost → Cost → Cost
added a b = capped (plus a b)

-- the listeners of an event, each with its cost
abbrev pub event_cost : Scenario → (MethodNo → Cost) → EventNo → Cost
event_cost S of e = total (map (listener_cost of) (listeners_of S e))

-- a statement of a method, given the costs of methods, of the listeners of each event and of each sync's callbacks
abbrev pub statement_at : List Cost → List Cost → List Cost → Stmt → Cost
statement_at methods events syncs (Stmt.Call m x) = plus one (cost_at methods m)
statement_at methods events syncs (Stmt.This m x) = plus one (cost_at methods m)
statement_at methods events syncs (Stmt.Register s) = plus one_registered (slice_index_or syncs s.0 no_cost)
statement_at methods events syncs (Stmt.Publish e) = plus one (slice_index_or events e.0 no_cost)
statement_at methods events syncs _ = one

-- what the methods cost with calls up to this depth
pub record AreCosts (S : Scenario) (depth : ℕ) (list : List Cost) : Type 0 where
  pub count : length list ≡ length S.methods
  pub costs : (m : MethodNo) → m.0 < length list → cost_at list m ≡ capped (cost_within S depth m)
