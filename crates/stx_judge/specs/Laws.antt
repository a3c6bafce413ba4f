-- The laws that public functions carry: what a valid scenario can be relied on for, and what a cycle of calls is.
use Rattle.std.specs.Prelude.{◌≡◌, ◌↔◌, ◌<◌, true, length}
use Rattle.stx_scenario.specs.declared.numbers.MethodNo.{MethodNo}
use Rattle.stx_scenario.specs.declared.scenario.Scenario.{Scenario}
use Rattle.stx_base.specs.Weight.{InRange, IsOnCycle, leads}
use Rattle.stx_judge.specs.Calls.{leads_to_itself}
use Rattle.stx_judge.specs.Judge.{IsValid}
use Rattle.stx_base.specs.Valid.{IsInOrder}

-- a valid scenario is in order
abbrev pub ValidIsInOrder : Type 0
ValidIsInOrder = (S : Scenario) → IsValid S → IsInOrder S

-- a method leads to itself exactly where one or more steps lead from it back to it
abbrev pub CyclesAreWays : Type 0
CyclesAreWays =
    (S : Scenario) → InRange S → (m : MethodNo) → m.0 < length S.methods
    → (leads_to_itself S m ≡ true) ↔ IsOnCycle (leads S) m
