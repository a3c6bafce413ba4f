use Rattle.std.proofs.Common.{◌≡◌}
use Rattle.stx_turn.proofs.tests.call_often.Given as goal

abbrev pub invariant-loop : goal.invariant-loop
invariant-loop g l = (l.seat.cell ≡ l.initial.seat.cell) × (l.seat.number ≡ l.initial.seat.number)
