use Rattle.std.proofs.Common.{◌≡◌, ◌≤◌, ◌%◌, ◌^◌}
use Rattle.stx_turn.specs.inner.TableSeats.{IsSeatOf}
use Rattle.stx_turn.proofs.turns.take_turn.Given as goal

abbrev pub invariant-loop : goal.invariant-loop
invariant-loop g l = record {
  even : l.word % 2 ≡ 0;
  most : l.word ≤ 2 ^ 63;
  place : IsSeatOf l.initial.place.table_id l.initial.place.id l.place;
  same : l.place.me ≡ l.initial.place.me;
}
