-- The next statement of the callback under way, or its end.
use Rattle.stx_machine.specs.Machine.{left_after}
use Rattle.std.proofs.Common.{◌+◌}
use Rattle.stx_steps.proofs.rounds.go_on_round.Goals as goal

pub returns-in-Some-clause-moves : goal.returns-in-Some-clause-moves
returns-in-Some-clause-moves c = c.go_on_callback.ensures.moves (left_after c.args.telling.course + 1)
