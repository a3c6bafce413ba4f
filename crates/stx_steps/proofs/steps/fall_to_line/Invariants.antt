-- What is left of the script stays, and actions of a completion get fewer until a line is said.
use Rattle.stx_steps.proofs.Falling.{FallsOn, silent_left}
use Rattle.stx_steps.proofs.steps.fall_to_line.Given as goal

abbrev pub invariant-loop-machine : goal.invariant-loop-machine
invariant-loop-machine l = FallsOn l.setup.scenario l.number l.fn.machine l.machine

abbrev pub decreases-loop-machine : goal.decreases-loop-machine
decreases-loop-machine l = silent_left l.said l.machine
