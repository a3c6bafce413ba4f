-- What is left of the script stays, and its lines that weren't said yet get fewer.
use Rattle.stx_steps.proofs.Falling.{FallsOn, lines_left}
use Rattle.stx_steps.proofs.steps.fall.Given as goal

abbrev pub invariant-loop-alloc : goal.invariant-loop-alloc
invariant-loop-alloc l = FallsOn l.setup.scenario l.number l.fn.machine l.machine

abbrev pub decreases-loop-alloc : goal.decreases-loop-alloc
decreases-loop-alloc l = lines_left l.setup.scenario l.number l.machine
