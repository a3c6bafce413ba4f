-- The faults of the entries so far, after those that there were.
use Rattle.stx_refusals.proofs.FaultLaws.{SoFar}
use Rattle.stx_judge.proofs.checks.check_each.Given as goal

abbrev pub invariant-loop-at : goal.invariant-loop-at
invariant-loop-at g l = SoFar (g.C.Checks.finds l.checks) l.initial.faults l.entries l.at l.faults
