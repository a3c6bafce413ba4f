use Rattle.std.proofs.Common.{refl}
use Rattle.stx_refusals.proofs.FaultLaws.{loop_init, loop_step, loop_end}
use Rattle.stx_judge.proofs.checks.check_each.Goals as goal

pub loop-at-init : goal.loop-at-init
loop-at-init g c = loop_init

pub loop-at-preserved : goal.loop-at-preserved
loop-at-preserved g c = loop_step c.loop-at.invariant _ _ _ c.loop-at-test.true c.index-entries-at.is c.in_ok-check.ensures

pub returns : goal.returns
returns g c = loop_end c.loop-at.invariant c.loop-at-test.false _ refl
