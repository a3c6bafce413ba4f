-- The callback threw nothing.
use Rattle.std.proofs.Common.{None, subst}
use Rattle.stx_model.specs.Meanings.{Over}
use Rattle.stx_machine.specs.Machine.{last_told}
use Rattle.stx_steps.specs.Steps.{IsNext, telling_after, tells_on}
use Rattle.stx_steps.proofs.Coming.{comes_of}
use Rattle.stx_steps.proofs.RoundLaws.{none_thrown}
use Rattle.stx_steps.proofs.rounds.end_callback.Goals as goal

pub returns-in-None-clause-goes : goal.returns-in-None-clause-goes
returns-in-None-clause-goes c =
    let S = c.args.setup.now.scenario in
    let t = c.args.telling in
    let past = subst (λ x. IsNext (last_told S t.course t.todo t.at) t.place x None) c.in-None.is c.requires.over in
    comes_of S c.args.machine.now c.tell_next-in-None.new.machine (λ x st. telling_after S t (Over x st)) c.args.thrown None (tells_on S t) c.in-None.is (λ st. none_thrown S t st past)
    c.tell_next-in-None.ensures.goes
