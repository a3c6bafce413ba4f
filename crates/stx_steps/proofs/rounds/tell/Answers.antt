-- The round is on top, and none was told yet.
use Rattle.std.proofs.Common.{sym, subst}
use Rattle.stx_steps.proofs.RoundLaws.{Begins, as_it_was, goes_begun, within_begun}
use Rattle.stx_steps.proofs.rounds.tell.Goals as goal
use Rattle.stx_steps.proofs.rounds.tell.Goals.{in-AfterCompletion, in_default}

begins : (c : goal.After-machine-1) → Begins c.in-Round.course.round c.take_off-call.new.self c.match-course.machine
begins c =
    let off = c.take_off-call.new.self in
    let round = c.in-Round.course.round in
    elim c.match-course.branch [
      | in-AfterCompletion w ↦
          subst (Begins round off) (sym w.machine-is)
          (subst (λ r. Begins r off w.end_syncs.new.machine) (sym w.in-AfterCompletion.is)
          (record { context = w.end_syncs.ensures.context; tx = w.end_syncs.ensures.tx; rest = w.end_syncs.ensures.rest }))
      | in_default w ↦ subst (Begins round off) (sym w.machine-is) (as_it_was round off w.in_default.not-AfterCompletion)
    ]

pub returns-clause-sound : goal.returns-clause-sound
returns-clause-sound c S rounds few early holds =
    let takes = c.take_off-call.ensures in
    let within =
    within_begun S c.args.machine.now c.take_off-call.new.self c.match-course.machine c.put_back_round.new.machine c.take_off-call.result c.in-Round.course c.args.told takes.call takes.rest c.in-Round.is
    (begins c) c.requires.told c.put_back_round.ensures rounds few early holds in
    record { stage = (tt, within.calls); top = within.top; holds = within.holds }

pub returns-clause-goes : goal.returns-clause-goes
returns-clause-goes c S =
    goes_begun S c.args.machine.now c.take_off-call.new.self c.match-course.machine c.put_back_round.new.machine c.take_off-call.result c.in-Round.course c.args.told c.take_off-call.ensures.call
    c.take_off-call.ensures.rest c.in-Round.is (begins c) c.requires.told c.put_back_round.ensures
