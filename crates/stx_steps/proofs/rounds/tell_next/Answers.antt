-- The next callback begins, or the round is over.
use Rattle.std.proofs.Common.{◌∙◌, sym, ap, subst}
use Rattle.std.specs.Option.{option_copied}
use Rattle.stx_machine.specs.Machine.{state_before, onward}
use Rattle.stx_steps.specs.Steps.{SaysCallback}
use Rattle.stx_steps.proofs.RoundLaws.{goes_next, none_next, within_next}
use Rattle.stx_steps.proofs.rounds.tell_next.Goals as goal

pub returns-in-None-clause-goes : goal.returns-in-None-clause-goes
returns-in-None-clause-goes c n pool store =
    let S = c.args.setup.now.scenario in
    let past = sym c.get.ensures ∙ ap option_copied c.in-None.is in
    ap (onward S n c.args.machine.now) (none_next S c.args.telling (state_before c.args.machine.now pool store) past) ∙ c.end_round.ensures.goes S n pool store

pub returns-in-Some-clause-goes : goal.returns-in-Some-clause-goes
returns-in-Some-clause-goes c =
    let t = c.args.telling in
    goes_next c.args.setup.now.scenario c.args.machine.now c.say_callback.new.machine c.put_back_round.new.machine t c.in-Some.told.now (sym c.get.ensures ∙ ap option_copied c.in-Some.is)
    (subst (λ committed. SaysCallback c.args.setup.now.scenario t.course.round committed c.in-Some.told.now.label c.args.machine.now c.say_callback.new.machine) c.status.ensures c.say_callback.ensures)
    c.put_back_round.ensures

pub returns-in-Some-clause-sound : goal.returns-in-Some-clause-sound
returns-in-Some-clause-sound c =
    let S = c.args.setup.now.scenario in
    let course = c.args.telling.course in
    let told = c.in-Some.told.now in
    let says = subst (λ committed. SaysCallback S course.round committed told.label c.args.machine.now c.say_callback.new.machine) c.status.ensures c.say_callback.ensures in
    let within =
    within_next S c.args.machine.now c.say_callback.new.machine c.put_back_round.new.machine c.args.telling told (sym c.get.ensures ∙ ap option_copied c.in-Some.is) says c.put_back_round.ensures
    c.requires.telling in
    record { stage = (tt, within.calls); top = within.top; holds = within.holds }
