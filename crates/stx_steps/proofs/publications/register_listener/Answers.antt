-- The other listeners are still to be dealt with; where no synchronisation is active the machine is as it was.
use Rattle.std.proofs.Common.{sym, subst, arith}
use Rattle.stx_scenario.specs.declared.classes.TheConstants.{ILLEGAL_STATE_EXCEPTION}
use Rattle.stx_machine.specs.declared.stage.Stage.{Stage}
use Rattle.stx_machine.specs.Machine.{dealt}
use Rattle.stx_machine.specs.Sound.{IsSound, IsWithin, no_tokens}
use Rattle.stx_machine.proofs.Places.{built_in_known}
use Rattle.stx_steps.proofs.publications.register_listener.Goals as goal

pub returns-then-add_registration-clause-sound : goal.returns-then-add_registration-clause-sound
returns-then-add_registration-clause-sound c body below later within =
    let S = c.args.setup.now.scenario in
    let runs = c.add_registration.ensures.runs S below within.calls in
    subst (λ z. IsSound S (record z { stage = Stage.Dealing (dealt c.args.publication c.args.listener) }) no_tokens) (sym c.if-add_registration.ensures.registers.rest)
    (record { stage = (later, body, runs); top = within.top; holds = within.holds })

pub returns-else-add_registration-clause-sound : goal.returns-else-add_registration-clause-sound
returns-else-add_registration-clause-sound c body below later within =
    let S = c.args.setup.now.scenario in
    let unchanged = subst (λ z. IsWithin S z no_tokens) (sym c.if-add_registration.ensures.registers.1) within in
    c.throw.ensures.sound S (built_in_known S ILLEGAL_STATE_EXCEPTION c.requires.playable (omega arith)) unchanged
