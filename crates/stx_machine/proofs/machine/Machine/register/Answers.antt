-- Where no synchronisation is active the exception arises in the machine as it was.
use Rattle.std.proofs.Common.{sym, subst, arith}
use Rattle.stx_scenario.specs.declared.classes.TheConstants.{ILLEGAL_STATE_EXCEPTION}
use Rattle.stx_machine.specs.Sound.{IsWithin, no_tokens}
use Rattle.stx_machine.proofs.Places.{built_in_known}
use Rattle.stx_machine.proofs.machine.Machine.register.Goals as goal

pub returns-else-add_registration-clause-sound : goal.returns-else-add_registration-clause-sound
returns-else-add_registration-clause-sound c playable below within =
    let S = c.args.setup.now.scenario in
    let unchanged = subst (λ z. IsWithin S z no_tokens) (sym c.if-add_registration.ensures.registers.1) within in
    c.throw.ensures.sound S (built_in_known S ILLEGAL_STATE_EXCEPTION playable (omega arith)) unchanged
