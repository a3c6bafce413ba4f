-- The registration is at the end of the list.
use Rattle.stx_machine.specs.Machine.{stack}
use Rattle.stx_machine.proofs.Registering.{registry_runs}
use Rattle.stx_machine.proofs.machine.Machine.add_registration.Goals as goal

pub returns-in-Some-clause-runs : goal.returns-in-Some-clause-runs
returns-in-Some-clause-runs c S below calls =
    let m = c.args.self.now in
    registry_runs S _ (stack m.frames) m.context _ c.register.new.self c.in-Some.ensures.value c.register.ensures.list below calls
