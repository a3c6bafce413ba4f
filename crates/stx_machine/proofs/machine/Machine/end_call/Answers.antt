-- After the last action the call is left, and the mark round its scope counts again.
use Rattle.std.proofs.Common.{subst}
use Rattle.stx_model.specs.Scopes.{acts}
use Rattle.stx_machine.specs.Machine.{stack}
use Rattle.stx_machine.specs.Sound.{CallsRun, standing_of}
use Rattle.stx_machine.proofs.Standings.{below_none}
use Rattle.stx_machine.proofs.machine.Machine.end_call.Goals as goal

pub leave-requires-clause-within : goal.leave-requires-clause-within
leave-requires-clause-within c =
    let S = c.args.setup.now.scenario in
    let m = c.args.self.now in
    let apart = c.requires.apart in
    let under = below_none c.args.call.interception.scope (standing_of m.context) c.requires.completing.due in
    record { calls = subst (λ s. CallsRun S s (stack m.frames)) under apart.calls; top = apart.top; holds = apart.holds }

pub returns-clause-goes : goal.returns-clause-goes
unfolding acts
returns-clause-goes c n pool store = c.leave.ensures.goes n pool store
