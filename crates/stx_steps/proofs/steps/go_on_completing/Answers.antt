-- The call on top completes.
use Rattle.std.proofs.Common.{◌∙◌, sym, ap}
use Rattle.stx_model.specs.Meanings.{Result, finally}
use Rattle.stx_model.specs.Scopes.{acts}
use Rattle.stx_model.specs.Statements.{caught}
use Rattle.stx_machine.specs.declared.machine.Machine.{Machine}
use Rattle.stx_machine.specs.declared.stage.Stage.{Stage}
use Rattle.stx_machine.specs.Machine.{later_calls, unwound, stack, of_top, inside, scope_of, phase_after, rest_of, thrown_of, acts_of, state_before}
use Rattle.stx_steps.proofs.steps.go_on_completing.Goals as goal

pub returns-clause-goes : goal.returns-clause-goes
unfolding unwound
returns-clause-goes c n pool store =
    let S = c.args.setup.now.scenario in
    let m = c.args.machine.now in
    let st = state_before m pool store in
    let call = c.take_off-call.result in
    let i = call.interception in
    let after = c.take_off-call.new.self in
    let at : Machine → Result → Result = λ z r. later_calls S n z.top (unwound S (stack after.frames) r) in
    ap (λ fs. later_calls S n m.top (unwound S fs (of_top S fs Stage.Completing st))) c.take_off-call.ensures.call
    ∙ ap (λ phase. at m (finally (phase_after S call.method call.place i phase (acts S (inside S call.method) (scope_of call.method i) (rest_of phase) (thrown_of phase) st)) (caught S call.catch))) c.in-Completing.is
    ∙ ap (λ z. at z (acts_of S call c.in-Completing.rest.now c.in-Completing.thrown (state_before z pool store))) (sym c.take_off-call.ensures.rest)
    ∙ c.complete.ensures.goes n pool store
