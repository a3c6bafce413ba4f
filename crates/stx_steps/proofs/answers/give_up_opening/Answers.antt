-- What was suspended is carried again, and is to be told before the call is refused.
use Rattle.std.proofs.Common.{◌≡◌, ◌∙◌, ◌∷◌, Some, None, sym, ap, subst}
use Rattle.std.specs.Prelude.{◌<◌}
use Rattle.std.specs.Option.{option_map}
use Rattle.stx_scenario.specs.declared.classes.TheConstants.{CANNOT_CREATE_TRANSACTION_EXCEPTION}
use Rattle.stx_base.specs.Limits.{most_calls}
use Rattle.stx_base.specs.declared.line.Line.{Line}
use Rattle.stx_model.specs.Meanings.{State, Result, finally, say}
use Rattle.stx_model.specs.Scopes.{begins, leaves, resumed}
use Rattle.stx_model.specs.Statements.{caught}
use Rattle.stx_context.specs.Carrying.{context_of}
use Rattle.stx_machine.specs.declared.completion.Intercepted.{Intercepted}
use Rattle.stx_machine.specs.declared.interception.Phase.{Phase}
use Rattle.stx_machine.specs.declared.machine.Machine.{Machine}
use Rattle.stx_machine.specs.declared.stage.Stage.{Stage}
use Rattle.stx_machine.specs.Machine.{later_calls, unwound, stack, begun, phase_after, put_back, state_before, tells_resumed}
use Rattle.stx_steps.specs.Steps.{finds_none}
use Rattle.stx_machine.specs.Sound.{CallOpens, CallResumes, CallsRun, OpensIn, nothing, standing_of, standing_under}
use Rattle.stx_machine.proofs.Stacks.{opens_only, put_on, resumes_some}
use Rattle.stx_machine.proofs.Standings.{pushed_sound}
use Rattle.stx_steps.proofs.answers.give_up_opening.Goals as goal

pub returns-clause-goes : goal.returns-clause-goes
unfolding unwound begins
returns-clause-goes c S opens n pool store =
    let m = c.args.machine.now in
    let st = state_before m pool store in
    let call = c.take_off-call.result in
    let i = call.interception in
    let after = c.take_off-call.new.self in
    let back = c.resume.new.self in
    let resumes = c.resume.ensures in
    let refused : State → Result = λ st. finally (leaves call.method (Some CANNOT_CREATE_TRANSACTION_EXCEPTION) (say (Line.Throw CANNOT_CREATE_TRANSACTION_EXCEPTION) st)) (caught S call.catch) in
    let at : Machine → Result → Result = λ z r. later_calls S n z.top (unwound S (stack z.frames) r) in
    let here = subst (CallOpens S) c.take_off-call.ensures.call opens in
    let taken : Intercepted = record call { interception = record i { scope = c.take_held.new.self } } in
    ap (λ fs. later_calls S n m.top (unwound S fs (finds_none S fs st))) c.take_off-call.ensures.call
    ∙ ap (λ phase. later_calls S n m.top (unwound S (stack after.frames) (finally (phase_after S call.method call.place i phase (begun S call.method i None st)) (caught S call.catch)))) (opens_only i i.phase here.3)
    ∙ ap (λ z. later_calls S n z.top (unwound S (stack after.frames) (finally (begun S call.method i None (state_before z pool store)) (caught S call.catch)))) (sym c.take_off-call.ensures.rest)
    ∙ ap (λ s. at after (refused s)) (resumes_some i.scope.suspended (state_before after pool store) (subst (OpensIn i) (opens_only i i.phase here.3) here.3).1)
    ∙ ap (λ older. at after (refused (resumed (option_map context_of older) (state_before after pool store)))) (sym c.take_held.ensures.held ∙ c.in-Some.is)
    ∙ ap (λ s. at after (refused s)) (resumes.state pool store)
    ∙ ap (λ z. at z (refused (tells_resumed (state_before back pool store)))) (sym resumes.rest)
    ∙ put_on S n back c.put_back.new.self (put_back taken Phase.Opening) Stage.Resuming pool store c.put_back.ensures

pub returns-clause-sound : goal.returns-clause-sound
returns-clause-sound c S opens =
    let m = c.args.machine.now in
    let call = c.take_off-call.result in
    let i = call.interception in
    let after = c.take_off-call.new.self in
    let back = c.resume.new.self in
    let here = subst (CallOpens S) c.take_off-call.ensures.call opens in
    let taken : Intercepted = record call { interception = record i { scope = c.take_held.new.self } } in
    let top = put_back taken Phase.Opening in
    let held = sym c.take_held.ensures.held ∙ c.in-Some.is in
    let none : c.take_held.new.self.suspended ≡ None = ap (λ s. s.suspended) c.take_held.ensures.rest in
    let fits : CallResumes S (standing_of c.in-Some.suspended) (top ∷ stack after.frames) =
    (here.0, here.2, none, subst (λ older. CallsRun S (standing_under older nothing) (stack after.frames)) held here.4) in
    pushed_sound S back c.put_back.new.self top Stage.Resuming _ c.put_back.ensures
    (subst (λ z. CallResumes S (standing_of z.context) (top ∷ stack z.frames)) (sym c.resume.ensures.rest) fits)
    (subst (λ z. z.top < most_calls) (sym c.resume.ensures.rest) (subst (λ z. z.top < most_calls) (sym c.take_off-call.ensures.rest) c.requires.opening.top))
    (ap (λ z. z.tokens) c.resume.ensures.rest ∙ ap (λ z. z.tokens) c.take_off-call.ensures.rest ∙ c.requires.opening.holds)
