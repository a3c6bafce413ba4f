-- What was carried is held by the scope, which waits for a connection.
use Rattle.std.proofs.Common.{◌≡◌, ◌∙◌, ◌∷◌, List, Some, sym, ap}
use Rattle.stx_base.specs.declared.call.Want.{Want}
use Rattle.stx_base.specs.declared.manager.Kind.{Kind}
use Rattle.stx_model.specs.Meanings.{State, Result, ask, on_take, finally}
use Rattle.stx_model.specs.Statements.{caught}
use Rattle.stx_manager.specs.Scopes.{OpenScope, new_scope}
use Rattle.stx_context.specs.Carrying.{context_of}
use Rattle.stx_machine.specs.declared.interception.Phase.{Phase}
use Rattle.stx_machine.specs.declared.stage.Stage.{Stage}
use Rattle.stx_machine.specs.Machine.{Call, later_calls, unwound, stack, fresh_begun, new_call, piece, run, state_before, onward}
use Rattle.stx_machine.proofs.Stacks.{pushed}
use Rattle.stx_machine.proofs.machine.Machine.open_fresh.Goals as goal

pub returns-clause-goes : goal.returns-clause-goes
unfolding unwound
returns-clause-goes c S n pool store =
    let m = c.args.self.now in
    let held = c.suspend-suspended.new.self in
    let st = state_before held pool store in
    let call : OpenScope → Call = λ scope. new_call c.args.method c.args.catch scope held.local Phase.Opening in
    let takes : State → Result = λ st. finally (ask Want.Take (on_take (fresh_begun S c.args.method c.args.owns (context_of m.context))) st) (caught S c.args.catch) in
    let waits : List Call → Result = λ fs. later_calls S n held.top (unwound S fs (piece S fs Stage.Taking st)) in
    let scope_is : c.new-scope.result ≡ new_scope Kind.Fresh c.args.owns (Some m.context) =
    c.new-scope.ensures ∙ ap (λ h. new_scope Kind.Fresh c.args.owns (Some h)) c.suspend-suspended.ensures.held in
    ap (λ st. onward S n m (takes st)) (c.suspend-suspended.ensures.suspends.state pool store)
    ∙ ap (λ z. onward S n z (takes st)) (sym c.suspend-suspended.ensures.suspends.rest)
    ∙ ap (λ scope. waits (call scope ∷ stack held.frames)) (sym scope_is)
    ∙ ap waits (sym (pushed held.frames c.push_call.new.self.frames (call c.new-scope.result) c.push_call.ensures.frames))
    ∙ ap (λ z. run S n (record z { stage = Stage.Taking }) pool store) (sym c.push_call.ensures.rest)
