-- The call is on top, and its body begins.
use Rattle.std.proofs.Common.{◌≡◌, ◌∙◌, ◌++◌, ◌∷◌, [], List, Some, None, false, sym, ap}
use Rattle.stx_base.specs.declared.line.Line.{Line}
use Rattle.stx_model.specs.Meanings.{State, Over}
use Rattle.stx_model.specs.Scopes.{in_scope}
use Rattle.stx_context.specs.Carrying.{context_of}
use Rattle.stx_machine.specs.declared.interception.Phase.{Phase}
use Rattle.stx_machine.specs.declared.stage.Stage.{Stage}
use Rattle.stx_machine.specs.Machine.{Call, later_calls, stack, frame_after, new_call, run, onward}
use Rattle.stx_machine.proofs.Stacks.{resume_pushed}
use Rattle.stx_machine.proofs.machine.Machine.start.Goals as goal

pub returns-clause-goes : goal.returns-clause-goes
unfolding in_scope
returns-clause-goes c S n pool store =
    let m = c.args.self.now in
    let call : Call = new_call c.args.method c.args.catch c.args.scope m.local Phase.Running in
    let st : List Line → State = λ ls. record { lines = ls; context = context_of m.context; local = Some false; pool = pool; store = store } in
    let said : c.push.new.self.items ≡ m.lines.items ++ Line.Opened c.args.scope.kind c.args.scope.owns ∷ [] =
    c.push.ensures.items ∙ (λ i. m.lines.items ++ Line.Opened (c.kind.ensures i) (c.owns.ensures i) ∷ []) in
    ap (λ ls. onward S n m (frame_after S (stack m.frames) call (Over None (st ls)))) (sym said)
    ∙ ap (later_calls S n m.top) (resume_pushed S m.frames c.push_call.new.self.frames call (Over None (st c.push.new.self.items)) c.push_call.ensures.frames)
    ∙ ap (λ after. run S n (record after { local = Some false; stage = Stage.Over None }) pool store) (sym c.push_call.ensures.rest)
