-- The listeners are to be dealt with.
use Rattle.std.proofs.Common.{◌∙◌, List, sym, ap}
use Rattle.stx_base.specs.declared.line.Line.{Line}
use Rattle.stx_model.specs.Contexts.{is_active, is_live}
use Rattle.stx_model.specs.Listeners.{deeds}
use Rattle.stx_model.specs.Meanings.{Result, State}
use Rattle.stx_model.specs.Script.{deals}
use Rattle.stx_context.specs.Carrying.{context_of}
use Rattle.stx_machine.specs.Machine.{calls_at, later_calls, unwound, stack, state_before}
use Rattle.stx_steps.proofs.Dealings.{deeds_as}
use Rattle.stx_steps.proofs.publications.publish.Goals as goal

pub returns-clause-goes : goal.returns-clause-goes
returns-clause-goes c S n pool store =
    let m = c.args.machine.now in
    let e = c.args.event in
    let b = c.registers-registers.result in
    let context = context_of m.context in
    let said : List Line → State = λ ls. record (state_before m pool store) { lines = ls } in
    let calls = calls_at S (stack m.frames) in
    let at : Result → Result = λ r. later_calls S n m.top (unwound S (stack m.frames) r) in
    ap (λ ls. at (deals S calls (deeds S e (is_active context) (is_live context)) (said ls))) (sym c.push.ensures.items)
    ∙ ap (λ ds. at (deals S calls ds (said c.push.new.self.items))) (deeds_as S e (is_active context) (is_live context) b c.registers-registers.ensures)
