-- The listener is on top, and its body begins.
use Rattle.std.proofs.Common.{◌∙◌, List, None, sym, ap}
use Rattle.stx_base.specs.declared.line.Line.{Line}
use Rattle.stx_model.specs.Meanings.{Over, State}
use Rattle.stx_frames.specs.declared.frame.Frame.{Frame}
use Rattle.stx_machine.specs.Machine.{calls_at, later_calls, now_after, unwound, stack, state_before}
use Rattle.stx_machine.proofs.Stacks.{resume_pushed}
use Rattle.stx_steps.proofs.publications.run_now.Goals as goal

pub returns-clause-goes : goal.returns-clause-goes
returns-clause-goes c S n pool store =
    let m = c.args.machine.now in
    let said : List Line → State = λ ls. record (state_before m pool store) { lines = ls } in
    ap (λ ls. later_calls S n m.top (unwound S (stack m.frames) (now_after S (calls_at S (stack m.frames)) c.args.listener 0 (Over None (said ls))))) (sym c.push.ensures.items)
    ∙ ap (later_calls S n m.top) (resume_pushed S m.frames c.push-2.new.self (Frame.Now c.args.listener 0) (Over None (said c.push.new.self.items)) c.push-2.ensures.items)
