-- The call is on top, with what is left of its completion.
use Rattle.std.proofs.Common.{◌∙◌, List, sym, ap}
use Rattle.stx_model.specs.Meanings.{Result}
use Rattle.stx_machine.specs.declared.interception.Phase.{Phase}
use Rattle.stx_machine.specs.declared.stage.Stage.{Stage}
use Rattle.stx_machine.specs.Machine.{Call, later_calls, unwound, piece, put_back, run, state_before}
use Rattle.stx_machine.proofs.Stacks.{pushed}
use Rattle.stx_machine.proofs.machine.Machine.go_on_with.Goals as goal

pub returns-clause-goes : goal.returns-clause-goes
unfolding unwound
returns-clause-goes c S n pool store =
    let m = c.args.self.now in
    let call = put_back c.args.call (Phase.Completing c.args.rest c.args.thrown) in
    let completes : List Call → Result = λ fs. later_calls S n m.top (unwound S fs (piece S fs Stage.Completing (state_before m pool store))) in
    ap completes (sym (pushed m.frames c.put_back.new.self.frames call c.put_back.ensures.frames))
    ∙ ap (λ z. run S n (record z { stage = Stage.Completing }) pool store) (sym c.put_back.ensures.rest)
