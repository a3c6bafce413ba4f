-- The exception arises before the body, which it ends.
use Rattle.std.proofs.Common.{◌∙◌, Some, None, ap}
use Rattle.stx_base.specs.declared.line.Line.{Line}
use Rattle.stx_model.specs.Meanings.{Over, say}
use Rattle.stx_frames.specs.declared.frame.Frame.{Frame}
use Rattle.stx_machine.specs.Machine.{later_calls, state_before}
use Rattle.stx_machine.proofs.Stacks.{resume_pushed}
use Rattle.stx_machine.proofs.machine.Machine.refuse.Goals as goal

pub returns-clause-goes : goal.returns-clause-goes
returns-clause-goes c S n pool store =
    let m = c.args.self.now in
    ap (later_calls S n m.top)
    (resume_pushed S m.frames c.push.new.self (Frame.Body c.args.method 0 c.args.catch None) (Over (Some c.args.class) (say (Line.Throw c.args.class) (state_before m pool store))) c.push.ensures.items)
    ∙ c.throw.ensures.goes S n pool store
