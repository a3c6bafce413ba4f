-- The body is on top.
use Rattle.stx_model.specs.Meanings.{Over}
use Rattle.std.proofs.Common.{None, sym, ap, subst}
use Rattle.stx_frames.specs.declared.frame.Frame.{Frame}
use Rattle.stx_machine.specs.Machine.{later_calls, state_before}
use Rattle.stx_machine.proofs.Stacks.{pushed, resume_pushed}
use Rattle.stx_machine.specs.Sound.{CallsRun, standing_of}
use Rattle.stx_machine.proofs.machine.Machine.enter.Goals as goal

pub returns-clause-goes : goal.returns-clause-goes
returns-clause-goes c S n pool store =
    ap (later_calls S n c.args.self.now.top)
    (resume_pushed S c.args.self.now.frames c.push.new.self (Frame.Body c.args.method 0 c.args.catch None) (Over None (state_before c.args.self.now pool store)) c.push.ensures.items)

pub returns-clause-sound : goal.returns-clause-sound
returns-clause-sound c S call within =
    let top = Frame.Body c.args.method 0 c.args.catch None in
    record {
      stage = (tt, subst (CallsRun S (standing_of c.args.self.now.context)) (sym (pushed c.args.self.now.frames c.push.new.self top c.push.ensures.items)) (call, tt, within.calls));
      top = within.top;
      holds = within.holds;
    }
