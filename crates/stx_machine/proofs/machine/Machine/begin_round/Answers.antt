-- The call is on top, and its round begins.
use Rattle.std.proofs.Common.{◌≡◌, ◌∙◌, true, sym, ap}
use Rattle.stx_model.specs.Meanings.{finally}
use Rattle.stx_model.specs.Statements.{caught}
use Rattle.stx_machine.specs.declared.interception.Phase.{Phase}
use Rattle.stx_machine.specs.declared.stage.Stage.{Stage}
use Rattle.stx_machine.specs.Machine.{after_round, inside, later_calls, put_back, unwound, round_if, stack, state_before}
use Rattle.stx_machine.proofs.Stacks.{put_on}
use Rattle.stx_machine.proofs.machine.Machine.begin_round.Goals as goal

pub returns-then-owns-clause-goes : goal.returns-then-owns-clause-goes
unfolding unwound
returns-then-owns-clause-goes c S n pool store =
    let m = c.args.self.now in
    let call = c.args.call in
    let course = c.args.course in
    let owned : call.interception.scope.owns ≡ true = sym c.owns.ensures ∙ c.if-owns.true in
    ap
    (λ owns. later_calls S n m.top (unwound S (stack m.frames)
    (finally (finally (round_if S (inside S call.method) owns course.round course.committed (state_before m pool store)) (after_round S call.method call.interception course))
    (caught S call.catch))))
    owned
    ∙ put_on S n m c.put_back.new.self (put_back call (Phase.Round course)) Stage.Rounding pool store c.put_back.ensures
