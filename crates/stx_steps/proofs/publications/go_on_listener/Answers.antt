-- The next statement of a listener, or its end.
use Rattle.std.proofs.Common.{◌∙◌, ◌+◌, Some, None, false, refl, sym, ap, subst}
use Rattle.std.specs.Prelude.{slice_get}
use Rattle.stx_model.specs.Below.{listener_body}
use Rattle.stx_model.specs.Meanings.{Over}
use Rattle.stx_model.specs.Rounds.{callback_statement}
use Rattle.stx_model.specs.Script.{deals}
use Rattle.stx_frames.specs.declared.frame.Frame.{Frame}
use Rattle.stx_machine.specs.Machine.{Comes, calls_at, caller_rank, later_deeds, now_after, stack, state_before, onward}
use Rattle.stx_steps.specs.Steps.{IsNext, MayCallBack}
use Rattle.stx_steps.proofs.BodyLaws.{moves_from}
use Rattle.stx_steps.proofs.Coming.{comes_pushed}
use Rattle.stx_steps.proofs.RoundLaws.{may_listen, now_ends, now_next}
use Rattle.stx_machine.proofs.Stacks.{pushed}
use Rattle.stx_steps.proofs.publications.go_on_listener.Goals as goal

pub make_in_callback-requires-clause-may : goal.make_in_callback-requires-clause-may
make_in_callback-requires-clause-may c =
    let S = c.args.setup.now.scenario in
    let m = c.args.machine.now in
    let l = c.args.listener in
    let next = subst (IsNext (listener_body (slice_get S.listeners l.0)) c.args.place c.args.thrown) c.in-Some.is c.statement_of.ensures in
    subst (λ fs. MayCallBack S (caller_rank S fs) c.in-Some.statement) (sym (pushed m.frames c.push.new.self (Frame.Now l (c.args.place + 1)) c.push.ensures.items))
    (may_listen S l c.args.place c.in-Some.statement (caller_rank S (stack m.frames)) c.requires.playable c.requires.below next.1)

pub returns-in-Some-clause-goes : goal.returns-in-Some-clause-goes
returns-in-Some-clause-goes c =
    let S = c.args.setup.now.scenario in
    let m = c.args.machine.now in
    let l = c.args.listener in
    let s = c.in-Some.statement in
    let after = c.make_in_callback.new.machine in
    let calls = calls_at S (stack m.frames) in
    let top = Frame.Now l (c.args.place + 1) in
    let next = subst (IsNext (listener_body (slice_get S.listeners l.0)) c.args.place c.args.thrown) c.in-Some.is c.statement_of.ensures in
    comes_pushed S m after (λ st. now_after S calls l c.args.place (Over c.args.thrown st)) (callback_statement S calls s) c.push.new.self top c.push.ensures.items
    (λ st. ap (λ x. now_after S calls l c.args.place (Over x st)) next.0 ∙ now_next S calls l c.args.place s st next.1)
    (subst (λ fs. Comes S (record m { frames = c.push.new.self }) (callback_statement S (calls_at S fs) s) after) (pushed m.frames c.push.new.self top c.push.ensures.items) c.make_in_callback.ensures.goes)

pub returns-in-Some-clause-moves : goal.returns-in-Some-clause-moves
returns-in-Some-clause-moves c = moves_from 2 c.args.machine.now (record (c.args.machine.now) { frames = c.push.new.self }) c.make_in_callback.new.machine refl (c.make_in_callback.ensures.moves 2)

pub returns-in-None-thrown-clause-goes : goal.returns-in-None-thrown-clause-goes
returns-in-None-thrown-clause-goes c n pool store =
    let S = c.args.setup.now.scenario in
    let m = c.args.machine.now in
    let l = c.args.listener in
    let calls = calls_at S (stack m.frames) in
    let ended = subst (IsNext (listener_body (slice_get S.listeners l.0)) c.args.place c.args.thrown) c.in-None.is c.statement_of.ensures in
    let none = subst (λ x. IsNext (listener_body (slice_get S.listeners l.0)) c.args.place x None) c.in-None-thrown.is ended in
    ap (λ x. onward S n m (now_after S calls l c.args.place (Over x (state_before m pool store)))) c.in-None-thrown.is
    ∙ ap (onward S n m) (now_ends S calls l c.args.place None (state_before m pool store) none)
    ∙ ap (λ e. onward S n m (deals S calls (later_deeds S (record { event = e; after = Some l; registers = false })) (state_before m pool store))) (sym c.event_of.ensures)
