-- The next statement of a callback.
use Rattle.std.proofs.Common.{◌∙◌, ◌+◌, sym, ap, subst, arith}
use Rattle.stx_model.specs.Meanings.{finally}
use Rattle.stx_model.specs.Rounds.{callback_statement}
use Rattle.stx_model.specs.Statements.{caught}
use Rattle.stx_machine.specs.declared.machine.Machine.{Machine}
use Rattle.stx_steps.specs.declared.rounds.Telling.{Telling}
use Rattle.stx_machine.specs.Machine.{after_round, calls_at, caller_rank, inside, later_calls, unwound, stack, state_before}
use Rattle.stx_steps.specs.Steps.{MayCallBack}
use Rattle.stx_steps.proofs.BodyLaws.{moves_from}
use Rattle.stx_steps.proofs.RoundLaws.{may_call_back, resume_told, statement_told}
use Rattle.stx_steps.proofs.rounds.go_on_callback.Goals as goal

pub make_in_callback-requires-clause-may : goal.make_in_callback-requires-clause-may
make_in_callback-requires-clause-may c =
    let S = c.args.setup.now.scenario in
    let t = c.args.telling in
    subst (λ fs. MayCallBack S (caller_rank S fs) c.args.statement) (sym c.put_back_round.ensures.frames)
    (may_call_back S t.call.method t.course t.todo t.at t.place c.args.statement c.requires.playable c.requires.telling.telling.told.below c.requires.next.1)

pub make_in_callback-requires-clause-frames : goal.make_in_callback-requires-clause-frames
make_in_callback-requires-clause-frames c = omega (arith, c.requires.frames, c.put_back_round.ensures.room)

pub returns-clause-goes : goal.returns-clause-goes
returns-clause-goes c n pool store =
    let S = c.args.setup.now.scenario in
    let m = c.args.machine.now in
    let t = c.args.telling in
    let s = c.args.statement in
    let calls = inside S t.call.method in
    let after = c.put_back_round.new.machine in
    let next : Telling = record t { place = t.place + 1 } in
    ap (λ r. later_calls S n m.top (unwound S (stack m.frames) (finally (finally r (after_round S t.call.method t.call.interception t.course)) (caught S t.call.catch))))
    (statement_told S calls t.course t.todo t.at t.place (state_before m pool store) s c.requires.next.1)
    ∙ ap (later_calls S n m.top) (resume_told S m next after (callback_statement S calls s (state_before m pool store)) c.put_back_round.ensures)
    ∙ ap (λ z. later_calls S n z.top (unwound S (stack after.frames) (callback_statement S calls s (state_before z pool store)))) (sym c.put_back_round.ensures.rest)
    ∙ ap (λ fs. later_calls S n after.top (unwound S (stack after.frames) (callback_statement S (calls_at S fs) s (state_before after pool store)))) (sym c.put_back_round.ensures.frames)
    ∙ c.make_in_callback.ensures.goes n pool store

pub returns-clause-moves : goal.returns-clause-moves
returns-clause-moves c n =
    moves_from n c.args.machine.now c.put_back_round.new.machine c.make_in_callback.new.machine (sym (ap (λ (z : Machine). z.lines.items) c.put_back_round.ensures.rest)) (c.make_in_callback.ensures.moves n)
