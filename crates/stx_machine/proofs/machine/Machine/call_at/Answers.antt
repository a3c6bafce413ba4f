-- The call at the place, or the end.
use Rattle.std.proofs.Common.{◌≡◌, ◌∙◌, [], List, None, sym, ap}
use Rattle.std.specs.Prelude.{reverse}
use Rattle.std.specs.Option.{option_copied}
use Rattle.stx_base.specs.declared.line.Line.{Line}
use Rattle.stx_model.specs.Meanings.{Result}
use Rattle.stx_machine.specs.declared.stage.Stage.{Stage}
use Rattle.stx_machine.specs.Machine.{later_calls, piece, unwound, stack, state_before, called}
use Rattle.stx_machine.proofs.Places.{is_low}
use Rattle.stx_machine.proofs.TopLaws.{no_call, one_call}
use Rattle.stx_machine.proofs.machine.Machine.call_at.Goals as goal

pub returns-in-Some-clause-goes : goal.returns-in-Some-clause-goes
unfolding unwound
returns-in-Some-clause-goes c pool store =
    let S = c.args.setup.now.scenario in
    let m = c.args.self.now in
    let here = sym c.get.ensures ∙ ap option_copied c.in-Some.is in
    let low = is_low S c.args.number c.args.top c.calls.result.now c.calls.ensures c.in-Some.method.now here c.requires.playable in
    let st = state_before m pool store in
    let after : List Line → Result = λ ls. called S c.in-Some.method.now None (record st { lines = ls }) in
    let none : stack m.frames ≡ [] = ap reverse c.requires.none in
    one_call S c.args.number c.args.top c.calls.result.now c.calls.ensures st c.in-Some.method.now here low
    ∙ ap (λ ls. later_calls S c.args.number c.args.top (after ls)) (sym c.push.ensures.items)
    ∙ ap (λ fs. later_calls S c.args.number c.args.top (unwound S fs (after c.push.new.self.items))) (sym none)
    ∙ c.call.ensures.goes c.args.number pool store

pub returns-in-None-clause-goes : goal.returns-in-None-clause-goes
unfolding unwound
returns-in-None-clause-goes c pool store =
    let S = c.args.setup.now.scenario in
    let m = c.args.self.now in
    let none : stack m.frames ≡ [] = ap reverse c.requires.none in
    let st = state_before m pool store in
    no_call S c.args.number c.args.top c.calls.result.now c.calls.ensures st (sym c.get.ensures ∙ ap option_copied c.in-None.is)
    ∙ ap (λ fs. later_calls S c.args.number c.args.top (unwound S fs (piece S fs Stage.Done st))) (sym none)
