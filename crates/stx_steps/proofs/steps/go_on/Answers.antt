-- The innermost body goes on, or the client does.
use Rattle.std.proofs.Common.{◌≡◌, ◌∙◌, [], Some, refl, ap, subst}
use Rattle.std.specs.Prelude.{reverse}
use Rattle.stx_model.specs.Meanings.{Over}
use Rattle.stx_frames.specs.declared.frame.Frame.{Frame}
use Rattle.stx_machine.specs.declared.stage.Stage.{Stage}
use Rattle.stx_machine.specs.Machine.{later_calls, left_of, unwound, stack, state_before}
use Rattle.stx_machine.specs.Sound.{CallsRun, standing_of}
use Rattle.stx_steps.proofs.BodyLaws.{moves_from}
use Rattle.stx_steps.proofs.Coming.{comes_popped, popped_top}
use Rattle.stx_steps.proofs.RoundLaws.{goes_off, taken_off}
use Rattle.stx_machine.proofs.Standings.{bare_of}
use Rattle.stx_machine.proofs.Stacks.{nothing_left}
use Rattle.stx_steps.proofs.steps.go_on.Goals as goal

pub call_at-requires-clause-none : goal.call_at-requires-clause-none
call_at-requires-clause-none c = (nothing_left c.args.machine.now.frames.items c.pop.new.self.items c.pop.result c.in-None.is c.pop.ensures.items c.pop.ensures.value).1

pub returns-in-None-clause-goes : goal.returns-in-None-clause-goes
unfolding unwound
returns-in-None-clause-goes c pool store =
    let S = c.args.setup.now.scenario in
    let m = c.args.machine.now in
    let none : stack m.frames ≡ [] = ap reverse (nothing_left m.frames.items c.pop.new.self.items c.pop.result c.in-None.is c.pop.ensures.items c.pop.ensures.value).0 in
    ap (λ fs. later_calls S c.args.number m.top (unwound S fs (Over c.args.thrown (state_before m pool store)))) none ∙ c.call_at.ensures.goes pool store

pub returns-in-None-clause-moves : goal.returns-in-None-clause-moves
returns-in-None-clause-moves c =
    let m = c.args.machine.now in
    let left = left_of (Stage.Over c.args.thrown) (stack m.frames) in
    moves_from left m (record m { frames = c.pop.new.self }) c.call_at.new.self refl (c.call_at.ensures.moves left)

pub call_at-requires-clause-bare : goal.call_at-requires-clause-bare
call_at-requires-clause-bare c =
    let S = c.args.setup.now.scenario in
    let m = c.args.machine.now in
    let none : stack m.frames ≡ [] = ap reverse (nothing_left m.frames.items c.pop.new.self.items c.pop.result c.in-None.is c.pop.ensures.items c.pop.ensures.value).0 in
    bare_of m.context (subst (CallsRun S (standing_of m.context)) none c.requires.within.calls)

pub returns-in-Some-Body-clause-goes : goal.returns-in-Some-Body-clause-goes
returns-in-Some-Body-clause-goes c =
    let w = c.in-Some-Body in
    let call = Frame.Body w.method w.place w.catch w.scope in
    comes_popped c.args.setup.now.scenario c.args.machine.now c.go_on_body.new.machine (Over c.args.thrown) c.pop.new.self call
    (popped_top c.args.machine.now.frames c.pop.new.self c.pop.result call (w.is ∙ ap Some w.field-0-is) c.pop.ensures.items) c.go_on_body.ensures.goes c.args.number

pub returns-in-Some-Body-clause-moves : goal.returns-in-Some-Body-clause-moves
returns-in-Some-Body-clause-moves c =
    let m = c.args.machine.now in
    let left = left_of (Stage.Over c.args.thrown) (stack m.frames) in
    moves_from left m (record m { frames = c.pop.new.self }) c.go_on_body.new.machine refl (c.go_on_body.ensures.moves left)

pub go_on_round-requires-clause-telling : goal.go_on_round-requires-clause-telling
go_on_round-requires-clause-telling c =
    let w = c.in-Some-Round in
    taken_off c.args.setup.now.scenario c.args.machine.now c.take_round-telling.new.machine c.pop.new.self c.take_round-telling.result w.field-0-0 w.todo w.at w.place w.field-0-4
    (popped_top c.args.machine.now.frames c.pop.new.self c.pop.result _ (w.is ∙ ap Some w.field-0-is) c.pop.ensures.items) c.take_round-telling.ensures c.requires.within

pub returns-in-Some-Round-clause-goes : goal.returns-in-Some-Round-clause-goes
returns-in-Some-Round-clause-goes c =
    let w = c.in-Some-Round in
    let top = popped_top c.args.machine.now.frames c.pop.new.self c.pop.result _ (w.is ∙ ap Some w.field-0-is) c.pop.ensures.items in
    goes_off c.args.setup.now.scenario c.args.machine.now c.take_round-telling.new.machine c.pop.new.self c.take_round-telling.result w.field-0-0 w.todo w.at w.place w.field-0-4 top
    c.take_round-telling.ensures c.go_on_round.new.machine c.args.thrown c.go_on_round.ensures.goes c.args.number

pub returns-in-Some-Now-clause-goes : goal.returns-in-Some-Now-clause-goes
returns-in-Some-Now-clause-goes c =
    let w = c.in-Some-Now in
    comes_popped c.args.setup.now.scenario c.args.machine.now c.go_on_listener.new.machine (Over c.args.thrown) c.pop.new.self (Frame.Now w.listener w.place)
    (popped_top c.args.machine.now.frames c.pop.new.self c.pop.result _ (w.is ∙ ap Some w.field-0-is) c.pop.ensures.items) c.go_on_listener.ensures.goes c.args.number
