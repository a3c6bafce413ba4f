-- Each note of the store, at the stage that wants it.
use Rattle.std.proofs.Common.{◌∙◌, refl, sym, ap, arith}
use Rattle.stx_base.specs.declared.history.Note.{Note}
use Rattle.stx_context.specs.Carrying.{context_of}
use Rattle.stx_machine.specs.declared.machine.Machine.{Machine}
use Rattle.stx_machine.specs.declared.stage.Stage.{Stage}
use Rattle.stx_machine.specs.Machine.{of_top, stack, state_with, onward}
use Rattle.stx_machine.specs.Sound.{standing_of}
use Rattle.stx_steps.proofs.Hearing.{hears_store, heard_access, heard_auto, heard_begin, heard_commit, heard_point, heard_release, heard_return, heard_rollback, sound_at}
use Rattle.stx_machine.proofs.Standings.{points_before}
use Rattle.stx_steps.proofs.answers.hear_store.Goals as goal

pub returns-in-Accessing-Access-clause-goes : goal.returns-in-Accessing-Access-clause-goes
returns-in-Accessing-Access-clause-goes c =
    let w = c.in-Accessing-Access in
    hears_store c.answer.new.self c.requires.heard.sound w.is-0 w.is-1 c.requires.heard.answers (heard_access w.place _ w.then _ _ w.answer) (c.answer.ensures.goes c.args.setup.now.scenario)

pub returns-in-Accessing-Auto-clause-goes : goal.returns-in-Accessing-Auto-clause-goes
returns-in-Accessing-Auto-clause-goes c =
    let w = c.in-Accessing-Auto in
    hears_store c.answer-in-Accessing-Auto.new.self c.requires.heard.sound w.is-0 w.is-1 c.requires.heard.answers (heard_auto w.place _ w.then _ w.answer)
    (c.answer-in-Accessing-Auto.ensures.goes c.args.setup.now.scenario)

pub returns-in-Beginning-Begin-clause-goes : goal.returns-in-Beginning-Begin-clause-goes
returns-in-Beginning-Begin-clause-goes c =
    let w = c.in-Beginning-Begin in
    hears_store c.begin.new.machine c.requires.heard.sound w.is-0 w.is-1 c.requires.heard.answers (heard_begin w.connection w.tx) c.begin.ensures.goes

pub returns-in-Pointing-Point-clause-goes : goal.returns-in-Pointing-Point-clause-goes
returns-in-Pointing-Point-clause-goes c =
    let w = c.in-Pointing-Point in
    let points = (sound_at w.is-0 (ap Note.Store w.is-1) c.requires.heard.sound).stage in
    hears_store c.start_point.new.machine c.requires.heard.sound w.is-0 w.is-1 c.requires.heard.answers (heard_point _ _) (c.start_point.ensures.goes c.args.setup.now.scenario points)

-- there is room for one savepoint more
pub start_point-requires-clause-few : goal.start_point-requires-clause-few
start_point-requires-clause-few c =
    let m = c.args.machine.now in
    let points = (sound_at c.in-Pointing-Point.is-0 (ap Note.Store c.in-Pointing-Point.is-1) c.requires.heard.sound).stage in
    let low = points_before c.args.setup.now.scenario (standing_of m.context) (stack m.frames) points in omega (arith, low)

pub returns-in-Pointing-Point-clause-sound : goal.returns-in-Pointing-Point-clause-sound
returns-in-Pointing-Point-clause-sound c =
    let sound = sound_at c.in-Pointing-Point.is-0 (ap Note.Store c.in-Pointing-Point.is-1) c.requires.heard.sound in
    c.start_point.ensures.sound c.args.setup.now.scenario sound.stage sound.top sound.holds

pub returns-in-GoingBack-BackTo-clause-goes : goal.returns-in-GoingBack-BackTo-clause-goes
returns-in-GoingBack-BackTo-clause-goes c =
    let S = c.args.setup.now.scenario in
    let m = c.args.machine.now in
    let w = c.in-GoingBack-BackTo in
    let cleared = c.clear_mark.new.self in
    hears_store (record cleared { stage = Stage.Completing }) c.requires.heard.sound w.is-0 w.is-1 c.requires.heard.answers (heard_return _ _)
    (λ n pool store. ap (λ x. onward S n m (of_top S (stack m.frames) Stage.Completing (state_with m x pool store))) (sym c.clear_mark.ensures.context)
    ∙ ap (λ (z : Machine). onward S n z (of_top S (stack z.frames) Stage.Completing (state_with z (context_of cleared.context) pool store))) (sym c.clear_mark.ensures.rest))

pub returns-in-Releasing-Release-clause-goes : goal.returns-in-Releasing-Release-clause-goes
returns-in-Releasing-Release-clause-goes c =
    let w = c.in-Releasing-Release in
    hears_store (record (c.args.machine.now) { stage = Stage.Completing }) c.requires.heard.sound w.is-0 w.is-1 c.requires.heard.answers (heard_release _ _) (λ n pool store. refl)

pub returns-in-Committing-Commit-clause-goes : goal.returns-in-Committing-Commit-clause-goes
returns-in-Committing-Commit-clause-goes c =
    let w = c.in-Committing-Commit in
    hears_store (record (c.args.machine.now) { stage = Stage.Completing }) c.requires.heard.sound w.is-0 w.is-1 c.requires.heard.answers (heard_commit _ _ _) (λ n pool store. refl)

pub returns-in-RollingBack-Rollback-clause-goes : goal.returns-in-RollingBack-Rollback-clause-goes
returns-in-RollingBack-Rollback-clause-goes c =
    let w = c.in-RollingBack-Rollback in
    hears_store (record (c.args.machine.now) { stage = Stage.Completing }) c.requires.heard.sound w.is-0 w.is-1 c.requires.heard.answers (heard_rollback _ _) (λ n pool store. refl)
