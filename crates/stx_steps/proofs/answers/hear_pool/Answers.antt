-- Each note of the pool, at the stage that wants it.
use Rattle.std.proofs.Common.{refl, ap, arith}
use Rattle.stx_scenario.specs.declared.classes.TheConstants.{CANNOT_GET_JDBC_CONNECTION_EXCEPTION}
use Rattle.stx_base.specs.declared.history.Note.{Note}
use Rattle.stx_machine.specs.declared.stage.Place.{Place}
use Rattle.stx_machine.specs.declared.stage.Stage.{Stage}
use Rattle.stx_steps.proofs.Hearing.{hears_pool, heard_back, heard_connection, heard_empty, heard_given, heard_no_connection, heard_taken, sound_at}
use Rattle.stx_machine.proofs.Places.{built_in_known}
use Rattle.stx_steps.proofs.answers.hear_pool.Goals as goal

pub returns-in-Connecting-Taken-clause-goes : goal.returns-in-Connecting-Taken-clause-goes
returns-in-Connecting-Taken-clause-goes c =
    let w = c.in-Connecting-Taken in
    hears_pool (record (c.args.machine.now) { stage = Stage.Accessing (Place.Connection w.connection) w.access w.then }) c.requires.heard.sound w.is-0 w.is-1 c.requires.heard.answers
    (heard_connection w.access w.then w.connection) (λ n pool store. refl)

pub returns-in-Connecting-Empty-clause-goes : goal.returns-in-Connecting-Empty-clause-goes
returns-in-Connecting-Empty-clause-goes c =
    let w = c.in-Connecting-Empty in
    hears_pool c.throw.new.self c.requires.heard.sound w.is-0 w.is-1 c.requires.heard.answers (heard_no_connection w.access-0 w.then-0) (c.throw.ensures.goes c.args.setup.now.scenario)

pub returns-in-Connecting-Empty-clause-sound : goal.returns-in-Connecting-Empty-clause-sound
returns-in-Connecting-Empty-clause-sound c =
    let S = c.args.setup.now.scenario in
    let sound = sound_at c.in-Connecting-Empty.is-0 (ap Note.Pool c.in-Connecting-Empty.is-1) c.requires.heard.sound in
    c.throw.ensures.sound S (built_in_known S CANNOT_GET_JDBC_CONNECTION_EXCEPTION c.requires.heard.playable (omega arith))
    (record { calls = sound.stage; top = sound.top; holds = sound.holds })

pub returns-in-Returning-Given-clause-goes : goal.returns-in-Returning-Given-clause-goes
returns-in-Returning-Given-clause-goes c =
    let w = c.in-Returning-Given in
    hears_pool c.conclude.new.self c.requires.heard.sound w.is-0 w.is-1 c.requires.heard.answers (heard_given _ _ w.thrown) (c.conclude.ensures.goes c.args.setup.now.scenario)

pub returns-in-Taking-Taken-clause-goes : goal.returns-in-Taking-Taken-clause-goes
returns-in-Taking-Taken-clause-goes c =
    let w = c.in-Taking-Taken in
    hears_pool (record (c.args.machine.now) { stage = Stage.Beginning w.connection }) c.requires.heard.sound w.is-0 w.is-1 c.requires.heard.answers (heard_taken w.connection) (λ n pool store. refl)

pub returns-in-Taking-Empty-clause-goes : goal.returns-in-Taking-Empty-clause-goes
returns-in-Taking-Empty-clause-goes c =
    let w = c.in-Taking-Empty in
    let opens = (sound_at w.is-0 (ap Note.Pool w.is-1) c.requires.heard.sound).stage.1 in
    hears_pool c.give_up_opening.new.machine c.requires.heard.sound w.is-0 w.is-1 c.requires.heard.answers heard_empty (c.give_up_opening.ensures.goes c.args.setup.now.scenario opens)

pub returns-in-Taking-Empty-clause-sound : goal.returns-in-Taking-Empty-clause-sound
returns-in-Taking-Empty-clause-sound c =
    c.give_up_opening.ensures.sound c.args.setup.now.scenario (sound_at c.in-Taking-Empty.is-0 (ap Note.Pool c.in-Taking-Empty.is-1) c.requires.heard.sound).stage.1

pub returns-in-GivingBack-Given-clause-goes : goal.returns-in-GivingBack-Given-clause-goes
returns-in-GivingBack-Given-clause-goes c =
    let w = c.in-GivingBack-Given in
    hears_pool (record (c.args.machine.now) { stage = Stage.Completing }) c.requires.heard.sound w.is-0 w.is-1 c.requires.heard.answers (heard_back w.field-0-0 w.field-0-1) (λ n pool store. refl)
