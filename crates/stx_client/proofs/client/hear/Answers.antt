-- A note is heard, and all that is done at once after it; where memory ran out, a part of that.
use Rattle.std.proofs.Common.{◌≤◌, ◌∙◌, ◌++◌, length, sym, ap, subst}
use Rattle.stx_machine.specs.Sound.{held}
use Rattle.stx_client.proofs.ClientLaws.{goes_starts, heard_goes, on_err_within, stays_said, with_starts}
use Rattle.stx_client.specs.inner.Keeps.{GoesOn}
use Rattle.stx_client.proofs.client.hear.Goals as goal
use Rattle.stx_client.proofs.client.hear.Goals.{After-fall}

pub returns-in_err-reserve-clause-starts : goal.returns-in_err-reserve-clause-starts
returns-in_err-reserve-clause-starts c = with_starts c.args.setup.now.scenario c.args.number c.args.machine.now c.args.note

pub returns-in_err-reserve-2-clause-starts : goal.returns-in_err-reserve-2-clause-starts
returns-in_err-reserve-2-clause-starts c =
    let (more, is) = with_starts c.args.setup.now.scenario c.args.number c.args.machine.now c.args.note in
    (more, is ∙ ap (λ lines. lines ++ more) (sym c.reserve-2.ensures.said))

goes_on : (c : After-fall) → GoesOn c.args.setup.now.scenario c.args.number c.args.note c.args.machine.now c.fall.new.machine
goes_on c =
    heard_goes c.args.setup.now.scenario c.args.number c.args.note c.args.machine.now c.reserve-2.new.self c.hear.new.machine c.fall.new.machine
    c.reserve-2.ensures.said c.reserve-2.ensures.calls c.reserve-2.ensures.rest c.hear.ensures.goes c.fall.ensures.goes

pub returns-clause-starts : goal.returns-clause-starts
returns-clause-starts c = goes_starts c.args.setup.now.scenario c.args.number c.args.note c.args.machine.now c.fall.new.machine (goes_on c)

pub returns-clause-longer : goal.returns-clause-longer
returns-clause-longer c =
    stays_said c.args.setup.now.scenario c.args.number c.args.note c.args.machine.now c.fall.new.machine (held c.fall.new.machine.stage) c.fall.result (goes_on c)
    c.fall.ensures.sound c.fall.ensures.waits
    (on_err_within _ _ _ c.fall.result (subst (λ lines. length lines ≤ length c.hear.new.machine.lines.items) c.reserve-2.ensures.said c.hear.ensures.longer) c.fall.ensures.kept)
