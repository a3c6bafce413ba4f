-- A line is said, or nothing is done at once any more, or less is left.
use Rattle.std.proofs.Common.{sym, subst}
use Rattle.stx_machine.specs.Machine.{left}
use Rattle.stx_machine.specs.Sound.{IsSound, held}
use Rattle.stx_steps.proofs.steps.step.Goals as goal

pub returns-in-Opening-clause-moves : goal.returns-in-Opening-clause-moves
returns-in-Opening-clause-moves c = c.open.ensures.moves (left c.args.machine.now)

pub returns-in-Rounding-clause-sound : goal.returns-in-Rounding-clause-sound
returns-in-Rounding-clause-sound c =
    let S = c.args.setup.now.scenario in
    let m = c.args.machine.now in
    let here = subst (λ s. IsSound S (record m { stage = s }) (held s)) c.in-Rounding.is c.requires.sound in
    subst (IsSound S c.tell.new.machine) (sym c.tell.ensures.held) (c.tell.ensures.sound S here.stage c.requires.few here.top here.holds)
