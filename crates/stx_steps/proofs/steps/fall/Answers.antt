-- A line was said, or nothing is done at once any more.
use Rattle.std.proofs.Common.{sym, ◌∙◌}
use Rattle.stx_steps.proofs.Falling.{falls_by_lines}
use Rattle.stx_steps.proofs.steps.fall.Goals as goal

pub loop-alloc-smaller : goal.loop-alloc-smaller
loop-alloc-smaller c =
    falls_by_lines c.args.setup.now.scenario c.args.number c.loop-alloc.machine c.fall_to_line.new.machine (sym c.falls.ensures ∙ c.loop-alloc-test.true)
    c.fall_to_line.ensures.goes c.in_ok-fall_to_line.ensures.longer
