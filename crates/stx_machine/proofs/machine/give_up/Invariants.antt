-- Each frame that is taken off leaves one fewer.
use Rattle.std.proofs.Common.{length}
use Rattle.stx_machine.proofs.machine.give_up.Given as goal

abbrev pub decreases-loop-frame : goal.decreases-loop-frame
decreases-loop-frame l = length l.frames.items
