-- The places that were handed out so far are those among the makers so far.
use Rattle.std.proofs.Common.{take}
use Rattle.stx_report.specs.inner.Places.{AreHandedOut}
use Rattle.stx_report.proofs.places.handed_out.Given as goal

abbrev pub invariant-loop-index : goal.invariant-loop-index
invariant-loop-index l = AreHandedOut (take l.index l.makers) l.clients l.places.items
