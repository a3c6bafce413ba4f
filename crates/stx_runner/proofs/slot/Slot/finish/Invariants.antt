-- The slot stays the client's, and has fewer calls left each time.
use Rattle.stx_runner.specs.inner.Slots.{Keeps, calls_left}
use Rattle.stx_runner.proofs.slot.Slot.finish.Given as goal

abbrev pub invariant-loop-alloc : goal.invariant-loop-alloc
invariant-loop-alloc g l = Keeps l.fn.self l.self

abbrev pub decreases-loop-alloc : goal.decreases-loop-alloc
decreases-loop-alloc g l = calls_left l.self
