-- The clients that have ended, and the slots still to come.
use Rattle.std.proofs.Common.{◌≡◌, ◌+◌, length}
use Rattle.stx_runner.specs.inner.Lists.{EachFrom, BothFrom}
use Rattle.stx_runner.specs.inner.Slots.{IsSlotAt, IsPlayedAt}
use Rattle.stx_runner.proofs.driving.end_all.Given as goal

abbrev pub invariant-loop-slot : goal.invariant-loop-slot
invariant-loop-slot g l =
    BothFrom (IsPlayedAt l.setup.scenario l.cells) 0 l.lines l.backends
    × EachFrom (IsSlotAt l.setup.scenario l.cells) (length l.lines) l.slot-iterator.rest.items
    × (length l.lines + length l.slot-iterator.rest.items ≡ length l.setup.scenario.clients)
