-- The slots so far, and the backends still to come.
use Rattle.std.proofs.Common.{◌≡◌, ◌+◌, length}
use Rattle.stx_runner.specs.Driving.{IsFresh}
use Rattle.stx_runner.specs.inner.Lists.{EachFrom}
use Rattle.stx_runner.specs.inner.Slots.{IsSlotAt}
use Rattle.stx_runner.proofs.driving.slots_of.Given as goal

abbrev pub invariant-loop-backend : goal.invariant-loop-backend
invariant-loop-backend l =
    EachFrom (IsSlotAt l.setup.scenario l.cells) 0 l.slots.items
    × EachFrom (IsFresh l.cells) (length l.slots.items) l.backend-iterator.rest.items
    × (length l.slots.items + length l.backend-iterator.rest.items ≡ length l.setup.scenario.clients)
