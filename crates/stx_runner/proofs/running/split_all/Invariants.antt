-- The backends so far, and how many seats were split off.
use Rattle.std.proofs.Common.{◌≡◌, length}
use Rattle.stx_runner.specs.Driving.{IsFresh}
use Rattle.stx_runner.specs.inner.Lists.{EachFrom}
use Rattle.stx_runner.specs.inner.Seats.{HaveSplit}
use Rattle.stx_runner.proofs.running.split_all.Given as goal

abbrev pub invariant-loop-number : goal.invariant-loop-number
invariant-loop-number l =
    HaveSplit l.cells l.number l.first
    × EachFrom (IsFresh l.cells) 0 l.backends
    × (length l.backends ≡ l.number)
