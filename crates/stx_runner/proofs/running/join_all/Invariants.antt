-- The seats taken in so far, and those still to come.
use Rattle.std.proofs.Common.{◌≡◌, ◌++◌}
use Rattle.std.specs.List.{All}
use Rattle.stx_runner.specs.inner.Seats.{HaveJoined, IsJoinable}
use Rattle.stx_runner.proofs.running.join_all.Given as goal

abbrev pub invariant-loop-backend : goal.invariant-loop-backend
invariant-loop-backend l =
    HaveJoined l.fn.first l.yielded l.first
    × (l.yielded ++ l.backend-iterator.rest.items ≡ l.fn.backends)
    × All (IsJoinable l.cells) l.backend-iterator.rest.items
