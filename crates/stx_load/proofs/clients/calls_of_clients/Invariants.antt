-- The calls of the clients so far, each from the state after eight draws more.
use Rattle.std.proofs.Common.{◌≡◌, ◌*◌, map}
use Rattle.std.specs.List.{range_with_len}
use Rattle.stx_load.specs.Draws.{after}
use Rattle.stx_load.specs.Generated.{calls_from}
use Rattle.stx_load.proofs.clients.calls_of_clients.Given as goal

abbrev pub invariant-loop-client : goal.invariant-loop-client
invariant-loop-client l =
    (l.clients ≡ map (λ c. calls_from (after l.fn.draws.state (8 * c))) (range_with_len 0 l._client))
    × (l.draws.state ≡ after l.fn.draws.state (8 * l._client))
