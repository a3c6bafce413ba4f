-- The lines of the clients so far.
use Rattle.std.proofs.Common.{◌≡◌, ◌++◌, map}
use Rattle.stx_client.specs.View.{lines_of_script}
use Rattle.stx_play.specs.inner.Turning.{EachEnded}
use Rattle.stx_play.proofs.played.lines_of.Given as goal

abbrev pub invariant-loop-client : goal.invariant-loop-client
invariant-loop-client l =
    (l.lines ≡ map lines_of_script l.yielded)
    × (l.yielded ++ l.client-iterator.rest.items ≡ l.fn.clients.items)
    × EachEnded l.client-iterator.rest.items
