-- The clients so far.
use Rattle.std.proofs.Common.{◌≡◌, map}
use Rattle.std.specs.List.{range_with_len}
use Rattle.stx_client.specs.View.{new_client}
use Rattle.stx_play.specs.inner.Turning.{HaveReadNothing}
use Rattle.stx_play.proofs.played.clients_of.Given as goal

abbrev pub invariant-loop-number : goal.invariant-loop-number
invariant-loop-number l =
    (l.clients.items ≡ map (new_client l.setup.scenario) (range_with_len 0 l.number))
    × HaveReadNothing l.setup.scenario l.number
