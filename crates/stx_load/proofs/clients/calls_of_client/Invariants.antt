-- The calls so far, each a draw more.
use Rattle.std.proofs.Common.{◌≡◌, map}
use Rattle.std.specs.List.{range_with_len}
use Rattle.stx_load.specs.Draws.{after, draw}
use Rattle.stx_load.specs.Generated.{method_no}
use Rattle.stx_load.proofs.clients.calls_of_client.Given as goal

abbrev pub invariant-loop-call : goal.invariant-loop-call
invariant-loop-call l =
    (l.calls ≡ map (λ n. method_no (draw (after l.fn.draws.state n) 64)) (range_with_len 0 l._call))
    × (l.draws.state ≡ after l.fn.draws.state l._call)
