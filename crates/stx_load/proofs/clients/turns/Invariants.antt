-- The turns so far, each a draw more.
use Rattle.std.proofs.Common.{◌≡◌, map}
use Rattle.std.specs.List.{range_with_len}
use Rattle.stx_load.specs.Draws.{after, draw}
use Rattle.stx_load.proofs.clients.turns.Given as goal

abbrev pub invariant-loop-turn : goal.invariant-loop-turn
invariant-loop-turn l =
    (l.turns ≡ map (λ n. draw (after l.fn.draws.state n) l.clients) (range_with_len 0 l._turn))
    × (l.draws.state ≡ after l.fn.draws.state l._turn)
