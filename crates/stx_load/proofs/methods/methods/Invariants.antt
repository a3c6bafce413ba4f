-- The payments so far, each from the state after three draws more.
use Rattle.std.proofs.Common.{◌≡◌, ◌*◌, map}
use Rattle.std.specs.List.{range_with_len}
use Rattle.stx_load.specs.Draws.{after}
use Rattle.stx_load.specs.Generated.{payment, payment_method}
use Rattle.stx_load.proofs.methods.methods.Given as goal

abbrev pub invariant-loop-number : goal.invariant-loop-number
invariant-loop-number l =
    (l.methods ≡ map (λ t. payment_method t (payment (after l.fn.draws.state (3 * t)))) (range_with_len 0 l.number))
    × (l.draws.state ≡ after l.fn.draws.state (3 * l.number))
