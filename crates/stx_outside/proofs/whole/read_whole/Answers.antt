-- Where a piece goes past the limit, or finds no memory, it was read after all that came before it.
use Rattle.std.proofs.Common.{◌≡◌, length, take, arith, length-take-le}
use Rattle.stx_outside.proofs.Pieces.{LosesMore-piece, LosesWithin-piece}
use Rattle.stx_outside.proofs.whole.read_whole.Goals as goal

pub returns-then-count-limit-clause-too_long : goal.returns-then-count-limit-clause-too_long
returns-then-count-limit-clause-too_long g c =
    let piece-length : length (take c.in_ok-count.count c.read.new.into) ≡ c.in_ok-count.count = length-take-le _ _ c.in_ok-count.ensures.bytes.bound in
    λ _. LosesMore-piece c.args.limit
    (g.S.Source.left c.args.source.now) (g.S.Source.left c.pieces.source) (g.S.Source.left c.read.new.self)
    c.pieces.all.items (take c.in_ok-count.count c.read.new.into)
    c.pieces.invariant.front c.in_ok-count.ensures.bytes.front (omega arith)

pub returns-in_err-map_err-clause-no_longer : goal.returns-in_err-map_err-clause-no_longer
returns-in_err-map_err-clause-no_longer g c =
    let piece-length : length (take c.in_ok-count.count c.read.new.into) ≡ c.in_ok-count.count = length-take-le _ _ c.in_ok-count.ensures.bytes.bound in
    λ _. LosesWithin-piece c.args.limit
    (g.S.Source.left c.args.source.now) (g.S.Source.left c.pieces.source) (g.S.Source.left c.read.new.self)
    c.pieces.all.items (take c.in_ok-count.count c.read.new.into)
    c.pieces.invariant.front c.in_ok-count.ensures.bytes.front (omega arith)
