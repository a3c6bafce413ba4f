use Rattle.std.proofs.Common.{◌≡◌, ◌+◌, max, fold, take}
use Rattle.stx_graph.specs.inner.Rounds.{rank_at}
use Rattle.stx_graph.proofs.ranks.rank_above.Given as goal

abbrev pub invariant-loop-method : goal.invariant-loop-method
invariant-loop-method l = l.rank ≡ fold (λ rank m. max rank (rank_at l.ranks m + 1)) 0 (take l.method-index l.row)
