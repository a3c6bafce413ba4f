use Rattle.std.proofs.Common.{ℕ, ◌<◌, ◌≤◌, get_or}
use Rattle.stx_graph.proofs.ranks.levels.Given as goal

abbrev pub invariant-loop-rank : goal.invariant-loop-rank
invariant-loop-rank l = (l.levels ≤ 65) × ((k : ℕ) → k < l.rank-index → get_or l.ranks k 0 < l.levels)
