-- Ranks by rounds.
use Rattle.std.specs.Prelude.{◌≡◌, ℕ, ◌<◌, List, length, map, slice_index_or}
use Rattle.stx_scenario.specs.declared.numbers.MethodNo.{MethodNo}
use Rattle.stx_base.specs.Weight.{above, longest}
use Rattle.stx_graph.specs.inner.Rows.{next_in}

-- the number that stands for a method in a list
abbrev pub rank_at : List ℕ → MethodNo → ℕ
rank_at ranks m = slice_index_or ranks m.0 0

-- one round more: each method stands one above the greatest to which it leads
abbrev pub raised : List ℕ → List MethodNo → ℕ
raised ranks row = above (map (rank_at ranks) row)

-- the longest ways with at most this many steps
pub record AreLongest (rows : List (List MethodNo)) (steps : ℕ) (ranks : List ℕ) : Type 0 where
  pub count : length ranks ≡ length rows
  pub ways : (m : MethodNo) → m.0 < length rows → rank_at ranks m ≡ longest (next_in rows) steps m
