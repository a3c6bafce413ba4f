-- The values of the rows so far.
use Rattle.std.proofs.Common.{◌≡◌, map, take, codes, pos}
use Rattle.toml.specs.View.{table_view}
use Rattle.stx_draft.specs.Parts.{number_at}
use Rattle.stx_draft.proofs.draft.values_in.Given as goal

abbrev pub invariant-loop-row : goal.invariant-loop-row
invariant-loop-row l = l.values ≡ map (λ row. number_at (codes "value") (pos 0) (table_view row.now)) (take l.row-index l.row-items)
