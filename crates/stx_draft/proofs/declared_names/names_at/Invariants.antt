-- The names of the tables so far.
use Rattle.std.proofs.Common.{◌≡◌, map, take, codes}
use Rattle.toml.specs.View.{table_view}
use Rattle.stx_draft.specs.Parts.{text_at}
use Rattle.stx_draft.proofs.declared_names.names_at.Given as goal

abbrev pub invariant-loop-table : goal.invariant-loop-table
invariant-loop-table l = l.names ≡ map (λ table. text_at (codes "name") (table_view table.now)) (take l.table-index l.table-items)
