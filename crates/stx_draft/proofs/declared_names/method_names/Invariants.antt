-- The texts of the methods so far.
use Rattle.std.proofs.Common.{◌≡◌, map, take}
use Rattle.toml.specs.View.{table_view}
use Rattle.stx_draft.specs.DeclaredNames.{text_of_method}
use Rattle.stx_draft.proofs.declared_names.method_names.Given as goal

abbrev pub invariant-loop-table : goal.invariant-loop-table
invariant-loop-table l = l.names ≡ map (λ table. text_of_method (table_view table.now)) (take l.table-index l.table-items)
