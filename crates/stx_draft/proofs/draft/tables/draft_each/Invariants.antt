-- What was there, and what the tables so far state.
use Rattle.std.proofs.Common.{◌≡◌, ◌++◌, map, take}
use Rattle.toml.specs.View.{table_view}
use Rattle.stx_draft.proofs.draft.tables.draft_each.Given as goal

abbrev pub invariant-loop-table : goal.invariant-loop-table
invariant-loop-table g l =
    l.all ≡ l.initial.all ++ map (λ table. g.T.Drafted.stated l.names (table_view table.now)) (take l.table-index l.tables)
