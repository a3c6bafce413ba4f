-- What the entries so far gave.
use Rattle.std.proofs.Common.{◌≡◌, map, take}
use Rattle.std.specs.List.{filter_map}
use Rattle.toml.specs.Data.{as_table}
use Rattle.toml.specs.View.{view, table_view}
use Rattle.stx_draft.proofs.parts.tables_at.Given as goal

abbrev pub invariant-loop-value : goal.invariant-loop-value
invariant-loop-value l = map (λ inner. table_view inner.now) l.tables.items ≡ filter_map as_table (map view (take l.value-index l.value-items))
