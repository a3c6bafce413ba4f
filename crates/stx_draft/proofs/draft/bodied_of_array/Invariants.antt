-- The rows that the tables so far name are there, and what these tables state lasts.
use Rattle.std.proofs.Common.{◌≡◌, map, take}
use Rattle.std.specs.List.{flat_map}
use Rattle.toml.specs.View.{table_view}
use Rattle.stx_draft.specs.inner.Growing.{grown, Lasts}
use Rattle.stx_draft.proofs.draft.bodied_of_array.Given as goal

abbrev pub invariant-loop-table : goal.invariant-loop-table
invariant-loop-table g l =
    (l.names ≡ grown l.initial.names (flat_map g.T.Bodied.said (map (λ table. table_view table.now) (take l.table-index l.table-items))))
    × Lasts (λ N. map (g.T.Bodied.states N) (map (λ table. table_view table.now) (take l.table-index l.table-items))) l.names l.all
