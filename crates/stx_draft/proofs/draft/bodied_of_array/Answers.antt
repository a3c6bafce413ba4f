-- One table more, and all of them.
use Rattle.std.proofs.Common.{map, take}
use Rattle.toml.specs.View.{table_view}
use Rattle.stx_draft.proofs.GrowthLaws.{seen_more, table_more}
use Rattle.stx_draft.proofs.draft.bodied_of_array.Goals as goal

pub loop-table-preserved : goal.loop-table-preserved
loop-table-preserved g c =
    rw (seen_more (λ table. table_view table.now) c.as_slice-table-items.result.now c.loop-table.table-index c.table-item.result _ c.loop-table-test.true c.table-item.is, c.in_ok-push.ensures.ok)
    (table_more g.T.Bodied.said g.T.Bodied.states c.args.names.now c.loop-table.names c.from_bodies.new.names
    (map (λ table. table_view table.now) (take c.loop-table.table-index c.as_slice-table-items.result.now)) (table_view c.table-item.result.now) c.loop-table.all c.in_ok-from_bodies.field-0
    c.loop-table.invariant c.in_ok-from_bodies.ensures.names c.in_ok-from_bodies.ensures.stated)
