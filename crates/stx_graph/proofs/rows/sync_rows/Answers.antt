use Rattle.std.proofs.Common.{length, subst, sym}
use Rattle.stx_base.specs.Weight.{SyncInRange}
use Rattle.stx_graph.proofs.RowLaws.{sync_pushed, item_keeps}
use Rattle.stx_graph.proofs.rows.sync_rows.Goals as goal

pub sync_row-requires : goal.sync_row-requires
sync_row-requires c =
    subst (λ bound. SyncInRange bound c.sync-item.result) (sym c.len.ensures)
    (item_keeps (SyncInRange (length c.args.scenario.now.methods)) c.as_slice-sync-items.result.now c.args.scenario.now.syncs _ _
    c.as_slice-sync-items.ensures c.loop-sync-test.true c.sync-item.is c.requires.syncs)

pub loop-sync-preserved : goal.loop-sync-preserved
loop-sync-preserved c =
    sync_pushed c.args.scenario.now c.loop-sync.sync-index c.len.result c.as_slice-sync-items.result.now c.sync-item.result c.loop-sync.rows _ _
    c.loop-sync.invariant c.as_slice-sync-items.ensures c.loop-sync-test.true c.sync-item.is c.len.ensures c.in_ok-sync_row.ensures.row
    c.in_ok-sync_row.ensures.range c.in_ok-push.ensures.ok
