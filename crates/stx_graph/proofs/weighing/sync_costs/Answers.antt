use Rattle.std.proofs.Common.{length, subst, sym}
use Rattle.stx_base.specs.Weight.{SyncInRange}
use Rattle.stx_graph.proofs.RowLaws.{item_keeps}
use Rattle.stx_graph.proofs.weighing.sync_costs.Goals as goal

pub sync_cost-requires : goal.sync_cost-requires
sync_cost-requires c =
    subst (λ bound. SyncInRange bound c.sync-item.result) (sym c.requires.count)
    (item_keeps (SyncInRange (length c.args.scenario.now.methods)) c.as_slice-sync-items.result.now c.args.scenario.now.syncs _ _
    c.as_slice-sync-items.ensures c.loop-sync-test.true c.sync-item.is c.requires.range.syncs)
