use Rattle.std.proofs.Common.{length}
use Rattle.stx_graph.specs.inner.Rows.{AreRows, sync_calls}
use Rattle.stx_graph.proofs.rows.sync_rows.Given as goal

abbrev pub invariant-loop-sync : goal.invariant-loop-sync
invariant-loop-sync l = AreRows l.sync-index (length l.scenario.methods) (sync_calls l.scenario) l.rows
