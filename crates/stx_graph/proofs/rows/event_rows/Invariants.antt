use Rattle.std.proofs.Common.{length}
use Rattle.stx_graph.specs.inner.Rows.{AreRows, event_calls}
use Rattle.stx_graph.proofs.rows.event_rows.Given as goal

abbrev pub invariant-loop-event : goal.invariant-loop-event
invariant-loop-event l = AreRows l.event (length l.scenario.methods) (event_calls l.scenario) l.rows
