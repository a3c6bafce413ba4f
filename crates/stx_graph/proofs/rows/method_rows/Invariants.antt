use Rattle.std.proofs.Common.{length}
use Rattle.stx_base.specs.Weight.{leads}
use Rattle.stx_graph.specs.inner.Rows.{AreRows}
use Rattle.stx_graph.proofs.rows.method_rows.Given as goal

abbrev pub invariant-loop-method : goal.invariant-loop-method
invariant-loop-method l = AreRows l.method-index (length l.scenario.methods) (λ n. leads l.scenario (record { 0 = n })) l.rows
