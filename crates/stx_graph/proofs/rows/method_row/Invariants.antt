use Rattle.std.proofs.Common.{◌≡◌, [], length, fold, take}
use Rattle.stx_graph.specs.inner.Rows.{with_led}
use Rattle.stx_graph.proofs.rows.method_row.Given as goal

abbrev pub invariant-loop-statement : goal.invariant-loop-statement
invariant-loop-statement l = record {
  bound : length l.set.has.items ≡ l.fn.bound;
  order : l.set.order.items ≡ fold (with_led l.events l.syncs) [] (take l.statement-index l.body);
}
