use Rattle.std.proofs.Common.{◌≡◌, length, fold, take}
use Rattle.stx_graph.specs.inner.Rows.{with_called}
use Rattle.stx_graph.proofs.rows.add_called.Given as goal

abbrev pub invariant-loop-statement : goal.invariant-loop-statement
invariant-loop-statement l = record {
  bound : length l.set.has.items ≡ length l.fn.set.has.items;
  order : l.set.order.items ≡ fold with_called l.fn.set.order.items (take l.statement-index l.body);
}
