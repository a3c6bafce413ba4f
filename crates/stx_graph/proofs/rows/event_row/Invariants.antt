use Rattle.std.proofs.Common.{◌≡◌, [], length, fold, take}
use Rattle.stx_graph.specs.inner.Rows.{with_listener}
use Rattle.stx_graph.proofs.rows.event_row.Given as goal

abbrev pub invariant-loop-listener : goal.invariant-loop-listener
invariant-loop-listener l = record {
  bound : length l.set.has.items ≡ l.fn.bound;
  order : l.set.order.items ≡ fold (with_listener l.event) [] (take l.listener-index l.listeners);
}
