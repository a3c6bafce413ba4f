use Rattle.std.proofs.Common.{◌≡◌, length, fold, take}
use Rattle.stx_graph.specs.inner.Rows.{with_method}
use Rattle.stx_graph.proofs.method_set.MethodSet.add_all.Given as goal

abbrev pub invariant-loop-method : goal.invariant-loop-method
invariant-loop-method l = record {
  bound : length l.self.has.items ≡ length l.fn.self.has.items;
  order : l.self.order.items ≡ fold with_method l.fn.self.order.items (take l.method-index l.methods);
}
