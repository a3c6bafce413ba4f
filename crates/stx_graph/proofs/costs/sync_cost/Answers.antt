use Rattle.std.proofs.Common.{◌∙◌, ◌++◌, ap}
use Rattle.stx_base.specs.Weight.{callbacks_cost}
use Rattle.stx_graph.specs.inner.Costs.{capped, cost_at}
use Rattle.stx_graph.proofs.CostLaws.{callbacks_more, nothing_plus}
use Rattle.stx_graph.proofs.costs.sync_cost.Goals as goal

pub returns : goal.returns
returns c =
    let of = cost_at c.args.methods.now in
    let sync = c.args.sync.now in
    let first = rw c.as_slice.ensures at c.callbacks_cost-sum.ensures in
    let second = rw c.as_slice-2.ensures at c.callbacks_cost-sum-2.ensures in
    let third = rw c.as_slice-3.ensures at c.callbacks_cost-sum-3.ensures in
    let fourth = rw c.as_slice-4.ensures at c.callbacks_cost.ensures in
    let one_body = first ∙ ap capped (nothing_plus (callbacks_cost of sync.before_commit)) in
    let two = callbacks_more of sync.before_commit sync.before_completion _ _ one_body second in
    let three = callbacks_more of (sync.before_commit ++ sync.before_completion) sync.after_commit _ _ two third in
    callbacks_more of (sync.before_commit ++ sync.before_completion ++ sync.after_commit) sync.after_completion _ _ three fourth
