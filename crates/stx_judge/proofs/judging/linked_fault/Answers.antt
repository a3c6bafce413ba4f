use Rattle.std.proofs.Common.{◌∙◌, sym}
use Rattle.stx_judge.proofs.OrderLaws.{accepted_callbacks, accepted_range}
use Rattle.stx_judge.proofs.JudgeLaws.{refused_class, refused_callback, refused_call, tree_accepted}
use Rattle.stx_judge.proofs.judging.linked_fault.Goals as goal

pub returns-in-Err : goal.returns-in-Err
returns-in-Err c =
    let class = rw c.in-Err.is at c.in_ok-tree.ensures in
    sym (refused_class c.args.scenario.now _ class)

pub returns-in-Some : goal.returns-in-Some
returns-in-Some c =
    let tree = rw c.in-Ok.is at c.in_ok-tree.ensures in
    sym (refused_callback c.args.scenario.now _ (tree_accepted c.args.scenario.now tree.1) (sym c.in_ok-fault.ensures ∙ c.in-Some.is))

pub call_fault-requires : goal.call_fault-requires
call_fault-requires c = accepted_range c.args.scenario.now c.requires.order (accepted_callbacks c.args.scenario.now (sym c.in_ok-fault.ensures ∙ c.in_default.is))

pub returns : goal.returns
returns c =
    let S = c.args.scenario.now in
    let tree = rw c.in-Ok.is at c.in_ok-tree.ensures in
    refused_call S _ (tree_accepted S tree.1) (sym c.in_ok-fault.ensures ∙ c.in_default.is) c.in_ok-fault-2.ensures
