use Rattle.springtx.proofs.ValidLaws.{in_order, few_rules}
use Rattle.springtx.proofs.answer.decided.Goals as goal

pub new-requires-clause-tree : goal.new-requires-clause-tree
new-requires-clause-tree c = (in_order c.args.scenario c.requires).tree

pub rules_text-requires-clause-few_rules : goal.rules_text-requires-clause-few_rules
rules_text-requires-clause-few_rules c =
    few_rules c.args.scenario c.in_ok-setup.setup.scenario c.in_ok-setup.ensures (in_order c.args.scenario c.requires)
