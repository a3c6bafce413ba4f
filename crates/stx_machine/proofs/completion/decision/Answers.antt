-- A method's rules are few.
use Rattle.std.proofs.Common.{arith}
use Rattle.stx_machine.proofs.Places.{few_rules_of}
use Rattle.stx_machine.proofs.completion.decision.Goals as goal

pub decide-requires-clause-few_rules : goal.decide-requires-clause-few_rules
decide-requires-clause-few_rules c =
    let few = few_rules_of c.args.setup.now.scenario c.args.method c.requires.playable in rw c.attribute_of.ensures (omega (arith, few))
