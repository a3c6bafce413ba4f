use Rattle.springtx.proofs.ValidLaws.{in_order, only_memory}
use Rattle.springtx.proofs.answer.weight_of.Goals as goal

pub of-requires : goal.of-requires
of-requires c = (in_order c.args.scenario.now c.requires).range

pub unreachable-requires : goal.unreachable-requires
unreachable-requires c =
    only_memory c.args.scenario.now c.in-Err-CallCycle.field-0 (in_order c.args.scenario.now c.requires) c.in-Err-CallCycle.ensures.refused (λ same. cc)

pub unreachable-requires-in-Err-TooDeep : goal.unreachable-requires-in-Err-TooDeep
unreachable-requires-in-Err-TooDeep c =
    only_memory c.args.scenario.now c.in-Err-TooDeep.field-0 (in_order c.args.scenario.now c.requires) c.in-Err-TooDeep.ensures.refused (λ same. cc)

pub unreachable-requires-in-Err-TooLarge : goal.unreachable-requires-in-Err-TooLarge
unreachable-requires-in-Err-TooLarge c =
    only_memory c.args.scenario.now c.in-Err-TooLarge.field-0 (in_order c.args.scenario.now c.requires) c.in-Err-TooLarge.ensures.refused (λ same. cc)
