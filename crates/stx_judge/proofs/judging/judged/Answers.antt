-- The groups of stages one after the other.
use Rattle.std.proofs.Common.{◌∙◌, sym}
use Rattle.stx_judge.proofs.OrderLaws.{accepted_places}
use Rattle.stx_judge.proofs.JudgeLaws.{judged_groups}
use Rattle.stx_judge.proofs.judging.judged.Goals as goal

pub or_linked_fault-requires-clause-order : goal.or_linked_fault-requires-clause-order
or_linked_fault-requires-clause-order c = λ none. accepted_places c.args.scenario.now (sym c.in_ok-fault.ensures ∙ none)

pub returns : goal.returns
returns c = rw (judged_groups c.args.scenario.now) (rw c.in_ok-fault.ensures at c.or_linked_fault.ensures)
