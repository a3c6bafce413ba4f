-- The groups of stages from the look-up of names on.
use Rattle.std.proofs.Common.{◌∙◌, sym}
use Rattle.stx_judge.proofs.OrderLaws.{quiet_places}
use Rattle.stx_judge.proofs.JudgeLaws.{looked_up_groups}
use Rattle.stx_judge.proofs.judging.looked_up_fault.Goals as goal

pub or_linked_fault-requires-clause-order : goal.or_linked_fault-requires-clause-order
or_linked_fault-requires-clause-order c = λ none. quiet_places c.args.scenario.now c.requires.places (sym c.in_ok-fault.ensures ∙ none)

pub returns : goal.returns
returns c = rw (looked_up_groups c.args.scenario.now) (rw c.in_ok-fault.ensures at c.or_linked_fault.ensures)
