-- The rules so far are copied.
use Rattle.std.proofs.Common.{◌≡◌, take}
use Rattle.stx_scenario.proofs.copies.copy_of_rules.Given as goal

abbrev pub invariant-loop-rule : goal.invariant-loop-rule
invariant-loop-rule l = l.copies ≡ take l.rule-index l.rules
