-- The text so far is that of the methods so far.
use Rattle.std.proofs.Common.{◌≡◌}
use Rattle.stx_base.specs.RulesText.{method_decisions, method_numbered}
use Rattle.stx_report.proofs.RulesLaws.{all_below}
use Rattle.stx_report.proofs.rules.rules_text.Given as goal

abbrev pub invariant-loop-method : goal.invariant-loop-method
invariant-loop-method l = l.out.items ≡ all_below (λ n. method_decisions l.scenario (method_numbered n)) l.method
