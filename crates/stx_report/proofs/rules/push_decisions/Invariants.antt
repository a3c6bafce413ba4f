-- The text so far is that before, and then the lines of the classes so far.
use Rattle.std.proofs.Common.{◌≡◌, ◌++◌}
use Rattle.stx_base.specs.RulesText.{decision_text, class_numbered}
use Rattle.stx_report.proofs.RulesLaws.{all_below}
use Rattle.stx_report.proofs.rules.push_decisions.Given as goal

abbrev pub invariant-loop-class : goal.invariant-loop-class
invariant-loop-class l =
    l.out.items
    ≡ l.fn.out.items ++ all_below (λ n. decision_text l.scenario l.fn.method l.attribute (class_numbered n)) l.class
