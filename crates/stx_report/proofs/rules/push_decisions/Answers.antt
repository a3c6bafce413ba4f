-- One class more, and none left.
use Rattle.std.proofs.Common.{◌++◌, ◌∙◌, ap}
use Rattle.stx_base.specs.RulesText.{decision_text, class_numbered}
use Rattle.stx_report.proofs.RulesLaws.{below_more, line_is}
use Rattle.stx_report.proofs.rules.push_decisions.Goals as goal

pub loop-class-preserved : goal.loop-class-preserved
loop-class-preserved c =
    let scenario = c.args.scenario.now in
    let attribute = c.args.attribute.now in
    let line = line_is scenario c.args.method attribute (class_numbered c.loop-class.class) _ _ _ _
    (c.as_str.ensures.value ∙ c.in_ok-name.ensures)
    c.class_name.ensures
    c.decide-decision.ensures.rollback
    c.decide-decision.ensures.winner in
    below_more (λ n. decision_text scenario c.args.method attribute (class_numbered n)) c.loop-class.class c.args.out.now.items c.loop-class.out.items _
    c.loop-class.invariant
    (c.in_ok-push_text.ensures.ok ∙ ap (λ text. c.loop-class.out.items ++ text) (c.as_str-in-loop-class.ensures.value ∙ c.in_ok-text.ensures ∙ line))
