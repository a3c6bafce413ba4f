-- One method more, and none left.
use Rattle.std.proofs.Common.{[], arith}
use Rattle.stx_base.specs.RulesText.{method_decisions, method_numbered}
use Rattle.stx_report.proofs.RulesLaws.{below_more, all_methods}
use Rattle.stx_report.proofs.rules.rules_text.Goals as goal

pub push_method-requires-clause-few_rules : goal.push_method-requires-clause-few_rules
push_method-requires-clause-few_rules c = c.requires.few_rules (method_numbered c.loop-method.method)

pub loop-method-preserved : goal.loop-method-preserved
loop-method-preserved c =
    below_more (λ n. method_decisions c.args.scenario.now (method_numbered n)) c.loop-method.method [] c.loop-method.out.items _
    c.loop-method.invariant c.in_ok-push_method.ensures

pub returns : goal.returns
returns c =
    all_methods c.args.scenario.now c.loop-method.method c.loop-method.out.items _ (omega arith) c.loop-method.invariant c.in_ok-push_text.ensures.ok
