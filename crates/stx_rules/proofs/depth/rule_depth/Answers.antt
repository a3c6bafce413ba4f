use Rattle.std.proofs.Common.{length, sym, ◌∙◌}
use Rattle.stx_base.specs.Classes.{parents_of}
use Rattle.stx_base.specs.Rules.{matches}
use Rattle.stx_classes.proofs.StepLaws.{none_made, wanted_here, wanted_above, wanted_nowhere, walked_out}
use Rattle.stx_rules.proofs.DepthLaws.{within_map, past_map}
use Rattle.stx_rules.proofs.depth.rule_depth.Goals as goal

pub loop-steps-init : goal.loop-steps-init
loop-steps-init c =
    none_made (parents_of c.args.classes.now) (matches c.args.classes.now c.args.rule.now.by) (length (parents_of c.args.classes.now)) c.args.thrown.0

pub loop-steps-preserved : goal.loop-steps-preserved
loop-steps-preserved c =
    c.loop-steps.invariant
    ∙ wanted_above (parents_of c.args.classes.now) (matches c.args.classes.now c.args.rule.now.by) c.loop-steps.steps (length (parents_of c.args.classes.now))
    c.loop-steps.class.0 _ (within_map c.args.classes.now c.loop-steps-test.true) (sym c.if-matches.ensures) (sym c.in-Some.ensures)

pub returns-then-matches : goal.returns-then-matches
returns-then-matches c =
    sym (c.loop-steps.invariant
    ∙ wanted_here (parents_of c.args.classes.now) (matches c.args.classes.now c.args.rule.now.by) c.loop-steps.steps (length (parents_of c.args.classes.now))
    c.loop-steps.class.0 (within_map c.args.classes.now c.loop-steps-test.true) (sym c.if-matches.ensures))

pub returns-in-None : goal.returns-in-None
returns-in-None c =
    sym (c.loop-steps.invariant
    ∙ wanted_nowhere (parents_of c.args.classes.now) (matches c.args.classes.now c.args.rule.now.by) c.loop-steps.steps (length (parents_of c.args.classes.now))
    c.loop-steps.class.0 (within_map c.args.classes.now c.loop-steps-test.true) (sym c.if-matches.ensures) (sym c.in-None.ensures))

pub returns : goal.returns
returns c =
    sym (c.loop-steps.invariant
    ∙ walked_out (parents_of c.args.classes.now) (matches c.args.classes.now c.args.rule.now.by) c.loop-steps.steps (length (parents_of c.args.classes.now))
    c.loop-steps.class.0 (past_map c.args.classes.now c.loop-steps-test.false))
