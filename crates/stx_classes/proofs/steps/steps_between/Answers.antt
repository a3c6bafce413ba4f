use Rattle.std.proofs.Common.{◌==◌, length, sym, ◌∙◌}
use Rattle.stx_classes.proofs.StepLaws.{none_made, wanted_here, wanted_above, wanted_nowhere, walked_out}
use Rattle.stx_classes.proofs.steps.steps_between.Goals as goal

pub loop-steps-init : goal.loop-steps-init
loop-steps-init c = none_made c.args.parents.now (λ n. n == c.args.to.0) (length c.args.parents.now) c.args.from.0

pub loop-steps-preserved : goal.loop-steps-preserved
loop-steps-preserved c =
    c.loop-steps.invariant
    ∙ wanted_above c.args.parents.now (λ n. n == c.args.to.0) c.loop-steps.steps (length c.args.parents.now) c.loop-steps.class.0 _
    c.loop-steps-test.true (sym c.if-eq.ensures) (sym c.in-Some.ensures)

pub returns-then-eq : goal.returns-then-eq
returns-then-eq c =
    sym (c.loop-steps.invariant
    ∙ wanted_here c.args.parents.now (λ n. n == c.args.to.0) c.loop-steps.steps (length c.args.parents.now) c.loop-steps.class.0
    c.loop-steps-test.true (sym c.if-eq.ensures))

pub returns-in-None : goal.returns-in-None
returns-in-None c =
    sym (c.loop-steps.invariant
    ∙ wanted_nowhere c.args.parents.now (λ n. n == c.args.to.0) c.loop-steps.steps (length c.args.parents.now) c.loop-steps.class.0
    c.loop-steps-test.true (sym c.if-eq.ensures) (sym c.in-None.ensures))

pub returns : goal.returns
returns c =
    sym (c.loop-steps.invariant
    ∙ walked_out c.args.parents.now (λ n. n == c.args.to.0) c.loop-steps.steps (length c.args.parents.now) c.loop-steps.class.0
    c.loop-steps-test.false)
