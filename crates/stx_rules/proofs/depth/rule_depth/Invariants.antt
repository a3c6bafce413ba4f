-- The steps are those made so far and those from here on.
use Rattle.std.proofs.Common.{◌≡◌, ◌-◌, length}
use Rattle.stx_base.specs.Classes.{parents_of, bounded_steps_in}
use Rattle.stx_base.specs.Rules.{matches, rule_depth}
use Rattle.stx_classes.proofs.StepLaws.{more_by}
use Rattle.stx_rules.proofs.depth.rule_depth.Given as goal

abbrev pub invariant-loop-steps : goal.invariant-loop-steps
invariant-loop-steps l =
    rule_depth l.classes l.fn.thrown.0 l.rule
    ≡ more_by l.steps (bounded_steps_in (length (parents_of l.classes) - l.steps) (parents_of l.classes) (matches l.classes l.rule.by) l.class.0)
