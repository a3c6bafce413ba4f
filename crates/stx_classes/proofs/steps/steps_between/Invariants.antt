-- The steps are those made so far and those from here on.
use Rattle.std.proofs.Common.{◌≡◌, ◌-◌, ◌==◌, length}
use Rattle.stx_base.specs.Classes.{bounded_steps_in, depth_in}
use Rattle.stx_classes.proofs.StepLaws.{more_by}
use Rattle.stx_classes.proofs.steps.steps_between.Given as goal

abbrev pub invariant-loop-steps : goal.invariant-loop-steps
invariant-loop-steps l =
    depth_in l.parents l.fn.from.0 l.to.0
    ≡ more_by l.steps (bounded_steps_in (length l.parents - l.steps) l.parents (λ c. c == l.to.0) l.class.0)
