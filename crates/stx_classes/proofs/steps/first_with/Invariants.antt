-- The first class that has the flaw is still to come.
use Rattle.std.proofs.Common.{◌≡◌, ◌-◌, length}
use Rattle.std.specs.List.{find, range_with_len}
use Rattle.stx_base.specs.Classes.{first_class}
use Rattle.stx_classes.specs.inner.Flaws.{has_flaw}
use Rattle.stx_classes.proofs.steps.first_with.Given as goal

abbrev pub invariant-loop-number : goal.invariant-loop-number
invariant-loop-number l =
    first_class l.parents (has_flaw l.flaw l.parents) ≡ find (has_flaw l.flaw l.parents) (range_with_len l.number (length l.parents - l.number))
