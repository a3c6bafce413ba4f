-- The table's entries so far are declared.
use Rattle.std.proofs.Common.{◌≡◌, map, take}
use Rattle.stx_scenario.specs.BuiltIn.{declaration}
use Rattle.stx_scenario.proofs.classes.declarations.Given as goal

abbrev pub invariant-loop-class : goal.invariant-loop-class
invariant-loop-class l = l.classes ≡ map declaration (take l.class-index l.table)
