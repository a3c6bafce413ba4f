-- How many classes there are where no list is too long.
use Rattle.std.proofs.Common.{◌<◌, ◌^◌, length, arith}
use Rattle.std.proofs.Math.ListN.{length-drop}
use Rattle.stx_scenario.specs.declared.scenario.Scenario.{Scenario}
use Rattle.stx_scenario.specs.BuiltIn.{built_in}
use Rattle.stx_base.specs.Valid.{PlacesInOrder}

-- the built-in classes, and at most 1,000 more
pub few_classes : (S : Scenario) → PlacesInOrder S → length S.classes < 2 ^ 32
few_classes S order = omega (arith, length-drop (length built_in) S.classes, order.few_classes)
