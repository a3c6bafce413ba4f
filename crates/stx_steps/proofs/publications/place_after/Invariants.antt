-- The deed is at none of the places so far.
use Rattle.std.proofs.Common.{◌≡◌, drop, map}
use Rattle.stx_events.specs.Deeds.{deed_of}
use Rattle.stx_machine.specs.Machine.{later_than}
use Rattle.stx_steps.proofs.publications.place_after.Given as goal

abbrev pub invariant-loop-place : goal.invariant-loop-place
invariant-loop-place l = later_than l.listener (map deed_of l.deeds) ≡ later_than l.listener (drop l.place (map deed_of l.deeds))
