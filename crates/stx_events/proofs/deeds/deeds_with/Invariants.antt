-- The deeds so far are those of the listeners so far.
use Rattle.std.proofs.Common.{◌≡◌, map, take}
use Rattle.stx_model.specs.Listeners.{deed as model_deed}
use Rattle.stx_events.specs.Deeds.{deed_of}
use Rattle.stx_events.specs.inner.Heard.{listener_of}
use Rattle.stx_events.proofs.deeds.deeds_with.Given as goal

abbrev pub invariant-loop-number : goal.invariant-loop-number
invariant-loop-number l = map deed_of l.found ≡ map (model_deed l.registers) (map listener_of (take l.number-index l.heard))
