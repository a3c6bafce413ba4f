-- Those of the listeners so far that listen to the event, with their places.
use Rattle.std.proofs.Common.{◌≡◌, ◌==◌, map, take, filter}
use Rattle.std.specs.List.{enumerate_from}
use Rattle.stx_events.specs.inner.Heard.{listener_of}
use Rattle.stx_events.proofs.deeds.listening.Given as goal

abbrev pub invariant-loop-number : goal.invariant-loop-number
invariant-loop-number l =
    map listener_of l.heard.items ≡ filter (λ l2. l2.1.event.0 == l.event.0) (enumerate_from 0 (take l.number l.listeners))
