-- The calls of the clients so far; no list is longer than 64 bits can tell.
use Rattle.std.proofs.Common.{◌≡◌, ◌*◌, ◌≤◌, ◌-◌, ◌^◌, length, map, take}
use Rattle.std.specs.Prelude.{sum}
use Rattle.stx_report.proofs.load.top_calls.Given as goal

abbrev pub invariant-loop-calls : goal.invariant-loop-calls
invariant-loop-calls l =
    (l.total ≡ sum (map length (take l.calls-index l.clients)))
    × (l.total ≤ (2 ^ 64 - 1) * l.calls-index)
