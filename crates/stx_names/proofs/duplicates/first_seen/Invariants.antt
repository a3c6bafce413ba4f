-- The names so far are among the numbers, and the first that is seen is among the rest.
use Rattle.std.proofs.Common.{◌≡◌, ◌++◌, take, drop}
use Rattle.stx_scenario.specs.Names.{duplicate_from}
use Rattle.stx_names.proofs.duplicates.first_seen.Given as goal

abbrev pub invariant-loop-at : goal.invariant-loop-at
invariant-loop-at l =
    (duplicate_from l.numbers l.at (drop l.at l.names) ≡ duplicate_from l.initial.numbers 0 l.names)
    × (l.numbers ≡ l.initial.numbers ++ take l.at l.names)
