-- The changes so far.
use Rattle.std.proofs.Common.{◌≡◌, take}
use Rattle.stx_journal.specs.Journal.{changed}
use Rattle.stx_journal.proofs.table.Table.change.Given as goal

abbrev pub invariant-loop-row : goal.invariant-loop-row
invariant-loop-row l = l.self ≡ changed l.fn.self (take l.row-index l.changes)
