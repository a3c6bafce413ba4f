-- The rows so far.
use Rattle.std.proofs.Common.{◌≡◌, map}
use Rattle.std.specs.Map.Iter.{deref_pair}
use Rattle.stx_journal.proofs.RowChanges.{value_row}
use Rattle.stx_journal.proofs.table.Table.listed.Given as goal

abbrev pub invariant-loop-row : goal.invariant-loop-row
invariant-loop-row l = l.rows ≡ map value_row (map deref_pair l.yielded)
