-- The values so far.
use Rattle.std.proofs.Common.{◌≡◌, take}
use Rattle.stx_base.specs.Alone.{first_rows}
use Rattle.stx_journal.proofs.table.Table.of_values.Given as goal

abbrev pub invariant-loop-place : goal.invariant-loop-place
invariant-loop-place l = l.table ≡ first_rows (take l.place l.values)
