-- The rows after the commits so far.
use Rattle.std.proofs.Common.{◌≡◌, take}
use Rattle.stx_base.specs.Alone.{first_rows}
use Rattle.stx_journal.specs.Journal.{after_committed}
use Rattle.stx_journal.proofs.replay.rows_after.Given as goal

abbrev pub invariant-loop-committed : goal.invariant-loop-committed
invariant-loop-committed l = l.table ≡ after_committed (first_rows l.values) (take l.committed-index l.list)
