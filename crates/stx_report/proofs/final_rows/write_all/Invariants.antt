-- The values after the accesses so far.
use Rattle.std.proofs.Common.{◌≡◌, take}
use Rattle.stx_report.specs.inner.RowValues.{all_written}
use Rattle.stx_report.proofs.final_rows.write_all.Given as goal

abbrev pub invariant-loop-access : goal.invariant-loop-access
invariant-loop-access l = l.values ≡ all_written l.initial.values (take l.access-index l.accesses)
