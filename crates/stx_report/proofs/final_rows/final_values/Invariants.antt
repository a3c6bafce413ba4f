-- The values after the commits so far.
use Rattle.std.proofs.Common.{◌≡◌, take}
use Rattle.stx_base.specs.Histories.{store_notes}
use Rattle.stx_report.specs.inner.RowValues.{values_from}
use Rattle.stx_base.proofs.RowLaws.{rows_so_far}
use Rattle.stx_report.proofs.final_rows.final_values.Given as goal

abbrev pub invariant-loop-entry : goal.invariant-loop-entry
invariant-loop-entry l =
    l.values.items ≡ values_from (rows_so_far l.scenario.values (store_notes l.entries) (take l.entry-index l.entries)) 0 l.scenario.row_names
