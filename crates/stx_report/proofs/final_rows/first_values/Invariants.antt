-- The values so far, and then the rest, are all values.
use Rattle.std.proofs.Common.{◌≡◌, ◌++◌, drop}
use Rattle.stx_base.specs.Alone.{first_rows}
use Rattle.stx_report.specs.inner.RowValues.{values_from}
use Rattle.stx_report.proofs.final_rows.first_values.Given as goal

abbrev pub invariant-loop-row : goal.invariant-loop-row
invariant-loop-row l =
    l.values.items ++ values_from (first_rows l.scenario.values) l.row (drop l.row l.scenario.row_names)
    ≡ values_from (first_rows l.scenario.values) 0 l.scenario.row_names
