-- The rows so far, with those that are left put among them one after the other, are all of them.
use Rattle.std.proofs.Common.{◌≡◌, map}
use Rattle.std.specs.Iterator.Adapters.{zip_first, zip_second}
use Rattle.std.specs.Slice.Iter.{iter_rest}
use Rattle.stx_base.specs.Report.{by_name}
use Rattle.stx_report.specs.inner.RowValues.{found_rows}
use Rattle.stx_report.proofs.TextLaws.{with_rows}
use Rattle.stx_report.proofs.rows.sorted_rows.Given as goal

abbrev pub invariant-loop-name : goal.invariant-loop-name
invariant-loop-name l =
    with_rows (map (λ row. (row.0.now, row.1)) l.rows.entries)
    (found_rows (iter_rest (zip_first l.name-iterator)) (iter_rest (zip_second l.name-iterator)))
    ≡ by_name (found_rows l.names l.values)
