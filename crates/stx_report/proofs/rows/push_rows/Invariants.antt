-- The text so far, and then that of the rows that are left, is the whole text.
use Rattle.std.proofs.Common.{◌≡◌, ◌++◌, map}
use Rattle.stx_base.specs.Report.{rows_text}
use Rattle.stx_report.proofs.rows.push_rows.Given as goal

abbrev pub invariant-loop-name : goal.invariant-loop-name
invariant-loop-name l =
    l.out.items ++ rows_text (map (λ row. (row.0.now, row.1)) l.name-iterator)
    ≡ l.initial.out.items ++ rows_text (map (λ row. (row.0.now, row.1)) l.initial.name-iterator)
