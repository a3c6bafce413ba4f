-- The balances so far, and then those of the rows that are left, are all of them.
use Rattle.std.proofs.Common.{◌≡◌, ◌++◌, map}
use Rattle.std.specs.Prelude.{filter}
use Rattle.stx_report.specs.SummaryText.{is_account}
use Rattle.stx_report.proofs.load.balances_among.Given as goal

abbrev pub invariant-loop-name : goal.invariant-loop-name
invariant-loop-name l =
    l.balances.items ++ map (λ row. row.1) (filter is_account (map (λ row. (row.0.now, row.1)) l.name-iterator))
    ≡ map (λ row. row.1) (filter is_account (map (λ row. (row.0.now, row.1)) l.fn.rows.entries))
