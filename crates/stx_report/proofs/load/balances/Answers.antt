-- The accounts are sought among the final rows.
use Rattle.std.proofs.Common.{map, ap, ◌∙◌}
use Rattle.std.specs.Prelude.{filter}
use Rattle.stx_base.specs.Report.{by_name}
use Rattle.stx_base.specs.Stores.{committed_rows}
use Rattle.stx_report.specs.SummaryText.{is_account}
use Rattle.stx_report.specs.inner.RowValues.{values_from, found_rows}
use Rattle.stx_report.proofs.TextLaws.{held_at_end}
use Rattle.stx_report.proofs.load.balances.Goals as goal

pub returns : goal.returns
returns c =
    let scenario = c.args.scenario.now in
    let held = c.in_ok-values.ensures ∙ ap (λ entries. values_from (committed_rows scenario.values entries) 0 scenario.row_names) c.as_slice.ensures in
    let sorted =
    c.in_ok-rows.ensures ∙ ap (λ values. by_name (found_rows c.as_slice-2.result.now values)) c.as_slice-3.ensures.value
    ∙ ap (λ names. by_name (found_rows names c.in_ok-values.values.items)) c.as_slice-2.ensures in
    c.in_ok-balances.ensures
    ∙ ap (λ rows. map (λ row. row.1) (filter is_account rows)) (held_at_end scenario c.args.outcome.now.store c.in_ok-values.values.items _ held sorted)
