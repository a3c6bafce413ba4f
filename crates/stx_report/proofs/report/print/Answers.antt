-- The parts in their order are the whole.
use Rattle.std.proofs.Common.{◌++◌, ◌∙◌, ap, codes}
use Rattle.stx_base.specs.Report.{journal_text, rows_text, by_name}
use Rattle.stx_base.specs.Stores.{committed_rows}
use Rattle.stx_report.specs.inner.RowValues.{values_from, found_rows}
use Rattle.stx_report.proofs.TextLaws.{printed_from}
use Rattle.stx_report.proofs.report.print.Goals as goal

pub returns : goal.returns
returns c =
    let scenario = c.args.scenario.now in
    printed_from scenario c.args.outcome.now c.in_ok-values.values.items _ _ _ _ _ _ _
    (c.in_ok-values.ensures ∙ ap (λ entries. values_from (committed_rows scenario.values entries) 0 scenario.row_names) c.as_slice.ensures)
    (c.in_ok-push_text.ensures.ok ∙ ap (λ before. before ++ codes "springtx 1\n") c.new-out.ensures.items)
    c.in_ok-push_clients.ensures
    c.in_ok-push_text-2.ensures.ok
    (c.in_ok-push_journal.ensures ∙ ap (λ entries. c.push_text-2.new.out.items ++ journal_text 1 1 entries) c.as_slice-2.ensures)
    c.in_ok-push_text-3.ensures.ok
    (c.in_ok-push_rows.ensures
    ∙ ap (λ values. c.push_text-3.new.out.items ++ rows_text (by_name (found_rows c.as_slice-3.result.now values))) c.as_slice-4.ensures.value
    ∙ ap (λ names. c.push_text-3.new.out.items ++ rows_text (by_name (found_rows names c.in_ok-values.values.items))) c.as_slice-3.ensures)
    c.in_ok-push_text-4.ensures.ok
