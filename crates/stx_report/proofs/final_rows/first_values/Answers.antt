-- One value more.
use Rattle.std.proofs.Common.{◌<◌, length, sym, ◌∙◌, arith}
use Rattle.stx_base.specs.Alone.{first_rows}
use Rattle.stx_base.proofs.RowLaws.{first_rows-at}
use Rattle.stx_report.proofs.ValueLaws.{values_next}
use Rattle.stx_report.proofs.final_rows.first_values.Goals as goal

pub loop-row-preserved : goal.loop-row-preserved
loop-row-preserved c =
    let first = c.args.scenario.now.values in
    let names = c.args.scenario.now.row_names in
    let below : c.loop-row.row < length names = omega arith in
    rw c.in_ok-push.ensures.items
    (values_next (first_rows first) names c.loop-row.row c.loop-row.values.items c.copied.result _ below
    (c.copied.ensures ∙ c.get.ensures ∙ sym (first_rows-at first c.loop-row.row)) c.loop-row.invariant)
