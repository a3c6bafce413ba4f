-- One entry more.
use Rattle.std.proofs.Common.{◌≡◌, length, get_or, sym, ◌∙◌, ap, arith}
use Rattle.stx_base.specs.declared.history.StoreEntry.{StoreEntry}
use Rattle.stx_base.specs.declared.history.StoreNote.{StoreNote}
use Rattle.stx_report.specs.inner.KeptWorks.{kept_by}
use Rattle.stx_report.specs.inner.RowValues.{committed_values}
use Rattle.stx_report.proofs.ValueLaws.{values-more}
use Rattle.stx_report.proofs.SliceLaws.{whole-write}
use Rattle.stx_report.proofs.final_rows.final_values.Goals as goal

pub loop-entry-preserved : goal.loop-entry-preserved
loop-entry-preserved c =
    let none : StoreEntry = record { client = 0; note = StoreNote.Begin 0 } in
    let kept = kept_by c.in_ok-works.works in
    let long : length c.commit.new.values ≡ c.loop-entry.values.len = omega arith in
    whole-write c.commit.new.values c.loop-entry.values.items c.loop-entry.values.len long
    ∙ c.commit.ensures
    ∙ ap (λ values. committed_values kept values (get_or c.args.entries.now c.loop-entry.entry-index none).note) (c.deref_mut.ensures.value ∙ c.loop-entry.invariant)
    ∙ sym (values-more kept c.args.scenario.now.values c.args.entries.now c.args.scenario.now.row_names c.loop-entry.entry-index none c.in_ok-works.ensures c.loop-entry-test.true)
