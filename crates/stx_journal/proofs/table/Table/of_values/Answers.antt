-- One value more.
use Rattle.std.proofs.Common.{ap, ◌∙◌, arith}
use Rattle.stx_journal.specs.Journal.{set_row}
use Rattle.stx_journal.proofs.RowChanges.{first_rows-more}
use Rattle.stx_journal.proofs.table.Table.of_values.Goals as goal

pub loop-place-preserved : goal.loop-place-preserved
loop-place-preserved c =
    c.in_ok-set.ensures
    ∙ ap (λ m. set_row m c.loop-place.place c.copied.result) c.loop-place.invariant
    ∙ first_rows-more c.args.values.now c.loop-place.place c.copied.result (omega arith) (c.copied.ensures ∙ c.get.ensures)
