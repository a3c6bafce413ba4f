-- One row of the table.
use Rattle.std.proofs.Common.{rules, Some, None, sym, ap, ◌∙◌}
use Rattle.stx_journal.specs.Journal.{set_row}
use Rattle.stx_journal.proofs.RowChanges.{Updated, kept_set}
use Rattle.stx_journal.proofs.table.Table.set.Goals as goal

pub returns-in_ok-insert-in-Some : goal.returns-in_ok-insert-in-Some
returns-in_ok-insert-in-Some c =
    let updated : Updated c.self.inside.values.entries c.insert.new.self.entries c.args.row.0 (Some c.in-Some.value) = search rules in
    kept_set c.self.inside.values.entries c.insert.new.self.entries c.args.row.0 (Some c.in-Some.value) updated
    ∙ ap (λ m. set_row m c.args.row.0 (Some c.in-Some.value)) c.self.view_is
    ∙ ap (set_row c.args.self.now c.args.row.0) (sym c.in-Some.is)

pub returns-in-None : goal.returns-in-None
returns-in-None c =
    kept_set c.self.inside.values.entries c.remove.new.self.entries c.args.row.0 None (c.remove.ensures.updates.0)
    ∙ ap (λ m. set_row m c.args.row.0 None) c.self.view_is
    ∙ ap (set_row c.args.self.now c.args.row.0) (sym c.in-None.is)
