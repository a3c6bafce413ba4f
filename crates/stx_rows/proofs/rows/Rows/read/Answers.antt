-- A row's value is what the look-up finds.
use Rattle.std.proofs.Common.{sym, ap, ◌∙◌}
use Rattle.std.specs.FinMap.{get}
use Rattle.stx_rows.proofs.RowsLaws.{values-at}
use Rattle.stx_rows.proofs.rows.Rows.read.Goals as goal

pub returns : goal.returns
returns c = c.value_of.ensures ∙ sym (values-at c.self.inside.slots.entries c.args.row.0) ∙ ap (λ v. get v.values c.args.row.0) c.self.view_is
