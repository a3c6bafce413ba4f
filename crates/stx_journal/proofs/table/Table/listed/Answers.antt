-- All rows, in order.
use Rattle.std.proofs.Common.{rules, ◌≡◌, map, sym, ap, ◌∙◌}
use Rattle.std.specs.Map.Iter.{deref_pair}
use Rattle.std.proofs.lemmas.Map.Iter.{iter_end}
use Rattle.stx_journal.specs.Journal.{row_values}
use Rattle.stx_journal.proofs.RowChanges.{value_row, kept-entries}
use Rattle.stx_journal.proofs.table.Table.listed.Goals as goal

pub returns : goal.returns
returns c =
    let whole : map deref_pair c.loop-row.yielded ≡ c.self.inside.values.entries = search (rules, iter_end) in
    c.loop-row.invariant
    ∙ ap (map value_row) (whole ∙ sym (kept-entries c.self.inside.values.entries (search rules)))
    ∙ ap row_values c.self.view_is
