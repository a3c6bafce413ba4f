-- What each table states, by what is seen of it.
use Rattle.std.proofs.Common.{◌++◌, ◌∙◌, ap, map}
use Rattle.toml.specs.View.{table_view}
use Rattle.stx_draft.proofs.PartLaws.{mapped_so}
use Rattle.stx_draft.proofs.draft.tables_of_array.Goals as goal

pub returns : goal.returns
returns g c =
    c.in_ok-all.ensures
    ∙ ap (λ before. before ++ map (λ table. g.T.Drafted.stated c.args.names.now (table_view table.now)) c.as_slice.result.now) c.new-before.ensures
    ∙ mapped_so (λ table. table_view table.now) (g.T.Drafted.stated c.args.names.now) c.as_slice.result.now _
    (ap (map (λ table. table_view table.now)) c.as_slice.ensures.value ∙ c.in_ok-tables.ensures)
