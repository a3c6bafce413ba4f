-- All tables have been read.
use Rattle.std.proofs.Common.{◌∙◌, ap, map, codes}
use Rattle.toml.specs.View.{table_view}
use Rattle.stx_draft.specs.Parts.{text_at}
use Rattle.stx_draft.proofs.PartLaws.{mapped_all}
use Rattle.stx_draft.proofs.declared_names.names_at.Goals as goal

pub returns : goal.returns
returns c =
    mapped_all (λ table. table_view table.now) (text_at (codes "name")) c.as_slice-table-items.result.now c.loop-table.table-index _ _ c.loop-table-test.false
    (ap (map (λ table. table_view table.now)) c.as_slice-table-items.ensures.value ∙ c.in_ok-tables.ensures) c.loop-table.invariant
