-- All rows have been read.
use Rattle.std.proofs.Common.{◌∙◌, ap, map, codes, pos}
use Rattle.toml.specs.View.{table_view}
use Rattle.stx_draft.specs.Parts.{number_at}
use Rattle.stx_draft.proofs.PartLaws.{mapped_all}
use Rattle.stx_draft.proofs.draft.values_in.Goals as goal

pub returns : goal.returns
returns c =
    mapped_all (λ row. table_view row.now) (number_at (codes "value") (pos 0)) c.as_slice-row-items.result.now c.loop-row.row-index _ _ c.loop-row-test.false
    (ap (map (λ row. table_view row.now)) c.as_slice-row-items.ensures.value ∙ c.in_ok-rows.ensures) c.loop-row.invariant
