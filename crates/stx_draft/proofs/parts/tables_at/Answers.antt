-- One entry more, a table or none.
use Rattle.std.proofs.Common.{◌∙◌, sym, ap, option_map}
use Rattle.std.proofs.lemmas.List.{map-append}
use Rattle.toml.specs.Data.{as_table}
use Rattle.toml.specs.View.{view, table_view}
use Rattle.stx_draft.proofs.PartLaws.{kept_more, kept_same}
use Rattle.stx_draft.proofs.parts.tables_at.Goals as goal
use Rattle.stx_draft.proofs.parts.tables_at.Goals.{in-Some+in_ok-push, in_default}

pub loop-value-preserved : goal.loop-value-preserved
loop-value-preserved c =
    elim c.match-as_table.branch [
      | in-Some+in_ok-push w ↦
          rw (w.tables-is, w.in_ok-push.ensures.items, map-append)
          (kept_more view as_table c.array_at-value-items.result.now c.loop-value.value-index _ _ (table_view w.in-Some.inner.now) _ c.loop-value-test.true c.value-item.is
          (sym c.as_table.ensures ∙ ap (option_map (λ inner. table_view inner.now)) w.in-Some.is) c.loop-value.invariant)
      | in_default w ↦
          rw w.tables-is
          (kept_same view as_table c.array_at-value-items.result.now c.loop-value.value-index _ _ _ c.loop-value-test.true c.value-item.is
          (sym c.as_table.ensures ∙ ap (option_map (λ inner. table_view inner.now)) w.in_default.is) c.loop-value.invariant)
    ]
