-- One entry more, a text or none.
use Rattle.std.proofs.Common.{◌∙◌, sym, ap, option_copied}
use Rattle.std.proofs.lemmas.List.{map-append}
use Rattle.toml.specs.Data.{as_str}
use Rattle.toml.specs.View.{view}
use Rattle.stx_draft.proofs.PartLaws.{kept_more, kept_same}
use Rattle.stx_draft.proofs.parts.texts_at.Goals as goal
use Rattle.stx_draft.proofs.parts.texts_at.Goals.{in-Some+in_ok-push, in_default}

pub loop-value-preserved : goal.loop-value-preserved
loop-value-preserved c =
    elim c.match-as_str.branch [
      | in-Some+in_ok-push w ↦
          rw (w.texts-is, w.in_ok-push.ensures.items, map-append)
          (kept_more view as_str c.array_at-value-items.result.now c.loop-value.value-index _ _ w.in-Some.text.now _ c.loop-value-test.true c.value-item.is
          (sym c.as_str.ensures ∙ ap option_copied w.in-Some.is) c.loop-value.invariant)
      | in_default w ↦
          rw w.texts-is
          (kept_same view as_str c.array_at-value-items.result.now c.loop-value.value-index _ _ _ c.loop-value-test.true c.value-item.is
          (sym c.as_str.ensures ∙ ap option_copied w.in_default.is) c.loop-value.invariant)
    ]
