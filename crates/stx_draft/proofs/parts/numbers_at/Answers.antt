-- One entry more, a number or none.
use Rattle.std.proofs.Common.{◌∙◌, sym, FitsSigned, w64, rules}
use Rattle.std.proofs.lemmas.Int.{to_z-of_z}
use Rattle.toml.specs.Data.{as_integer}
use Rattle.toml.specs.View.{view}
use Rattle.stx_draft.proofs.PartLaws.{kept_more, kept_same}
use Rattle.stx_draft.proofs.parts.numbers_at.Goals as goal
use Rattle.stx_draft.proofs.parts.numbers_at.Goals.{in-Some+in_ok-push, in_default}

pub loop-value-preserved : goal.loop-value-preserved
loop-value-preserved c =
    elim c.match-as_integer.branch [
      | in-Some+in_ok-push w ↦
          let fits : FitsSigned w64 w.in-Some.number = search rules in
          rw (w.numbers-is, w.in_ok-push.ensures.items, to_z-of_z)
          (kept_more view as_integer c.array_at-value-items.result.now c.loop-value.value-index _ _ w.in-Some.number _ c.loop-value-test.true c.value-item.is
          (sym c.as_integer.ensures ∙ w.in-Some.is) c.loop-value.invariant)
      | in_default w ↦
          rw w.numbers-is
          (kept_same view as_integer c.array_at-value-items.result.now c.loop-value.value-index _ _ _ c.loop-value-test.true c.value-item.is
          (sym c.as_integer.ensures ∙ w.in_default.is) c.loop-value.invariant)
    ]
