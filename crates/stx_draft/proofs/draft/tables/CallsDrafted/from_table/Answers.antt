-- All calls have been read.
use Rattle.std.proofs.Common.{◌∙◌, ap, map}
use Rattle.stx_names.specs.Sentences.{method_in}
use Rattle.stx_draft.specs.Draft.{called_no}
use Rattle.stx_draft.proofs.PartLaws.{mapped_all}
use Rattle.stx_draft.proofs.draft.tables.CallsDrafted.from_table.Goals as goal

pub returns : goal.returns
returns c =
    mapped_all (λ text. text.now) (λ text. called_no c.args.names.now (method_in text)) c.as_slice-text-items.result.now c.loop-text.text-index _ _ c.loop-text-test.false
    (ap (map (λ text. text.now)) c.as_slice-text-items.ensures.value ∙ c.in_ok-texts.ensures) c.loop-text.invariant
