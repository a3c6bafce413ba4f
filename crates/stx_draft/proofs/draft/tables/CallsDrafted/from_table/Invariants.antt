-- The numbers of the calls so far.
use Rattle.std.proofs.Common.{◌≡◌, map, take}
use Rattle.stx_names.specs.Sentences.{method_in}
use Rattle.stx_draft.specs.Draft.{called_no}
use Rattle.stx_draft.proofs.draft.tables.CallsDrafted.from_table.Given as goal

abbrev pub invariant-loop-text : goal.invariant-loop-text
invariant-loop-text l = l.calls ≡ map (λ text. called_no l.names (method_in text.now)) (take l.text-index l.text-items)
