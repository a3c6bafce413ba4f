-- The turns so far.
use Rattle.std.proofs.Common.{◌≡◌, map, take}
use Rattle.stx_draft.specs.Draft.{natural}
use Rattle.stx_draft.proofs.draft.schedule_in.Given as goal

abbrev pub invariant-loop-number : goal.invariant-loop-number
invariant-loop-number l = l.turns ≡ map natural (take l.number-index l.number-items)
