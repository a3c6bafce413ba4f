-- The names of the texts so far.
use Rattle.std.proofs.Common.{◌≡◌, map, take}
use Rattle.stx_draft.proofs.declared_names.event_names.Given as goal

abbrev pub invariant-loop-text : goal.invariant-loop-text
invariant-loop-text l = l.names ≡ map (λ text. text.now) (take l.text-index l.text-items)
