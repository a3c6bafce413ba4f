-- The rules that the texts so far are.
use Rattle.std.proofs.Common.{◌≡◌, map, take}
use Rattle.std.specs.List.{filter_map}
use Rattle.stx_names.specs.Sentences.{rule_in}
use Rattle.stx_draft.specs.Draft.{rule_of}
use Rattle.stx_draft.proofs.draft.tx.rules_in.Given as goal

abbrev pub invariant-loop-text : goal.invariant-loop-text
invariant-loop-text l = l.rules ≡ map (rule_of l.names) (filter_map rule_in (map (λ text. text.now) (take l.text-index l.text-items)))
