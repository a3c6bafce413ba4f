-- The rows that the statements so far name are there, and these statements by numbers last.
use Rattle.std.proofs.Common.{◌≡◌, map, take, option_copied}
use Rattle.std.specs.List.{filter_map}
use Rattle.std.specs.Option.{option_and_then}
use Rattle.toml.specs.Data.{as_str}
use Rattle.toml.specs.View.{view}
use Rattle.stx_names.specs.Sentences.{sentence_in}
use Rattle.stx_draft.specs.Draft.{stated}
use Rattle.stx_draft.specs.inner.Growing.{grown, Lasts}
use Rattle.stx_draft.proofs.draft.statements.body_at.Given as goal

abbrev pub invariant-loop-value : goal.invariant-loop-value
invariant-loop-value l =
    (l.names ≡ grown l.initial.names (filter_map (λ d. option_and_then sentence_in (as_str d)) (map view (take l.value-index l.value-items))))
    × Lasts (λ N. map (stated N (option_copied l.bean)) (filter_map (λ d. option_and_then sentence_in (as_str d)) (map view (take l.value-index l.value-items)))) l.names l.body
