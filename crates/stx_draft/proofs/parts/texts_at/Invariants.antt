-- What the entries so far gave.
use Rattle.std.proofs.Common.{◌≡◌, map, take}
use Rattle.std.specs.List.{filter_map}
use Rattle.toml.specs.Data.{as_str}
use Rattle.toml.specs.View.{view}
use Rattle.stx_draft.proofs.parts.texts_at.Given as goal

abbrev pub invariant-loop-value : goal.invariant-loop-value
invariant-loop-value l = map (λ text. text.now) l.texts.items ≡ filter_map as_str (map view (take l.value-index l.value-items))
