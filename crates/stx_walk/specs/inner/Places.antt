-- The paths of places that are told by their parts.
use Rattle.std.specs.Prelude.{ℕ, List, Option, Some, None, option_copied}
use Rattle.stx_refusals.specs.Faults.{under, entry}
use Rattle.stx_walk.specs.declared.place.Holder.{Holder}
use Rattle.stx_walk.specs.declared.place.Place.{Place}

-- a path, or that of an entry of the array there
abbrev pub at_entry : List ℕ → Option ℕ → List ℕ
at_entry path None = path
at_entry path (Some n) = entry path n

-- a path, or that of a key of the table there
abbrev pub at_key : List ℕ → Option (List ℕ) → List ℕ
at_key path None = path
at_key path (Some key) = under path key

abbrev pub holder_path : Holder → List ℕ
holder_path holder = at_entry holder.path.now holder.at

abbrev pub place_path : Place → List ℕ
place_path place = at_key (holder_path place.holder) (option_copied place.key)
