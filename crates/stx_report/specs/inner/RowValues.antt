-- The rows of a report, as the code holds them: their names and their values, side by side.
use Rattle.std.specs.Prelude.{ℕ, ℤ, ◌+◌, List, [], ◌∷◌, set, Option, Some, None, if◌then◌else◌}
use Rattle.std.specs.List.{filter_map, zip, fold}
use Rattle.std.specs.Option.{option_map}
use Rattle.std.specs.FinMap as finite
use Rattle.stx_base.specs.declared.history.Access.{Access}
use Rattle.stx_base.specs.declared.history.StoreNote.{StoreNote}
use Rattle.stx_base.specs.Alone.{RowMap}
use Rattle.stx_base.specs.Stores.{is_busy}
use Rattle.stx_report.specs.inner.Kept.{Kept}

-- the value of the row with this number and of those after it, one for each name
abbrev pub values_from : RowMap → ℕ → List (List ℕ) → List (Option ℤ)
values_from rows k [] = []
values_from rows k (name ∷ names) = finite.get rows k ∷ values_from rows (k + 1) names

-- a name with its value, if it has one
abbrev pub with_name : List ℕ × Option ℤ → Option (List ℕ × ℤ)
with_name (name, value) = option_map (λ v. (name, v)) value

-- the names that have a value, each with it
abbrev pub found_rows : List (List ℕ) → List (Option ℤ) → List (List ℕ × ℤ)
found_rows names values = filter_map with_name (zip names values)

-- ---- what changes the values

abbrev pub written : List (Option ℤ) → Access → List (Option ℤ)
written values (Access.Read k) = values
written values (Access.Write k v) = set values k.0 (Some v)
written values (Access.Erase k) = set values k.0 None

abbrev pub all_written : List (Option ℤ) → List Access → List (Option ℤ)
all_written values accesses = fold written values accesses

-- a note of the whole history: the commit of a transaction, of whose work this is kept, or an own statement
abbrev pub committed_values : (ℕ → Kept) → List (Option ℤ) → StoreNote → List (Option ℤ)
committed_values kept values (StoreNote.Commit t n) = all_written values (kept t).accesses
committed_values kept values (StoreNote.Auto a r) = if is_busy r then values else written values a
committed_values kept values _ = values
