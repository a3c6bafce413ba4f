-- The rows with their values, and of each live transaction the older values of what it has changed.
use Rattle.std.specs.Prelude.{◌≡◌, ℕ, ℤ, ◌==◌, List, [], ◌∷◌, Option, Some, None, if◌then◌else◌}
use Rattle.std.specs.List.{fold}
use Rattle.std.specs.Option.{option_eq}
use Rattle.std.specs.Ordering.{nat_cmp, int_eq}
use Rattle.std.specs.Coded.{Coded, code_by, coded×, coded_ℕ, coded_ℤ, coded_list, coded_option}
use Rattle.std.specs.FinMap as finite
use Rattle.stx_scenario.specs.declared.numbers.RowNo.{RowNo}
use Rattle.stx_base.specs.Alone.{RowMap}
use Rattle.stx_journal.specs.Journal.{set_row}

-- rows with what they held, a value or nothing
abbrev pub OlderMap : Type 0
OlderMap = finite.FinMap nat_cmp (Option ℤ)

-- the values now, and of each live transaction a stack of maps of older values: the last has what was changed since its
-- innermost savepoint, and the first what was changed before all of them
pub record RowsView : Type 0 where
  pub values : RowMap
  pub older : finite.FinMap nat_cmp (List OlderMap)

abbrev pub rows_code : Coded RowsView
rows_code =
    code_by (RowMap × finite.FinMap nat_cmp (List OlderMap))
    (coded× (finite.code coded_ℕ coded_ℤ) (finite.code coded_ℕ (coded_list (finite.code coded_ℕ (coded_option coded_ℤ)))))
    (λ v. (v.values, v.older)) (λ p. record { values = p.0; older = p.1 }) (λ v i. v)

-- what a row held goes into a map that doesn't have the row yet
abbrev pub kept : OlderMap → ℕ → Option ℤ → OlderMap
kept m k value = if finite.contains_key m k then m else finite.insert m k value

-- and so in the last map of a stack
abbrev pub kept_last : ℕ → Option ℤ → List OlderMap → List OlderMap
kept_last k value [] = []
kept_last k value (m ∷ below) = kept m k value ∷ below

-- rows that the map below doesn't have move into it
abbrev pub moved_into : OlderMap → OlderMap → OlderMap
moved_into below m = fold (λ n e. kept n e.0 e.1) below (finite.entries m)

-- the last map is dropped
abbrev pub dropped : List OlderMap → List OlderMap
dropped [] = []
dropped (m ∷ []) = m ∷ []
dropped (m ∷ n ∷ below) = moved_into n m ∷ below

abbrev pub emptied : List OlderMap → List OlderMap
emptied [] = []
emptied (m ∷ below) = finite.empty ∷ below

-- the rows with the older values of a map put back
abbrev pub put_back : RowMap → OlderMap → RowMap
put_back rows m = fold (λ r e. set_row r e.0 e.1) rows (finite.entries m)

-- with those of the last map, if there is one
abbrev pub put_back_last : RowMap → List OlderMap → RowMap
put_back_last rows [] = rows
put_back_last rows (m ∷ below) = put_back rows m

-- with those of all maps, the last first
abbrev pub put_back_all : RowMap → List OlderMap → RowMap
put_back_all rows [] = rows
put_back_all rows (m ∷ below) = put_back_all (put_back rows m) below

-- the change of one row, if its value differs
abbrev pub change_to : Option ℤ → RowNo → Option ℤ → List (RowNo × Option ℤ)
change_to before row now = if option_eq int_eq before now then [] else (row, now) ∷ []

-- ---- of a transaction, where it lives

abbrev pub some_stack : Option (List OlderMap) → List OlderMap
some_stack None = []
some_stack (Some stack) = stack

abbrev pub stack_of : RowsView → ℕ → List OlderMap
stack_of view t = some_stack (finite.get view.older t)

-- the values stay
abbrev pub SameValues : RowsView → RowsView → Type 0
SameValues old new = (k : ℕ) → finite.get new.values k ≡ finite.get old.values k

-- these are a transaction's older values, or none where it doesn't live, and the other transactions' stay
abbrev pub HasStack : RowsView → ℕ → Option (List OlderMap) → RowsView → Type 0
HasStack old tx stack new = (t : ℕ) → finite.get new.older t ≡ (if t == tx then stack else finite.get old.older t)
