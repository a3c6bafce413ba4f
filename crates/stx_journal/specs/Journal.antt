-- The journal: what each commit changed, and the rows after a list of commits.
use Rattle.std.specs.Prelude.{◌≡◌, ℕ, ℤ, ◌+◌, List, [], ◌∷◌, map, Option, Some, None}
use Rattle.std.specs.List.{fold}
use Rattle.std.specs.FinMap as finite
use Rattle.stx_scenario.specs.declared.numbers.RowNo.{RowNo}
use Rattle.stx_base.specs.declared.history.StoreEntry.{StoreEntry}
use Rattle.stx_base.specs.Alone.{RowMap, first_rows, after, net}
use Rattle.stx_base.specs.Stores.{Transaction, journal, committed_rows}
use Rattle.stx_journal.specs.declared.committed.Committed.{Committed}
use Rattle.stx_journal.specs.declared.replay.RowValue.{RowValue}

-- the commits so far, in order, and how many more there is room for
pub record JournalView : Type 0 where
  pub list : List Committed
  pub spare : ℕ

-- ---- changes

-- a row with this value, or without the row
abbrev pub set_row : RowMap → ℕ → Option ℤ → RowMap
set_row rows k (Some v) = finite.insert rows k v
set_row rows k None = finite.remove rows k

abbrev pub changed : RowMap → List (RowNo × Option ℤ) → RowMap
changed rows changes = fold (λ m change. set_row m (change.0).0 change.1) rows changes

-- the rows after these commits, one after the other
abbrev pub after_committed : RowMap → List Committed → RowMap
after_committed rows list = fold (λ m committed. changed m committed.changes) rows list

-- the rows with their values, by rising row
abbrev pub row_values : RowMap → List RowValue
row_values rows = map (λ e. record { row = record { 0 = e.0 }; value = e.1 }) (finite.entries rows)

-- ---- the journal of a history

-- a transaction of a history's journal, at its place and with what it changes in these rows
abbrev pub committed_as : RowMap → ℕ → Transaction → Committed
committed_as rows number j = record { number = number; client = j.client; tx = j.tx; changes = net rows (after rows j.work) }

-- these transactions, one after the other, where so many were committed before them
abbrev pub committed_from : RowMap → ℕ → List Transaction → List Committed
committed_from rows before [] = []
committed_from rows before (j ∷ js) = committed_as rows (before + 1) j ∷ committed_from (after rows j.work) (before + 1) js

-- what a history commits, over these first values
abbrev pub committed_in : List ℤ → List StoreEntry → List Committed
committed_in values history = committed_from (first_rows values) 0 (journal history)

-- what a history commits gives the history's rows
abbrev pub JournalGivesRows : Type 0
JournalGivesRows = (values : List ℤ) (history : List StoreEntry) → after_committed (first_rows values) (committed_in values history) ≡ committed_rows values history
