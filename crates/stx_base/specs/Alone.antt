-- A transaction run alone on a plain map from rows to values, with a copy of the map for each savepoint.
use Rattle.std.specs.Prelude.{ℕ, ℤ, List, [], ◌∷◌, ◌++◌, map, if◌then◌else◌, Option, Some, None}
use Rattle.std.specs.List.{filter_map, cons_option, fold, enumerate_from}
use Rattle.std.specs.Option.{option_eq}
use Rattle.std.specs.Ordering.{nat_cmp, int_eq}
use Rattle.std.specs.FinMap as finite
use Rattle.stx_scenario.specs.declared.numbers.RowNo.{RowNo}
use Rattle.stx_base.specs.declared.history.Access.{Access}
use Rattle.stx_base.specs.declared.history.Answer.{Answer}
use Rattle.stx_base.specs.declared.history.StoreNote.{StoreNote}

-- rows, by their numbers, with their values
abbrev pub RowMap : Type 0
RowMap = finite.FinMap nat_cmp ℤ

-- the first values, in the order of the rows
abbrev pub first_rows : List ℤ → RowMap
first_rows values = finite.from_entries (enumerate_from 0 values)

abbrev pub row_of : Access → ℕ
row_of (Access.Read k) = k.0
row_of (Access.Write k v) = k.0
row_of (Access.Erase k) = k.0

-- a write sets and an erase removes
abbrev pub applied : RowMap → Access → RowMap
applied rows (Access.Read k) = rows
applied rows (Access.Write k v) = finite.insert rows k.0 v
applied rows (Access.Erase k) = finite.remove rows k.0

abbrev pub found_or_absent : Option ℤ → Answer
found_or_absent (Some v) = Answer.Found v
found_or_absent None = Answer.Absent

-- what an access finds or does
abbrev pub finds : RowMap → Access → Answer
finds rows (Access.Read k) = found_or_absent (finite.get rows k.0)
finds rows (Access.Write k v) = Answer.Done
finds rows (Access.Erase k) = Answer.Done

-- the rows, and their copies at the open savepoints, the innermost first
pub record Alone : Type 0 where
  pub rows : RowMap
  pub copies : List RowMap

abbrev pub at_start : RowMap → Alone
at_start rows = record { rows = rows; copies = [] }

-- the innermost of what is kept at open savepoints, or this where none is open
abbrev pub innermost : {A : Type 0} → A → List A → A
innermost none [] = none
innermost none (kept ∷ outer) = kept

abbrev pub without_innermost : {A : Type 0} → List A → List A
without_innermost [] = []
without_innermost (kept ∷ outer) = outer

-- one note of the transaction's work (JDBC: Connection.setSavepoint, rollback to a savepoint, releaseSavepoint)
abbrev pub stepped : Alone → StoreNote → Alone
stepped s (StoreNote.Access t a r) = record { rows = applied s.rows a; copies = s.copies }
stepped s (StoreNote.Auto a r) = record { rows = applied s.rows a; copies = s.copies }
stepped s (StoreNote.Point t) = record { rows = s.rows; copies = s.rows ∷ s.copies }
stepped s (StoreNote.BackTo t) = record { rows = innermost s.rows s.copies; copies = s.copies }
stepped s (StoreNote.Release t) = record { rows = s.rows; copies = without_innermost s.copies }
stepped s (StoreNote.Begin t) = s
stepped s (StoreNote.Commit t n) = s
stepped s (StoreNote.Rollback t) = s

-- the rows after the work
abbrev pub after : RowMap → List StoreNote → RowMap
after rows work = (fold stepped (at_start rows) work).rows

-- what the note's access finds or does here, if it is one
abbrev pub finding : Alone → StoreNote → Option Answer
finding s (StoreNote.Access t a r) = Some (finds s.rows a)
finding s (StoreNote.Auto a r) = Some (finds s.rows a)
finding s _ = None

abbrev pub findings : Alone → List StoreNote → List Answer
findings s [] = []
findings s (n ∷ work) = cons_option (finding s n) (findings (stepped s n) work)

-- what each access of the work finds or does, run alone
abbrev pub found_alone : RowMap → List StoreNote → List Answer
found_alone rows work = findings (at_start rows) work

-- what each access of the work was answered
abbrev pub answer_of : StoreNote → Option Answer
answer_of (StoreNote.Access t a r) = Some r
answer_of (StoreNote.Auto a r) = Some r
answer_of _ = None

abbrev pub answers : List StoreNote → List Answer
answers work = filter_map answer_of work

-- the row's value after, where it differs
abbrev pub change_at : RowMap → RowMap → ℕ → Option (ℕ × Option ℤ)
change_at before now k =
    if option_eq int_eq (finite.get before k) (finite.get now k) then None else Some (k, finite.get now k)

-- the rows whose values differ, by rising number, with their values after (none where the row is gone)
unfoldable pub net : RowMap → RowMap → List (RowNo × Option ℤ)
net before now = map (λ change. (record { 0 = change.0 }, change.1))
    (finite.entries (finite.from_entries {R = nat_cmp} (filter_map (change_at before now) (finite.keys before ++ finite.keys now))))
