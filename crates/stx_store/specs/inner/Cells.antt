-- One row of a transaction's own map: its value, and its copies at the open savepoints.
use Rattle.std.specs.Prelude.{ℕ, ℤ, ◌==◌, if◌then◌else◌, List, [], ◌∷◌, Option, Some, None}
use Rattle.std.specs.List.{fold}
use Rattle.stx_base.specs.declared.history.Access.{Access}
use Rattle.stx_base.specs.declared.history.Answer.{Answer}
use Rattle.stx_base.specs.declared.history.StoreNote.{StoreNote}
use Rattle.stx_base.specs.Alone.{innermost, without_innermost, found_or_absent}

-- the row's value, if it is there, and those at the open savepoints, the innermost first
pub record Cell : Type 0 where
  pub value : Option ℤ
  pub copies : List (Option ℤ)

-- what an access makes of the value of row k
abbrev pub cell_applied : ℕ → Option ℤ → Access → Option ℤ
cell_applied k value (Access.Read row) = value
cell_applied k value (Access.Write row v) = if k == row.0 then Some v else value
cell_applied k value (Access.Erase row) = if k == row.0 then None else value

-- what a note of a transaction's work makes of row k
abbrev pub cell_stepped : ℕ → Cell → StoreNote → Cell
cell_stepped k c (StoreNote.Access t a r) = record { value = cell_applied k c.value a; copies = c.copies }
cell_stepped k c (StoreNote.Auto a r) = record { value = cell_applied k c.value a; copies = c.copies }
cell_stepped k c (StoreNote.Point t) = record { value = c.value; copies = c.value ∷ c.copies }
cell_stepped k c (StoreNote.BackTo t) = record { value = innermost c.value c.copies; copies = c.copies }
cell_stepped k c (StoreNote.Release t) = record { value = c.value; copies = without_innermost c.copies }
cell_stepped k c (StoreNote.Begin t) = c
cell_stepped k c (StoreNote.Commit t n) = c
cell_stepped k c (StoreNote.Rollback t) = c

-- row k after the work, from this value
abbrev pub cell_worked : ℕ → Option ℤ → List StoreNote → Cell
cell_worked k value works = fold (cell_stepped k) (record { value = value; copies = [] }) works

-- the value of row k after the work
abbrev pub cell_after : ℕ → Option ℤ → List StoreNote → Option ℤ
cell_after k value works = (cell_worked k value works).value

-- what an access finds or does where its row has this value
abbrev pub found_at : Option ℤ → Access → Answer
found_at value (Access.Read row) = found_or_absent value
found_at value (Access.Write row v) = Answer.Done
found_at value (Access.Erase row) = Answer.Done
