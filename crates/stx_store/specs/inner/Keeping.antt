-- What the locks, the rows and the journal that the store keeps are, by its history.
use Rattle.std.specs.Prelude.{◌≡◌, ℕ, ℤ, suc, zero, ◌≤◌, Bool, true, false, ◌&&◌, ◌==◌, List, [], ◌∷◌, ◌++◌, length, map, Option, Some, None, if◌then◌else◌}
use Rattle.std.specs.List.{list_any}
use Rattle.std.specs.Option.{unwrap_or, option_map}
use Rattle.std.specs.FinMap.{get}
use Rattle.stx_base.specs.declared.facts.StoreFacts.{StoreFacts}
use Rattle.stx_base.specs.declared.history.Access.{Access}
use Rattle.stx_base.specs.declared.history.Answer.{Answer}
use Rattle.stx_base.specs.declared.history.StoreNote.{StoreNote}
use Rattle.stx_base.specs.declared.history.StoreEntry.{StoreEntry}
use Rattle.stx_base.specs.Alone.{row_of}
use Rattle.stx_base.specs.Histories.{store_notes}
use Rattle.stx_base.specs.Stores.{begun, is_busy, is_live, takes, savepoints, work, committed_rows}
use Rattle.stx_journal.specs.Journal.{JournalView, committed_in}
use Rattle.stx_locks.specs.declared.table.Ask.{Ask}
use Rattle.stx_locks.specs.Locks.{LockMap, asked, after_asked}
use Rattle.stx_rows.specs.Rows.{OlderMap, RowsView, kept_last, change_to, stack_of, HasStack}
use Rattle.stx_scenario.specs.declared.numbers.RowNo.{RowNo}
use Rattle.stx_store.specs.inner.Owed.{KeepsStore}
use Rattle.stx_store.specs.inner.Cells.{Cell, cell_applied, cell_worked, found_at}

abbrev pub held_by : Option ℕ → ℕ → Bool
held_by None t = false
held_by (Some holder) t = holder == t

-- what a row held at each level of a stack of older values, the last level first
abbrev pub OlderStack : Type 0
OlderStack = List (Option (Option ℤ))

-- a row that no level has
abbrev pub nones : ℕ → OlderStack
nones zero = []
nones (suc n) = None ∷ nones n

-- the values that a row had at each level, from its value now
abbrev pub unrolled : Option ℤ → OlderStack → List (Option ℤ)
unrolled value [] = []
unrolled value (held ∷ below) = unwrap_or held value ∷ unrolled (unwrap_or held value) below

-- a row that a transaction holds is what its work makes of the committed value, and so at each savepoint
pub record Mirrors (value base : Option ℤ) (stack : OlderStack) (cell : Cell) : Type 0 where
  pub now : value ≡ cell.value
  pub older : unrolled value stack ≡ cell.copies ++ base ∷ []

-- the locks are those of the history, a held row mirrors its holder's work, and a free one is committed
pub record Keeps (notes : List StoreNote) (base : ℕ → Option ℤ) (locks : ℕ → Option ℕ) (values : ℕ → Option ℤ) (stacks : ℕ → ℕ → OlderStack) : Type 0 where
  pub locked : (k t : ℕ) → (is_live notes t && list_any (takes t k) notes) ≡ held_by (locks k) t
  pub height : (t k : ℕ) → is_live notes t ≡ true → length (stacks t k) ≡ suc (length (savepoints notes t))
  pub held : (t k : ℕ) → is_live notes t ≡ true → held_by (locks k) t ≡ true → Mirrors (values k) (base k) (stacks t k) (cell_worked k (base k) (work notes t))
  pub others : (t k : ℕ) → is_live notes t ≡ true → held_by (locks k) t ≡ false → stacks t k ≡ nones (suc (length (savepoints notes t)))
  pub free : (k : ℕ) → locks k ≡ None → values k ≡ base k

-- the older values of one row, of one transaction
abbrev pub stack_at : RowsView → ℕ → ℕ → OlderStack
stack_at rows t k = map (λ m. get m k) (stack_of rows t)

abbrev pub KeepsRows : StoreFacts → List StoreEntry → LockMap → RowsView → Type 0
KeepsRows facts history locks rows =
    Keeps (store_notes history) (λ k. get (committed_rows facts.values history) k) (λ k. get locks k) (λ k. get rows.values k) (stack_at rows)

-- and so many were begun, and the journal is the history's, with room for the ends that are owed
pub record KeepsState (facts : StoreFacts) (history : List StoreEntry) (owed count : ℕ) (locks : LockMap) (rows : RowsView) (journal : JournalView) : Type 0 where
  pub count_is : count ≡ length (begun (store_notes history))
  pub rows_are : KeepsRows facts history locks rows
  pub journal_is : journal.list ≡ committed_in facts.values history
  pub room : owed ≤ journal.spare

-- ---- what the calls of a transaction do to locks and rows

-- locks and rows are as they were
pub record IsSame (locks locks' : LockMap) (rows rows' : RowsView) : Type 0 where
  pub same_locks : (k : ℕ) → get locks' k ≡ get locks k
  pub same_values : (k : ℕ) → get rows'.values k ≡ get rows.values k
  pub same_older : (t : ℕ) → get rows'.older t ≡ get rows.older t

-- an answer, unless another transaction holds the row
abbrev pub unless_busy : Ask → Answer → Answer
unless_busy (Ask.Busy holder) answer = Answer.Busy holder
unless_busy Ask.Granted answer = answer

-- what the row held goes into the last map of older values, where the access changes it
abbrev pub kept_for : Access → Option ℤ → List OlderMap → List OlderMap
kept_for (Access.Read row) before stack = stack
kept_for (Access.Write row v) before stack = kept_last row.0 before stack
kept_for (Access.Erase row) before stack = kept_last row.0 before stack

-- an access that isn't busy was made
pub record IsMade (access : Access) (t : ℕ) (rows rows' : RowsView) : Type 0 where
  pub values : (k : ℕ) → get rows'.values k ≡ cell_applied k (get rows.values k) access
  pub older : HasStack rows t (option_map (kept_for access (get rows.values (row_of access))) (get rows.older t)) rows'

-- an access was answered: the row is the transaction's from then on, or another one's
pub record IsAnswered (access : Access) (t : ℕ) (answer : Answer) (locks locks' : LockMap) (rows rows' : RowsView) : Type 0 where
  pub answer_is : answer ≡ unless_busy (asked (get locks (row_of access)) t) (found_at (get rows.values (row_of access)) access)
  pub locks_are : (k : ℕ) → get locks' k ≡ (if k == row_of access then after_asked (get locks k) t else get locks k)
  pub made : is_busy answer ≡ false → IsMade access t rows rows'
  pub busy : is_busy answer ≡ true → IsSame locks locks' rows rows'

abbrev pub SameOlder : RowsView → RowsView → Type 0
SameOlder rows rows' = (t : ℕ) → get rows'.older t ≡ get rows.older t

-- what an access changes outside a transaction
abbrev pub changes_of : Option ℤ → Access → List (RowNo × Option ℤ)
changes_of before (Access.Read row) = []
changes_of before (Access.Write row v) = change_to before row (Some v)
changes_of before (Access.Erase row) = change_to before row None

-- ---- the whole

-- the entries are legal and have room, and what is kept beside them is what they say
pub record KeepsAll (facts : StoreFacts) (history : List StoreEntry) (owed len capacity count : ℕ) (locks : LockMap) (rows : RowsView) (journal : JournalView) : Type 0 where
  pub entries : KeepsStore facts history owed len capacity
  pub state : KeepsState facts history owed count locks rows journal
