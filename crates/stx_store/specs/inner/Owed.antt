-- How many entries the store owes to calls that can't fail: the ends of what has begun.
use Rattle.std.specs.Prelude.{ℕ, suc, ◌+◌, ◌≤◌, Bool, true, false, if◌then◌else◌, List, [], ◌∷◌, length}
use Rattle.stx_base.specs.declared.facts.StoreFacts.{StoreFacts}
use Rattle.stx_base.specs.declared.history.StoreNote.{StoreNote}
use Rattle.stx_base.specs.declared.history.StoreEntry.{StoreEntry}
use Rattle.stx_base.specs.Limits.{most_clients}
use Rattle.stx_base.specs.Histories.{store_notes, store_notes_of, sum_below}
use Rattle.stx_base.specs.Stores.{begun, is_live, savepoints}
use Rattle.stx_base.specs.Legal.{StoreLegal}

-- a savepoint may be gone back to once and released
abbrev pub costs : List Bool → ℕ
costs [] = 0
costs (false ∷ outer) = costs outer + 2
costs (true ∷ outer) = costs outer + 1

-- a live transaction has an end, and its savepoints before it
abbrev pub due : List StoreNote → ℕ → ℕ
due own t = if is_live own t then costs (savepoints own t) + 1 else 0

-- how many entries more a note makes the store owe at most: a savepoint its return and its release
abbrev pub more_owed : StoreNote → ℕ
more_owed (StoreNote.Begin t) = 1
more_owed (StoreNote.Point t) = 2
more_owed _ = 0

-- a note of a call that can't fail
abbrev pub was_owed : StoreNote → Bool
was_owed (StoreNote.BackTo t) = true
was_owed (StoreNote.Release t) = true
was_owed (StoreNote.Commit t n) = true
was_owed (StoreNote.Rollback t) = true
was_owed _ = false

-- what is due to the clients below a count, for the transactions up to the number that were begun
abbrev pub owed_to : ℕ → List StoreEntry → ℕ
owed_to clients history = sum_below clients (λ c. sum_below (suc (length (begun (store_notes history)))) (due (store_notes_of history c)))

-- what is due to all clients
unfoldable pub owed_all : List StoreEntry → ℕ
owed_all history = owed_to most_clients history

-- the history is legal, and there is room for all that is owed
pub record KeepsStore (facts : StoreFacts) (entries : List StoreEntry) (owed len capacity : ℕ) : Type 0 where
  pub legal : StoreLegal most_clients facts entries
  pub owes : owed_all entries ≤ owed
  pub room : len + owed ≤ capacity
