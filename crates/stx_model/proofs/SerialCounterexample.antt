-- Why locks are kept to the end: a store whose return to a savepoint frees the locks taken since is not serial.
use Rattle.std.proofs.Common.{◌≡◌, ℕ, ℤ, pos, ◌<◌, ◌&&◌, ◌==◌, not, if◌then◌else◌, List, [], ◌∷◌, Option, Some, None, refl, arith, IsTrue, filter}
use Rattle.std.specs.List.{fold}
use Rattle.std.specs.FinMap.{get-insert}
use Rattle.std.proofs.lemmas.Cmp.{nat_cmp_total}
use Rattle.stx_base.specs.declared.facts.StoreFacts.{StoreFacts}
use Rattle.stx_base.specs.declared.call.Want.{Want}
use Rattle.stx_base.specs.declared.history.Access.{Access}
use Rattle.stx_base.specs.declared.history.Answer.{Answer}
use Rattle.stx_base.specs.declared.history.StoreNote.{StoreNote}
use Rattle.stx_base.specs.declared.history.StoreEntry.{StoreEntry}
use Rattle.stx_base.specs.Alone.{RowMap, row_of, finds, after, found_alone, answers}
use Rattle.stx_base.specs.Histories.{store_notes, store_notes_of}
use Rattle.stx_base.specs.Pools.{contains}
use Rattle.stx_base.specs.Stores.{live, is_busy, is_caller, smallest, busy_or, work, committed_rows, store_reply, store_want, store_proper}
use Rattle.stx_base.specs.Legal.{LegalFrom, StoreLegal}
use Rattle.stx_base.specs.Serial.{Serial}
use Rattle.stx_model.proofs.SerialLaw.{journal_serial}
use Rattle.stx_model.proofs.Legality.{legal_if}
use Rattle.stx_model.proofs.Small.{a}
use Rattle.stx_model.proofs.ReportRows.{by, made_with}

-- ---- the variant: a return frees what was locked since the savepoint

-- the rows that a transaction has locked, and those that it had locked at each open savepoint, the innermost first
pub record Locks : Type 0 where
  pub rows : List ℕ
  pub marks : List (List ℕ)

-- what was locked at the innermost savepoint
abbrev pub last_mark : List ℕ → List (List ℕ) → List ℕ
last_mark rows [] = rows
last_mark rows (mark ∷ marks) = mark

abbrev pub without_last_mark : List (List ℕ) → List (List ℕ)
without_last_mark [] = []
without_last_mark (mark ∷ marks) = marks

-- the locks after one more note: a return goes back to the locks that the savepoint found
abbrev pub locks_after : ℕ → Locks → StoreNote → Locks
locks_after t s (StoreNote.Access u a r) = if u == t && not (is_busy r) then record { rows = row_of a ∷ s.rows; marks = s.marks } else s
locks_after t s (StoreNote.Point u) = if u == t then record { rows = s.rows; marks = s.rows ∷ s.marks } else s
locks_after t s (StoreNote.BackTo u) = if u == t then record { rows = last_mark s.rows s.marks; marks = s.marks } else s
locks_after t s (StoreNote.Release u) = if u == t then record { rows = s.rows; marks = without_last_mark s.marks } else s
locks_after t s _ = s

abbrev pub locked_rows : List StoreNote → ℕ → List ℕ
locked_rows notes t = (fold (locks_after t) (record { rows = []; marks = [] }) notes).rows

-- the live transactions that have locked the row and not freed it by a return
abbrev pub freeing_holders : List StoreNote → ℕ → List ℕ
freeing_holders notes k = filter (λ t. contains (locked_rows notes t) k) (live notes)

abbrev pub freeing_conflicts : List StoreNote → ℕ → Option ℕ → List ℕ
freeing_conflicts notes k caller = filter (λ t. not (is_caller caller t)) (freeing_holders notes k)

-- the store's reply, by these holders
unfoldable pub freeing_reply : StoreFacts → List StoreEntry → Want → Option StoreNote
freeing_reply facts before (Want.Access t a) =
    Some (StoreNote.Access t a (busy_or (smallest (freeing_conflicts (store_notes before) (row_of a) (Some t)))
    (finds (after (committed_rows facts.values before) (work (store_notes before) t)) a)))
freeing_reply facts before (Want.Auto a) =
    Some (StoreNote.Auto a (busy_or (smallest (freeing_conflicts (store_notes before) (row_of a) None)) (finds (committed_rows facts.values before) a)))
freeing_reply facts before want = store_reply facts before want

-- legal histories by this reply
pub record FreeingFits (clients : ℕ) (facts : StoreFacts) (before : List StoreEntry) (entry : StoreEntry) : Type 0 where
  pub client : entry.client < clients
  pub proper : IsTrue (store_proper (store_notes_of before entry.client) (store_want entry.note))
  pub reply : freeing_reply facts before (store_want entry.note) ≡ Some entry.note

-- ---- a history that it allows: a transaction reads a row twice, and another's write comes between

abbrev pub read_twice : List StoreEntry
read_twice = by 0 (StoreNote.Begin 1) ∷ by 0 (StoreNote.Point 1)
    ∷ by 0 (StoreNote.Access 1 (Access.Read a) (Answer.Found (pos 7)))
    ∷ by 0 (StoreNote.BackTo 1)
    ∷ by 1 (StoreNote.Auto (Access.Write a (pos 9)) Answer.Done)
    ∷ by 0 (StoreNote.Access 1 (Access.Read a) (Answer.Found (pos 9)))
    ∷ by 0 (StoreNote.Release 1)
    ∷ by 0 (StoreNote.Commit 1 2)
    ∷ []

pub read_twice_fits : LegalFrom (FreeingFits 2 (made_with (pos 7 ∷ []))) [] read_twice
unfolding freeing_reply store_reply store_proper
read_twice_fits =
    legal_if 2 (λ e. e.client) _ _ (λ e. Some e.note) (FreeingFits 2 (made_with (pos 7 ∷ [])))
    (λ before e below proper reply. record { client = below; proper = proper; reply = reply }) [] read_twice refl (simp (get-insert {X = ℤ} nat_cmp_total))

-- over no rows at all does its work, run alone, find 7 and then 9
never_alone : (rows : RowMap) → found_alone rows (work (store_notes read_twice) 1) ≡ answers (work (store_notes read_twice) 1) → ⊥
never_alone rows same = two_values _ same
  where
    two_values : (x : Answer) → x ∷ x ∷ [] ≡ Answer.Found (pos 7) ∷ Answer.Found (pos 9) ∷ [] → ⊥
    two_values x e = grind arith

pub read_twice_not_serial : Serial (made_with (pos 7 ∷ [])) read_twice → ⊥
read_twice_not_serial serial = never_alone _ (serial 1 _ refl)

-- so the variant breaks the law
pub freeing_locks_breaks_the_law :
    ((clients : ℕ) (facts : StoreFacts) (history : List StoreEntry) → LegalFrom (FreeingFits clients facts) [] history → Serial facts history) → ⊥
freeing_locks_breaks_the_law law = read_twice_not_serial (law 2 (made_with (pos 7 ∷ [])) read_twice read_twice_fits)

-- and the store doesn't allow that history
pub store_refuses_it : StoreLegal 2 (made_with (pos 7 ∷ [])) read_twice → ⊥
store_refuses_it legal = read_twice_not_serial (journal_serial 2 (made_with (pos 7 ∷ [])) read_twice legal)
