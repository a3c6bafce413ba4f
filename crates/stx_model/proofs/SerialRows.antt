-- Worked rows of the serial law: a return to a savepoint, rivals that were refused or rolled back, and an own statement.
use Rattle.std.proofs.Common.{◌≡◌, ℤ, zero, suc, pos, List, [], ◌∷◌, Option, Some, None, refl, subst}
use Rattle.std.proofs.lemmas.Cmp.{nat_cmp_total}
use Rattle.std.specs.Ordering.{nat_cmp}
use Rattle.std.specs.FinMap.{get-insert, get-empty}
use Rattle.stx_base.specs.declared.history.Access.{Access}
use Rattle.stx_base.specs.declared.history.Answer.{Answer}
use Rattle.stx_base.specs.declared.history.StoreNote.{StoreNote}
use Rattle.stx_base.specs.declared.history.StoreEntry.{StoreEntry}
use Rattle.stx_base.specs.Alone.{first_rows, found_alone, answers}
use Rattle.stx_base.specs.Stores.{Transaction, journal, store_reply, store_proper}
use Rattle.stx_base.specs.Legal.{StoreLegal}
use Rattle.stx_base.specs.Serial.{Serial}
use Rattle.stx_model.proofs.SerialLaw.{journal_serial}
use Rattle.stx_model.proofs.Legality.{store_legal}
use Rattle.stx_model.proofs.Small.{a, k}
use Rattle.stx_model.proofs.ReportRows.{by, made_with, kept_locks}

-- ---- a row is written after a savepoint, and the write is undone; a rival is refused, and rolled back

abbrev undoer : Transaction
undoer = record {
  client = 0;
  tx = Some 1;
  work = StoreNote.Point 1 ∷ StoreNote.Access 1 (Access.Write k (pos 5)) Answer.Done ∷ StoreNote.BackTo 1 ∷ StoreNote.Release 1
      ∷ StoreNote.Access 1 (Access.Read k) Answer.Absent ∷ [];
}

kept_locks_journal : journal kept_locks ≡ undoer ∷ []
kept_locks_journal = refl

-- run alone over no rows, it finds the row absent again after its return
undoer_alone : found_alone (first_rows []) undoer.work ≡ Answer.Done ∷ Answer.Absent ∷ []
undoer_alone = simp (get-empty {X = ℤ} nat_cmp)

-- serial as it computes
pub kept_locks_serial : Serial (made_with []) kept_locks
kept_locks_serial zero j at = subst (λ (x : Transaction). found_alone (first_rows []) x.work ≡ answers x.work) (the_one undoer at) undoer_alone
  where
    the_one : (x : Transaction) → Some x ≡ Some j → x ≡ j
    the_one x e = cc
kept_locks_serial (suc n) j at = absurd (nothing at)
  where
    nothing : ◌≡◌ {A = Option Transaction} None (Some j) → ⊥
    nothing e = cc

-- ---- two transactions and an own statement; the rival writes a row that the other then reads, and is rolled back; serial by the law

abbrev rival : List StoreEntry
rival = by 0 (StoreNote.Begin 1) ∷ by 1 (StoreNote.Begin 2)
    ∷ by 1 (StoreNote.Access 2 (Access.Write k (pos 30)) Answer.Done)
    ∷ by 0 (StoreNote.Access 1 (Access.Write a (pos 5)) Answer.Done)
    ∷ by 0 (StoreNote.Point 1)
    ∷ by 0 (StoreNote.Access 1 (Access.Write a (pos 6)) Answer.Done)
    ∷ by 0 (StoreNote.Access 1 (Access.Read k) (Answer.Busy 2))
    ∷ by 0 (StoreNote.BackTo 1)
    ∷ by 1 (StoreNote.Rollback 2)
    ∷ by 0 (StoreNote.Access 1 (Access.Read k) (Answer.Found (pos 8)))
    ∷ by 0 (StoreNote.Access 1 (Access.Read a) (Answer.Found (pos 5)))
    ∷ by 0 (StoreNote.Release 1)
    ∷ by 1 (StoreNote.Auto (Access.Read a) (Answer.Busy 1))
    ∷ by 0 (StoreNote.Commit 1 1)
    ∷ by 1 (StoreNote.Auto (Access.Read a) (Answer.Found (pos 5)))
    ∷ []

rival_legal : StoreLegal 2 (made_with (pos 7 ∷ pos 8 ∷ [])) rival
unfolding store_reply store_proper
rival_legal = store_legal 2 (made_with (pos 7 ∷ pos 8 ∷ [])) rival refl (simp (get-insert {X = ℤ} nat_cmp_total))

-- the transaction that commits beside it
abbrev survivor : Transaction
survivor = record {
  client = 0;
  tx = Some 1;
  work = StoreNote.Access 1 (Access.Write a (pos 5)) Answer.Done ∷ StoreNote.Point 1
      ∷ StoreNote.Access 1 (Access.Write a (pos 6)) Answer.Done ∷ StoreNote.BackTo 1
      ∷ StoreNote.Access 1 (Access.Read k) (Answer.Found (pos 8))
      ∷ StoreNote.Access 1 (Access.Read a) (Answer.Found (pos 5)) ∷ StoreNote.Release 1 ∷ [];
}

-- the rival leaves no trace in the journal, and the refused statement neither
rival_journal : journal rival ≡ survivor ∷ record { client = 1; tx = None; work = StoreNote.Auto (Access.Read a) (Answer.Found (pos 5)) ∷ [] } ∷ []
rival_journal = refl

-- run alone, it finds the rival's row unchanged, and what it wrote itself before the savepoint
survivor_alone :
    found_alone (first_rows (pos 7 ∷ pos 8 ∷ [])) survivor.work ≡ Answer.Done ∷ Answer.Done ∷ Answer.Found (pos 8) ∷ Answer.Found (pos 5) ∷ []
survivor_alone = simp (get-insert {X = ℤ} nat_cmp_total)

pub rival_serial : Serial (made_with (pos 7 ∷ pos 8 ∷ [])) rival
rival_serial = journal_serial 2 (made_with (pos 7 ∷ pos 8 ∷ [])) rival rival_legal
