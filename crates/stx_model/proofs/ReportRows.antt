-- Worked rows whole: the histories are legal entry by entry, each client's lines are its script over its own notes, and
-- this is the printed report.
use Rattle.std.proofs.Common.{◌≡◌, ℕ, zero, suc, ◌<◌, ℤ, pos, List, [], ◌∷◌, map, Option, Some, None, refl, sym, ap, subst, arith}
use Rattle.std.specs.Prelude.{codes, slice_get}
use Rattle.std.specs.List.{filter_map}
use Rattle.std.proofs.lemmas.Cmp.{nat_cmp_total}
use Rattle.std.specs.Ordering.{nat_cmp}
use Rattle.std.specs.Fmt.{digits}
use Rattle.std.specs.FinMap.{get-insert, get-empty}
use Rattle.stx_base.specs.declared.facts.StoreFacts.{StoreFacts}
use Rattle.stx_base.specs.declared.history.Access.{Access}
use Rattle.stx_base.specs.declared.history.Answer.{Answer}
use Rattle.stx_base.specs.declared.history.PoolNote.{PoolNote}
use Rattle.stx_base.specs.declared.history.PoolEntry.{PoolEntry}
use Rattle.stx_base.specs.declared.history.StoreNote.{StoreNote}
use Rattle.stx_base.specs.declared.history.StoreEntry.{StoreEntry}
use Rattle.stx_base.specs.declared.line.Line.{Line}
use Rattle.stx_base.specs.declared.outcome.Outcome.{Outcome}
use Rattle.stx_base.specs.Alone.{first_rows}
use Rattle.stx_base.specs.Pools.{pool_reply, pool_proper}
use Rattle.stx_base.specs.Stores.{committed_rows, store_reply, store_proper}
use Rattle.stx_base.specs.Legal.{PoolLegal, StoreLegal}
use Rattle.stx_base.specs.Lines.{line_words}
use Rattle.stx_base.specs.Report.{printed, clients_text, lines_text, journal_text, final_rows}
use Rattle.stx_model.specs.Meanings.{state_of, stop_of}
use Rattle.stx_model.specs.Brackets.{IsBalanced, connection_bracket}
use Rattle.stx_model.specs.Faithful.{Faithful, IsPlayedOut}
use Rattle.stx_model.proofs.SerialLaw.{journal_serial}
use Rattle.stx_model.proofs.Legality.{pool_legal, store_legal}
use Rattle.stx_model.proofs.Small.{a, k, pool_note, store_note, Says}
use Rattle.stx_model.proofs.FlatRows.{writes_and_reads, written_and_read, rivals, written, refused_beside, a_transaction_writes_reads_and_commits}
use Rattle.stx_model.proofs.ShopRow.{shop, placed}

-- ---- histories

-- an entry of client c
abbrev pub pool_by : ℕ → PoolNote → PoolEntry
pool_by c note = record { client = c; note = note }

abbrev pub by : ℕ → StoreNote → StoreEntry
by c note = record { client = c; note = note }

-- a store with these first values
abbrev pub made_with : List ℤ → StoreFacts
made_with values = record { values = values }

-- the histories of a client that is alone
abbrev pool_alone : List Line → List PoolEntry
pool_alone lines = map (pool_by 0) (filter_map pool_note lines)

abbrev store_alone : List Line → List StoreEntry
store_alone lines = map (by 0) (filter_map store_note lines)

abbrev alone : List Line → Outcome
alone lines = record { lines = lines ∷ []; pool = pool_alone lines; store = store_alone lines }

-- ---- one transaction

pub one_method_printed : printed writes_and_reads (alone written_and_read) ≡ codes "springtx 1\nclient 0\ntop 0\ncall b.m required\ntake 1 @p1\nbegin 1 @s1\nopen fresh sync\nwrite a 5 done @s2\nread a found 5 @s3\nend commit\ncommit 1 @s4\ngive 1 @p2\nleave b.m\njournal\ncommit 1 client 0 tx 1 @s4\nrows\nrow a 5\nend\n"
unfolding printed clients_text lines_text journal_text line_words digits
one_method_printed = simp (get-insert {X = ℤ} nat_cmp_total, get-empty {X = ℤ} nat_cmp)

pub one_method_legal : StoreLegal 1 (made_with []) (store_alone written_and_read)
unfolding store_reply store_proper
one_method_legal = store_legal 1 (made_with []) (store_alone written_and_read) refl (simp (get-insert {X = ℤ} nat_cmp_total))

pub one_method_pool_legal : PoolLegal 1 8 (pool_alone written_and_read)
unfolding pool_reply pool_proper
one_method_pool_legal = pool_legal 1 8 (pool_alone written_and_read) refl refl

-- the run is faithful: its two histories are legal, its lines are its script, its journal is serial, and all is back
pub one_method_faithful : Faithful writes_and_reads (alone written_and_read)
unfolding Says
one_method_faithful = record {
  pool_legal = one_method_pool_legal;
  store_legal = one_method_legal;
  one_trace_each = refl;
  scripts = λ c below. subst (IsPlayedOut writes_and_reads (alone written_and_read)) (the_first c below) played_out;
  serial = journal_serial 1 (made_with []) (store_alone written_and_read) one_method_legal;
  back = record { pool = refl; store = refl; calls = balanced };
}
  where
    the_first : (c : ℕ) → c < 1 → 0 ≡ c
    the_first c below = omega arith

    played_out : IsPlayedOut writes_and_reads (alone written_and_read) 0
    played_out = record {
      done = ap stop_of a_transaction_writes_reads_and_commits;
      pool_read = ap (λ r. (state_of r).pool) a_transaction_writes_reads_and_commits;
      store_read = ap (λ r. (state_of r).store) a_transaction_writes_reads_and_commits;
      lines = ap (λ r. Some (state_of r).lines) (sym a_transaction_writes_reads_and_commits);
    }

    balanced : (c : ℕ) (lines : List Line) → slice_get (written_and_read ∷ []) c ≡ Some lines → IsBalanced (map connection_bracket lines)
    balanced zero lines here = let same : written_and_read ≡ lines = cc in subst (λ ls. IsBalanced (map connection_bracket ls)) same refl
    balanced (suc c) lines here = absurd (nothing here)
      where
        nothing : ◌≡◌ {A = Option (List Line)} None (Some lines) → ⊥
        nothing e = cc

-- ---- a row that another client's transaction holds is busy, and is free once that has committed

abbrev busy_rival : List StoreEntry
busy_rival = by 0 (StoreNote.Begin 1) ∷ by 0 (StoreNote.Access 1 (Access.Write a (pos 1)) Answer.Done)
    ∷ by 1 (StoreNote.Begin 2) ∷ by 1 (StoreNote.Access 2 (Access.Read a) (Answer.Busy 1))
    ∷ by 0 (StoreNote.Commit 1 1) ∷ by 1 (StoreNote.Rollback 2)
    ∷ []

-- each takes a connection while the other has one out
abbrev side_by_side : List PoolEntry
side_by_side = pool_by 0 (PoolNote.Taken 1) ∷ pool_by 1 (PoolNote.Taken 2) ∷ pool_by 0 (PoolNote.Given 1) ∷ pool_by 1 (PoolNote.Given 2) ∷ []

pub side_by_side_legal : PoolLegal 2 8 side_by_side
unfolding pool_reply pool_proper
side_by_side_legal = pool_legal 2 8 side_by_side refl refl

pub busy_rival_legal : StoreLegal 2 (made_with []) busy_rival
unfolding store_reply store_proper
busy_rival_legal = store_legal 2 (made_with []) busy_rival refl refl

-- each client's lines have the places of its own entries
abbrev busy_text : List ℕ
busy_text = codes "springtx 1\nclient 0\ntop 0\ncall b.m required\ntake 1 @p1\nbegin 1 @s1\nopen fresh sync\nwrite a 1 done @s2\nend commit\ncommit 1 @s5\ngive 1 @p3\nleave b.m\nclient 1\ntop 0\ncall b.n required\ntake 2 @p2\nbegin 2 @s3\nopen fresh sync\nread a busy 1 @s4\nthrow CannotAcquireLockException\nrules rollback by default\nend rollback\nrollback @s6\ngive 2 @p4\nleave b.n throws CannotAcquireLockException\njournal\ncommit 1 client 0 tx 1 @s5\nrows\nrow a 1\nend\n"

abbrev busy_outcome : Outcome
busy_outcome = record { lines = written ∷ refused_beside ∷ []; pool = side_by_side; store = busy_rival }

pub busy_rival_printed : printed rivals busy_outcome ≡ busy_text
unfolding printed clients_text lines_text journal_text line_words digits
busy_rival_printed = simp (get-insert {X = ℤ} nat_cmp_total, get-empty {X = ℤ} nat_cmp)

abbrev later_rival : List StoreEntry
later_rival = by 0 (StoreNote.Begin 1) ∷ by 0 (StoreNote.Access 1 (Access.Write a (pos 1)) Answer.Done) ∷ by 0 (StoreNote.Commit 1 1)
    ∷ by 1 (StoreNote.Begin 2) ∷ by 1 (StoreNote.Access 2 (Access.Read a) (Answer.Found (pos 1))) ∷ by 1 (StoreNote.Commit 2 2)
    ∷ []

pub later_rival_legal : StoreLegal 2 (made_with []) later_rival
unfolding store_reply store_proper
later_rival_legal = store_legal 2 (made_with []) later_rival refl (simp (get-insert {X = ℤ} nat_cmp_total))

-- a connection that was given is taken again
abbrev in_turn : List PoolEntry
in_turn = pool_by 0 (PoolNote.Taken 1) ∷ pool_by 0 (PoolNote.Given 1) ∷ pool_by 1 (PoolNote.Taken 1) ∷ pool_by 1 (PoolNote.Given 1) ∷ []

pub in_turn_legal : PoolLegal 2 8 in_turn
unfolding pool_reply pool_proper
in_turn_legal = pool_legal 2 8 in_turn refl refl

-- ---- a savepoint keeps its locks: client 1 is busy at the row after client 0 has gone back
abbrev pub kept_locks : List StoreEntry
kept_locks = by 0 (StoreNote.Begin 1) ∷ by 0 (StoreNote.Point 1)
    ∷ by 0 (StoreNote.Access 1 (Access.Write k (pos 5)) Answer.Done)
    ∷ by 0 (StoreNote.BackTo 1) ∷ by 0 (StoreNote.Release 1)
    ∷ by 1 (StoreNote.Begin 2)
    ∷ by 1 (StoreNote.Access 2 (Access.Write k (pos 9)) (Answer.Busy 1))
    ∷ by 0 (StoreNote.Access 1 (Access.Read k) Answer.Absent)
    ∷ by 0 (StoreNote.Commit 1 1)
    ∷ by 1 (StoreNote.Rollback 2)
    ∷ []

pub kept_locks_legal : StoreLegal 2 (made_with []) kept_locks
unfolding store_reply store_proper
kept_locks_legal = store_legal 2 (made_with []) kept_locks refl (simp (get-empty {X = ℤ} nat_cmp))

-- its one commit leaves no row
pub kept_locks_rows : committed_rows [] kept_locks ≡ first_rows []
kept_locks_rows = refl

pub kept_locks_commits : journal_text 1 1 kept_locks ≡ codes "commit 1 client 0 tx 1 @s9\n"
unfolding journal_text digits
kept_locks_commits = refl

-- ---- a shop

pub shop_trace : clients_text shop (alone placed) 0 (placed ∷ []) ≡ codes "client 0\ntop 0\ncall orders.place required\ntake 1 @p1\nbegin 1 @s1\nopen fresh sync\ncall audit.note requires_new\nunbind 1\ntake 2 @p2\nbegin 2 @s2\nopen fresh sync\nread audit absent @s3\nwrite audit 1 done @s4\nend commit\ncommit 1 @s5\ngive 2 @p3\nbind 1\nleave audit.note\ncall stock.pick nested\nsavepoint @s6\nopen point\nread stock found 2 @s7\nthrow IllegalStateException\nrules rollback by default\nend rollback\nback_to @s8\nrelease @s9\nleave stock.pick throws IllegalStateException\ncatch IllegalStateException\nread orders found 0 @s10\nwrite orders 1 done @s11\npublish placed\nregister mail\nend commit\nbefore_commit mail\nbefore_completion mail\ncommit 2 @s12\nafter_commit mail\nafter_completion mail committed\nlisten mail\ncall audit.mail requires_new\nunbind 1\ntake 2 @p4\nbegin 3 @s13\nopen fresh sync\nread mails absent @s14\nwrite mails 1 done @s15\nend commit\ncommit 3 @s16\ngive 2 @p5\nbind 1\nleave audit.mail\ngive 1 @p6\nleave orders.place\n"
unfolding clients_text lines_text line_words digits
shop_trace = refl

pub shop_journal : journal_text 1 1 (store_alone placed) ≡ codes "commit 1 client 0 tx 2 @s5\ncommit 2 client 0 tx 1 @s12\ncommit 3 client 0 tx 3 @s16\n"
unfolding journal_text digits
shop_journal = refl

pub shop_rows : final_rows shop (store_alone placed)
    ≡ (codes "audit", pos 1) ∷ (codes "mails", pos 1) ∷ (codes "orders", pos 1) ∷ (codes "stock", pos 2) ∷ []
shop_rows = simp (get-insert {X = ℤ} nat_cmp_total)
