-- The store: which transactions live, which rows they hold, the journal, the rows, and what the store replies.
use Rattle.std.specs.Prelude.{ℕ, ℤ, ◌+◌, Bool, true, false, not, ◌&&◌, ◌==◌, nat_lt, min, if◌then◌else◌, List, [], ◌∷◌, length, Option, Some, None}
use Rattle.std.specs.List.{filter, filter_map, list_any, fold}
use Rattle.stx_scenario.specs.declared.scenario.Scenario.{Scenario}
use Rattle.stx_base.specs.declared.call.Want.{Want}
use Rattle.stx_base.specs.declared.facts.StoreFacts.{StoreFacts}
use Rattle.stx_base.specs.declared.history.Access.{Access}
use Rattle.stx_base.specs.declared.history.Answer.{Answer}
use Rattle.stx_base.specs.declared.history.StoreNote.{StoreNote}
use Rattle.stx_base.specs.declared.history.StoreEntry.{StoreEntry}
use Rattle.stx_base.specs.Limits.{most_begins}
use Rattle.stx_base.specs.Alone.{RowMap, first_rows, row_of, finds, after, without_innermost}
use Rattle.stx_base.specs.Histories.{store_notes, has_room}
use Rattle.stx_base.specs.Pools.{contains}

-- what the store of a scenario is made with
abbrev pub store_facts : Scenario → StoreFacts
store_facts S = record { values = S.values }

-- ---- transactions

abbrev pub begun_by : StoreNote → Option ℕ
begun_by (StoreNote.Begin t) = Some t
begun_by _ = None

-- the transactions that were begun, in order
abbrev pub begun : List StoreNote → List ℕ
begun notes = filter_map begun_by notes

abbrev pub ends : ℕ → StoreNote → Bool
ends t (StoreNote.Commit u n) = u == t
ends t (StoreNote.Rollback u) = u == t
ends t _ = false

-- the transactions that were begun and neither committed nor rolled back
abbrev pub live : List StoreNote → List ℕ
live notes = filter (λ t. not (list_any (ends t) notes)) (begun notes)

abbrev pub is_live : List StoreNote → ℕ → Bool
is_live notes t = contains (live notes) t

-- ---- locks: an access that isn't busy takes its row, and the row is held to the transaction's end

abbrev pub is_busy : Answer → Bool
is_busy (Answer.Busy t) = true
is_busy _ = false

abbrev pub takes : ℕ → ℕ → StoreNote → Bool
takes t k (StoreNote.Access u a r) = u == t && row_of a == k && not (is_busy r)
takes t k _ = false

-- the live transactions that have an access to the row that isn't busy
abbrev pub holders : List StoreNote → ℕ → List ℕ
holders notes k = filter (λ t. list_any (takes t k) notes) (live notes)

-- the caller is a transaction, or an own statement
abbrev pub is_caller : Option ℕ → ℕ → Bool
is_caller (Some t) u = u == t
is_caller None u = false

-- the holders that keep a caller's access from its row
abbrev pub conflicts : StoreFacts → List StoreNote → Option ℕ → Access → List ℕ
conflicts facts notes caller a = filter (λ t. not (is_caller caller t)) (holders notes (row_of a))

abbrev pub smallest : List ℕ → Option ℕ
smallest [] = None
smallest (n ∷ ns) = Some (fold min n ns)

-- ---- the work of a transaction, and its savepoints

-- an access that wasn't busy, a savepoint, a return or a release, of this transaction
abbrev pub works : ℕ → StoreNote → Bool
works t (StoreNote.Access u a r) = u == t && not (is_busy r)
works t (StoreNote.Point u) = u == t
works t (StoreNote.BackTo u) = u == t
works t (StoreNote.Release u) = u == t
works t _ = false

abbrev pub work : List StoreNote → ℕ → List StoreNote
work notes t = filter (works t) notes

-- the transaction has gone back to the innermost savepoint
abbrev pub with_return : List Bool → List Bool
with_return [] = []
with_return (_ ∷ outer) = true ∷ outer

abbrev pub pointed : ℕ → List Bool → StoreNote → List Bool
pointed t opened (StoreNote.Point u) = if u == t then false ∷ opened else opened
pointed t opened (StoreNote.BackTo u) = if u == t then with_return opened else opened
pointed t opened (StoreNote.Release u) = if u == t then without_innermost opened else opened
pointed t opened _ = opened

-- the open savepoints, the innermost first: whether the transaction has gone back to each
abbrev pub savepoints : List StoreNote → ℕ → List Bool
savepoints notes t = fold (pointed t) [] notes

-- ---- the journal and the rows

-- a committed transaction, or an own statement, with its work
pub record Transaction : Type 0 where
  pub client : ℕ
  pub tx : Option ℕ
  pub work : List StoreNote

abbrev pub committed_note : List StoreNote → ℕ → StoreNote → Option Transaction
committed_note notes c (StoreNote.Commit t n) = Some (record { client = c; tx = Some t; work = work notes t })
committed_note notes c (StoreNote.Auto a r) =
    if is_busy r then None else Some (record { client = c; tx = None; work = StoreNote.Auto a r ∷ [] })
committed_note notes c _ = None

abbrev pub committed_by : List StoreNote → StoreEntry → Option Transaction
committed_by notes e = committed_note notes e.client e.note

-- the committed transactions, in the order of their commits
abbrev pub journal : List StoreEntry → List Transaction
journal history = filter_map (committed_by (store_notes history)) history

-- the rows after these, one after the other
abbrev pub after_all : RowMap → List Transaction → RowMap
after_all rows js = fold (λ m j. after m j.work) rows js

-- the committed rows: the first values, and then the whole journal
abbrev pub committed_rows : List ℤ → List StoreEntry → RowMap
committed_rows values history = after_all (first_rows values) (journal history)

-- ---- replies

-- busy with the least transaction in the way, else what the access finds
abbrev pub busy_or : Option ℕ → Answer → Answer
busy_or (Some t) found = Answer.Busy t
busy_or None found = found

-- an access of a transaction: it sees the committed rows and its own work
abbrev pub access_answer : StoreFacts → List StoreEntry → ℕ → Access → Answer
access_answer facts before t a =
    busy_or (smallest (conflicts facts (store_notes before) (Some t) a))
    (finds (after (committed_rows facts.values before) (work (store_notes before) t)) a)

-- an own statement sees the committed rows
abbrev pub auto_answer : StoreFacts → List StoreEntry → Access → Answer
auto_answer facts before a =
    busy_or (smallest (conflicts facts (store_notes before) None a)) (finds (committed_rows facts.values before) a)

-- the reply of a store that is made with these, after these entries
unfoldable pub store_reply : StoreFacts → List StoreEntry → Want → Option StoreNote
store_reply facts before Want.Begin = Some (StoreNote.Begin (length (begun (store_notes before)) + 1))
store_reply facts before (Want.Access t a) = Some (StoreNote.Access t a (access_answer facts before t a))
store_reply facts before (Want.Point t) = Some (StoreNote.Point t)
store_reply facts before (Want.BackTo t) = Some (StoreNote.BackTo t)
store_reply facts before (Want.Release t) = Some (StoreNote.Release t)
store_reply facts before (Want.Commit t) = Some (StoreNote.Commit t (length (journal before) + 1))
store_reply facts before (Want.Rollback t) = Some (StoreNote.Rollback t)
store_reply facts before (Want.Auto a) = Some (StoreNote.Auto a (auto_answer facts before a))
store_reply facts before _ = None

-- the call that a note answers
abbrev pub store_want : StoreNote → Want
store_want (StoreNote.Begin t) = Want.Begin
store_want (StoreNote.Access t a r) = Want.Access t a
store_want (StoreNote.Point t) = Want.Point t
store_want (StoreNote.BackTo t) = Want.BackTo t
store_want (StoreNote.Release t) = Want.Release t
store_want (StoreNote.Commit t n) = Want.Commit t
store_want (StoreNote.Rollback t) = Want.Rollback t
store_want (StoreNote.Auto a r) = Want.Auto a

-- ---- proper calls

-- a return needs a savepoint to which the transaction hasn't gone back before
abbrev pub can_go_back : List Bool → Bool
can_go_back [] = false
can_go_back (was_gone_back ∷ outer) = not was_gone_back

abbrev pub is_pointed : List Bool → Bool
is_pointed [] = false
is_pointed (_ ∷ outer) = true

-- what a call names is the client's own and live, and its savepoint is there; `own` are the client's own notes
abbrev pub store_allows : List StoreNote → Want → Bool
store_allows own Want.Begin = nat_lt (length (begun own)) most_begins
store_allows own (Want.Access t a) = is_live own t
store_allows own (Want.Point t) = is_live own t
store_allows own (Want.BackTo t) = is_live own t && can_go_back (savepoints own t)
store_allows own (Want.Release t) = is_live own t && is_pointed (savepoints own t)
store_allows own (Want.Commit t) = is_live own t && not (is_pointed (savepoints own t))
store_allows own (Want.Rollback t) = is_live own t && not (is_pointed (savepoints own t))
store_allows own (Want.Auto a) = true
store_allows own _ = false

-- a call on the store is proper after the client's own notes
unfoldable pub store_proper : List StoreNote → Want → Bool
store_proper own want = has_room own && store_allows own want
