-- The whole store: what is kept is right after each call.
use Rattle.std.proofs.Common.{◌≡◌, ℕ, ℤ, ◌+◌, ◌-◌, ◌^◌, ◌<◌, ◌≤◌, Bool, true, false, IsTrue, List, [], ◌∷◌, ◌++◌, Option, Some, None, length, map, refl, sym, ap, ◌∙◌, subst, arith, eq-eqb}
use Rattle.std.specs.Option.{option_map, is_some, IsSome}
use Rattle.std.specs.FinMap.{get, empty}
use Rattle.std.proofs.lemmas.Bool.{false≢true, and_parts}
use Rattle.stx_scenario.specs.declared.numbers.RowNo.{RowNo}
use Rattle.stx_base.specs.declared.facts.StoreFacts.{StoreFacts}
use Rattle.stx_base.specs.declared.call.Want.{Want}
use Rattle.stx_base.specs.declared.history.Access.{Access}
use Rattle.stx_base.specs.declared.history.Answer.{Answer}
use Rattle.stx_base.specs.declared.history.StoreNote.{StoreNote}
use Rattle.stx_base.specs.declared.history.StoreEntry.{StoreEntry}
use Rattle.stx_base.specs.Limits.{most_clients}
use Rattle.stx_base.specs.Alone.{first_rows, row_of, net}
use Rattle.stx_base.specs.Histories.{store_notes, store_notes_of, has_room}
use Rattle.stx_base.specs.Stores.{begun, is_live, is_busy, savepoints, can_go_back, is_pointed, work, journal, committed_rows, store_want, store_proper, store_reply}
use Rattle.stx_base.specs.Legal.{StoreFits}
use Rattle.stx_base.proofs.StoreLaws.{names, lives, unnamed, begin_number, begun_length-push}
use Rattle.stx_journal.specs.Journal.{JournalView, committed_in}
use Rattle.stx_locks.specs.declared.table.Ask.{Ask}
use Rattle.stx_locks.specs.Locks.{LockMap, asked, unless_held_by}
use Rattle.stx_rows.specs.Rows.{RowsView, dropped, emptied, put_back_last, put_back_all, stack_of, some_stack, HasStack, SameValues}
use Rattle.stx_store.specs.inner.Cells.{cell_applied, found_at}
use Rattle.stx_store.specs.inner.Owed.{KeepsStore, was_owed}
use Rattle.stx_store.specs.inner.Keeping.{held_by, Keeps, KeepsRows, KeepsState, KeepsAll, stack_at, IsSame, IsAnswered, SameOlder, changes_of, unless_busy}
use Rattle.stx_store.specs.Store.{Store, StoreReplies, with_store_entry}
use Rattle.stx_store.proofs.FitLaws.{store_of, begin-reply, access-reply, auto-reply, commit-reply, rollback-reply, few_begins, added-kept, spent-kept, some_owed}
use Rattle.stx_store.proofs.OwedLaws.{entry}
use Rattle.stx_store.proofs.OwnLaws.{Owns, owns}
use Rattle.stx_store.proofs.JournalLaws.{WorksLive, works_live, commits, committed_in-push, committed_in-same, committed_in-length}
use Rattle.stx_store.proofs.StateLaws.{tall, rows-begun, rows-accessed}
use Rattle.stx_store.proofs.EndLaws.{can_pointed, rows-pointed, rows-returned, rows-released, rows-committed, rows-undone, rows-busy, rows-auto_busy, rows-auto, commits-none, commits-own, own, net-committed, net-access}
use Rattle.stx_store.proofs.ReplyLaws.{granted, access-answered, auto-held, auto-free}

-- what is kept of locks and rows that answer alike
pub alike : (facts : StoreFacts) (H : List StoreEntry) (locks locks' : LockMap) (rows rows' : RowsView) → KeepsRows facts H locks rows → IsSame locks locks' rows rows' → KeepsRows facts H locks' rows'
alike facts H locks locks' rows rows' keeps same =
    subst (λ s. Keeps (store_notes H) (λ k. get (committed_rows facts.values H) k) (λ k. get locks' k) (λ k. get rows'.values k) s) (λ i t k. map (λ m. get m k) (some_stack (sym (same.same_older t) i)))
    (subst (λ v. Keeps (store_notes H) (λ k. get (committed_rows facts.values H) k) (λ k. get locks' k) v (stack_at rows)) (λ i k. sym (same.same_values k) i)
    (subst (λ l. Keeps (store_notes H) (λ k. get (committed_rows facts.values H) k) l (λ k. get rows.values k) (stack_at rows)) (λ i k. sym (same.same_locks k) i) keeps))

together : (facts : StoreFacts) (H items : List StoreEntry) (e : StoreEntry) (now len capacity count : ℕ) (locks : LockMap) (rows : RowsView) (journal : JournalView)
    → items ≡ H ++ e ∷ [] → KeepsStore facts items now len capacity → count ≡ length (begun (store_notes (H ++ e ∷ []))) → KeepsRows facts (H ++ e ∷ []) locks rows
    → journal.list ≡ committed_in facts.values (H ++ e ∷ []) → now ≤ journal.spare → KeepsAll facts items now len capacity count locks rows journal
together facts H items e now len capacity count locks rows journal is entries count_is rows_are journal_is room = record {
  entries = entries;
  state = subst (λ es. KeepsState facts es now count locks rows journal) (sym is) (record { count_is = count_is; rows_are = rows_are; journal_is = journal_is; room = room });
}

back_parts : (own : List StoreNote) (t : ℕ) → IsTrue (store_proper own (Want.BackTo t)) → can_go_back (savepoints own t) ≡ true
unfolding store_proper
back_parts own t proper = (and_parts (is_live own t) _ (and_parts (has_room own) _ proper).1).1

release_parts : (own : List StoreNote) (t : ℕ) → IsTrue (store_proper own (Want.Release t)) → is_pointed (savepoints own t) ≡ true
unfolding store_proper
release_parts own t proper = (and_parts (is_live own t) _ (and_parts (has_room own) _ proper).1).1

module _ (facts : StoreFacts) (H : List StoreEntry) (owed len capacity count : ℕ) (locks : LockMap) (rows : RowsView) (journal' : JournalView) (keeps : KeepsAll facts H owed len capacity count locks rows journal') where
  owned : Owns H
  owned = owns most_clients facts H keeps.entries.legal

  apart : (e : StoreEntry) → StoreFits most_clients facts H e → WorksLive (store_notes H) e.note
  apart e fits = works_live most_clients facts H e owned fits

  -- whom a call names, lives
  pub alive : (c t : ℕ) (n : StoreNote) → StoreFits most_clients facts H (entry c n) → names t n ≡ true → begun (n ∷ []) ≡ [] → is_live (store_notes H) t ≡ true
  alive c t n fits is none = owned.live c t (lives (store_notes_of H c) t n is none fits.proper)

  pointed-for : (c t : ℕ) (n : StoreNote) → StoreFits most_clients facts H (entry c n) → names t n ≡ true → begun (n ∷ []) ≡ [] → is_pointed (savepoints (store_notes_of H c) t) ≡ true → is_pointed (savepoints (store_notes H) t) ≡ true
  pointed-for c t n fits is none has = ap is_pointed (owned.points c t (lives (store_notes_of H c) t n is none fits.proper)) ∙ has

  counted : (e : StoreEntry) → begun (e.note ∷ []) ≡ [] → count ≡ length (begun (store_notes (H ++ e ∷ [])))
  counted e none = keeps.state.count_is ∙ (let more = begun_length-push H e in let zero_more = ap length none in same (length (begun (store_notes H))) _ (length (begun (e.note ∷ []))) more zero_more)
    where
      same : (a b m : ℕ) → b ≡ a + m → m ≡ 0 → a ≡ b
      same a b m is none = omega arith

  unlisted : (e : StoreEntry) (now : JournalView) → StoreFits most_clients facts H e → commits H e ≡ [] → now.list ≡ journal'.list → now.list ≡ committed_in facts.values (H ++ e ∷ [])
  unlisted e now fits none same = same ∙ keeps.state.journal_is ∙ sym (committed_in-same facts.values H e (apart e fits) none)

  pub core-begun : (c u : ℕ) → StoreFits most_clients facts H (entry c (StoreNote.Begin u)) → (items : List StoreEntry) (now len' capacity' count' : ℕ) (rows' : RowsView) (jn : JournalView)
      → items ≡ H ++ entry c (StoreNote.Begin u) ∷ [] → now ≡ owed + 1 → len' + now ≤ capacity' → count' ≡ count + 1
      → SameValues rows rows' → HasStack rows u (Some (empty ∷ [])) rows' → jn.list ≡ journal'.list → now ≤ jn.spare → KeepsAll facts items now len' capacity' count' locks rows' jn
  core-begun c u fits items now len' capacity' count' rows' jn is now_is room count_is values stack list spare =
      let e = entry c (StoreNote.Begin u) in
      let number : u ≡ length (begun (store_notes H)) + 1 = begin_number facts H u fits.reply in
      let more : length (begun (store_notes (H ++ e ∷ []))) ≡ length (begun (store_notes H)) + 1 = begun_length-push H e in
      together facts H items e now len' capacity' count' locks rows' jn is
      (added-kept facts H owed len capacity keeps.entries e fits items now len' capacity' is now_is room)
      (count_is ∙ ap (λ n. n + 1) keeps.state.count_is ∙ sym more)
      (rows-begun facts H locks rows keeps.state.rows_are c u locks rows' (apart e fits) (unnamed most_clients facts H keeps.entries.legal u (omega arith)) (λ k. refl) values stack)
      (unlisted e jn fits refl list) spare

  pub core-accessed : (c t : ℕ) (a : Access) (r : Answer) → StoreFits most_clients facts H (entry c (StoreNote.Access t a r)) → (items : List StoreEntry) (now len' capacity' : ℕ) (locks' : LockMap) (rows' : RowsView) (jn : JournalView)
      → items ≡ H ++ entry c (StoreNote.Access t a r) ∷ [] → now ≡ owed + 0 → len' + now ≤ capacity' → IsAnswered a t r locks locks' rows rows' → jn.list ≡ journal'.list → now ≤ jn.spare
      → KeepsAll facts items now len' capacity' count locks' rows' jn
  core-accessed c t a r fits items now len' capacity' locks' rows' jn is now_is room answered list spare =
      let e = entry c (StoreNote.Access t a r) in
      together facts H items e now len' capacity' count locks' rows' jn is
      (added-kept facts H owed len capacity keeps.entries e fits items now len' capacity' is now_is room)
      (counted e refl) (by_answer (is_busy r) refl) (unlisted e jn fits refl list) spare
    where
      free_ask : (ask : Ask) (found : Answer) → r ≡ unless_busy ask found → is_busy r ≡ false → ask ≡ Ask.Granted
      free_ask (Ask.Busy h) found same free = absurd (false≢true (sym free ∙ ap is_busy same))
      free_ask Ask.Granted found same free = refl

      by_answer : (b : Bool) → is_busy r ≡ b → KeepsRows facts (H ++ entry c (StoreNote.Access t a r) ∷ []) locks' rows'
      by_answer true busy =
          alike facts (H ++ entry c (StoreNote.Access t a r) ∷ []) locks locks' rows rows'
          (rows-busy facts H locks rows keeps.state.rows_are c t a r (apart (entry c (StoreNote.Access t a r)) fits) busy) (answered.busy busy)
      by_answer false free =
          rows-accessed facts H locks rows keeps.state.rows_are c t a r locks' rows' (apart (entry c (StoreNote.Access t a r)) fits)
          (alive c t (StoreNote.Access t a r) fits (eq-eqb t t refl) refl) free
          (granted facts H locks rows keeps.state.rows_are t a (free_ask (asked (get locks (row_of a)) t) (found_at (get rows.values (row_of a)) a) answered.answer_is free)) answered.locks_are (answered.made free)

  pub core-pointed : (c t : ℕ) → StoreFits most_clients facts H (entry c (StoreNote.Point t)) → (items : List StoreEntry) (now len' capacity' : ℕ) (rows' : RowsView) (jn : JournalView)
      → items ≡ H ++ entry c (StoreNote.Point t) ∷ [] → now ≡ owed + 2 → len' + now ≤ capacity' → SameValues rows rows' → HasStack rows t (option_map (λ stack. empty ∷ stack) (get rows.older t)) rows'
      → jn.list ≡ journal'.list → now ≤ jn.spare → KeepsAll facts items now len' capacity' count locks rows' jn
  core-pointed c t fits items now len' capacity' rows' jn is now_is room values stack list spare =
      let e = entry c (StoreNote.Point t) in
      together facts H items e now len' capacity' count locks rows' jn is
      (added-kept facts H owed len capacity keeps.entries e fits items now len' capacity' is now_is room)
      (counted e refl) (rows-pointed facts H locks rows keeps.state.rows_are c t rows' (apart e fits) (alive c t (StoreNote.Point t) fits (eq-eqb t t refl) refl) values stack)
      (unlisted e jn fits refl list) spare

  -- calls for which room was kept
  pub owed-one : (e : StoreEntry) → StoreFits most_clients facts H e → IsTrue (was_owed e.note) → 1 ≤ owed
  owed-one e fits was = some_owed facts H owed len capacity keeps.entries e fits was

  spent : (e : StoreEntry) → StoreFits most_clients facts H e → IsTrue (was_owed e.note) → (items : List StoreEntry) (now len' capacity' : ℕ) → items ≡ H ++ e ∷ [] → now ≡ owed - 1 → len' ≡ len + 1 → capacity' ≡ capacity → KeepsStore facts items now len' capacity'
  spent e fits was items now len' capacity' is paid longer same =
      let one = owed-one e fits was in
      spent-kept facts H owed len capacity keeps.entries e fits was items now len' capacity' is (omega (arith, paid)) longer same

  -- a note that commits nothing, for whose entry room was kept
  spent-all : (e : StoreEntry) → StoreFits most_clients facts H e → begun (e.note ∷ []) ≡ [] → commits H e ≡ [] → IsTrue (was_owed e.note)
      → (items : List StoreEntry) (now len' capacity' : ℕ) (locks' : LockMap) (rows' : RowsView) → items ≡ H ++ e ∷ [] → now ≡ owed - 1 → len' ≡ len + 1 → capacity' ≡ capacity
      → KeepsRows facts (H ++ e ∷ []) locks' rows' → KeepsAll facts items now len' capacity' count locks' rows' journal'
  spent-all e fits none uncommitted was items now len' capacity' locks' rows' is paid longer same rows_are =
      together facts H items e now len' capacity' count locks' rows' journal' is (spent e fits was items now len' capacity' is paid longer same) (counted e none) rows_are
      (unlisted e journal' fits uncommitted refl) (let room = keeps.state.room in omega (arith, paid))

  pub core-returned : (c t : ℕ) → StoreFits most_clients facts H (entry c (StoreNote.BackTo t)) → (items : List StoreEntry) (now len' capacity' : ℕ) (rows' : RowsView)
      → items ≡ H ++ entry c (StoreNote.BackTo t) ∷ [] → now ≡ owed - 1 → len' ≡ len + 1 → capacity' ≡ capacity → ((k : ℕ) → get rows'.values k ≡ get (put_back_last rows.values (stack_of rows t)) k) → HasStack rows t (option_map emptied (get rows.older t)) rows'
      → KeepsAll facts items now len' capacity' count locks rows' journal'
  core-returned c t fits items now len' capacity' rows' is paid longer same values stack =
      let mine : names t (StoreNote.BackTo t) ≡ true = eq-eqb t t refl in
      spent-all (entry c (StoreNote.BackTo t)) fits refl refl refl items now len' capacity' locks rows' is paid longer same
      (rows-returned facts H locks rows keeps.state.rows_are c t rows' (apart (entry c (StoreNote.BackTo t)) fits) (alive c t (StoreNote.BackTo t) fits mine refl)
      (pointed-for c t (StoreNote.BackTo t) fits mine refl (can_pointed (savepoints (store_notes_of H c) t) (back_parts (store_notes_of H c) t fits.proper))) values stack)

  pub core-released : (c t : ℕ) → StoreFits most_clients facts H (entry c (StoreNote.Release t)) → (items : List StoreEntry) (now len' capacity' : ℕ) (rows' : RowsView)
      → items ≡ H ++ entry c (StoreNote.Release t) ∷ [] → now ≡ owed - 1 → len' ≡ len + 1 → capacity' ≡ capacity → SameValues rows rows' → HasStack rows t (option_map dropped (get rows.older t)) rows'
      → KeepsAll facts items now len' capacity' count locks rows' journal'
  core-released c t fits items now len' capacity' rows' is paid longer same values stack =
      let mine : names t (StoreNote.Release t) ≡ true = eq-eqb t t refl in
      spent-all (entry c (StoreNote.Release t)) fits refl refl refl items now len' capacity' locks rows' is paid longer same
      (rows-released facts H locks rows keeps.state.rows_are c t rows' (apart (entry c (StoreNote.Release t)) fits) (alive c t (StoreNote.Release t) fits mine refl)
      (pointed-for c t (StoreNote.Release t) fits mine refl (release_parts (store_notes_of H c) t fits.proper)) values stack)

  pub core-undone : (c t : ℕ) → StoreFits most_clients facts H (entry c (StoreNote.Rollback t)) → (items : List StoreEntry) (now len' capacity' : ℕ) (locks' : LockMap) (rows' : RowsView)
      → items ≡ H ++ entry c (StoreNote.Rollback t) ∷ [] → now ≡ owed - 1 → len' ≡ len + 1 → capacity' ≡ capacity → ((k : ℕ) → get locks' k ≡ unless_held_by t (get locks k))
      → ((k : ℕ) → get rows'.values k ≡ get (put_back_all rows.values (stack_of rows t)) k) → HasStack rows t None rows' → KeepsAll facts items now len' capacity' count locks' rows' journal'
  core-undone c t fits items now len' capacity' locks' rows' is paid longer same freed values stack =
      let e = entry c (StoreNote.Rollback t) in
      spent-all e fits refl refl refl items now len' capacity' locks' rows' is paid longer same
      (rows-undone facts H locks rows keeps.state.rows_are c t locks' rows' (apart e fits) (alive c t (StoreNote.Rollback t) fits (eq-eqb t t refl) refl) freed values stack)

  -- the number of the next commit
  pub next-number : length journal'.list ≡ length (journal H)
  next-number = ap length keeps.state.journal_is ∙ committed_in-length facts.values H

  pub core-committed : (c t m : ℕ) (changes : List (RowNo × Option ℤ)) → StoreFits most_clients facts H (entry c (StoreNote.Commit t m)) → (items : List StoreEntry) (now len' capacity' : ℕ) (locks' : LockMap) (rows' : RowsView) (jn : JournalView)
      → items ≡ H ++ entry c (StoreNote.Commit t m) ∷ [] → now ≡ owed - 1 → len' ≡ len + 1 → capacity' ≡ capacity → ((k : ℕ) → get locks' k ≡ unless_held_by t (get locks k))
      → SameValues rows rows' → HasStack rows t None rows' → m ≡ length journal'.list + 1 → changes ≡ net (put_back_all rows.values (stack_of rows t)) rows.values
      → jn.list ≡ journal'.list ++ record { number = m; client = c; tx = Some t; changes = changes } ∷ [] → journal'.spare ≤ jn.spare + 1 → KeepsAll facts items now len' capacity' count locks' rows' jn
  core-committed c t m changes fits items now len' capacity' locks' rows' jn is paid longer same freed values stack number changes_are list spare =
      let e = entry c (StoreNote.Commit t m) in
      let live = alive c t (StoreNote.Commit t m) fits (eq-eqb t t refl) refl in
      let base = committed_rows facts.values H in
      together facts H items e now len' capacity' count locks' rows' jn is (spent e fits refl items now len' capacity' is paid longer same) (counted e refl)
      (rows-committed facts H locks rows keeps.state.rows_are c t m locks' rows' (apart e fits) live freed values stack)
      (list
      ∙ (λ i. keeps.state.journal_is i ++ record { number = (number ∙ ap (λ n. n + 1) next-number) i; client = c; tx = Some t; changes = (changes_are ∙ net-committed facts H locks rows keeps.state.rows_are t live) i } ∷ [])
      ∙ sym (committed_in-push facts.values H e (record { client = c; tx = Some t; work = work (store_notes H) t }) (apart e fits) refl))
      (let room = keeps.state.room in omega (arith, paid))

  pub core-auto_busy : (c : ℕ) (a : Access) (r : Answer) → StoreFits most_clients facts H (entry c (StoreNote.Auto a r)) → is_busy r ≡ true → (items : List StoreEntry) (now len' capacity' : ℕ) (jn : JournalView)
      → items ≡ H ++ entry c (StoreNote.Auto a r) ∷ [] → now ≡ owed + 0 → len' + now ≤ capacity' → jn.list ≡ journal'.list → now ≤ jn.spare → KeepsAll facts items now len' capacity' count locks rows jn
  core-auto_busy c a r fits busy items now len' capacity' jn is now_is room list spare =
      let e = entry c (StoreNote.Auto a r) in
      together facts H items e now len' capacity' count locks rows jn is
      (added-kept facts H owed len capacity keeps.entries e fits items now len' capacity' is now_is room)
      (counted e refl) (rows-auto_busy facts H locks rows keeps.state.rows_are c a r (apart e fits) busy)
      (unlisted e jn fits (commits-none facts H locks rows keeps.state.rows_are c a r busy) list) spare

  pub core-auto : (c : ℕ) (a : Access) (r : Answer) (m : ℕ) (changes : List (RowNo × Option ℤ)) → StoreFits most_clients facts H (entry c (StoreNote.Auto a r)) → is_busy r ≡ false → get locks (row_of a) ≡ None
      → (items : List StoreEntry) (now len' capacity' : ℕ) (rows' : RowsView) (jn : JournalView)
      → items ≡ H ++ entry c (StoreNote.Auto a r) ∷ [] → now ≡ owed + 0 → len' + now ≤ capacity'
      → ((k : ℕ) → get rows'.values k ≡ cell_applied k (get rows.values k) a) → SameOlder rows rows' → m ≡ length journal'.list + 1 → changes ≡ changes_of (get rows.values (row_of a)) a
      → jn.list ≡ journal'.list ++ record { number = m; client = c; tx = None; changes = changes } ∷ [] → now ≤ jn.spare → KeepsAll facts items now len' capacity' count locks rows' jn
  core-auto c a r m changes fits free unlocked items now len' capacity' rows' jn is now_is room values older number changes_are list spare =
      let e = entry c (StoreNote.Auto a r) in
      together facts H items e now len' capacity' count locks rows' jn is
      (added-kept facts H owed len capacity keeps.entries e fits items now len' capacity' is now_is room)
      (counted e refl) (rows-auto facts H locks rows keeps.state.rows_are c a r rows' (apart e fits) free unlocked values older)
      (list
      ∙ (λ i. keeps.state.journal_is i ++ record { number = (number ∙ ap (λ n. n + 1) next-number) i; client = c; tx = None; changes = (changes_are ∙ net-access facts H locks rows keeps.state.rows_are a r unlocked) i } ∷ [])
      ∙ sym (committed_in-push facts.values H e (own facts H locks rows keeps.state.rows_are c a r) (apart e fits) (commits-own facts H locks rows keeps.state.rows_are c a r free)))
      spare

  -- ---- each call's entry fits

  fit : (c : ℕ) (n : StoreNote) → c < most_clients → IsTrue (store_proper (store_notes_of H c) (store_want n)) → store_reply facts H (store_want n) ≡ Some n → StoreFits most_clients facts H (entry c n)
  fit c n below proper reply = record { client = below; proper = proper; reply = reply }

  pub fits-begin : (c u : ℕ) → c < most_clients → IsTrue (store_proper (store_notes_of H c) Want.Begin) → u ≡ count + 1 → StoreFits most_clients facts H (entry c (StoreNote.Begin u))
  fits-begin c u below proper is = fit c (StoreNote.Begin u) below proper (begin-reply facts H u (is ∙ ap (λ n. n + 1) keeps.state.count_is))

  pub few : count + 1 < 2 ^ 32
  few = subst (λ n. n + 1 < 2 ^ 32) (sym keeps.state.count_is) (few_begins facts H owed len capacity keeps.entries)

  pub fits-access : (c t : ℕ) (a : Access) (r : Answer) → c < most_clients → IsTrue (store_proper (store_notes_of H c) (Want.Access t a)) → r ≡ unless_busy (asked (get locks (row_of a)) t) (found_at (get rows.values (row_of a)) a)
      → StoreFits most_clients facts H (entry c (StoreNote.Access t a r))
  fits-access c t a r below proper is =
      fit c (StoreNote.Access t a r) below proper
      (access-reply facts H t a r (access-answered facts H locks rows keeps.state.rows_are t a r (owned.live c t (lives (store_notes_of H c) t (StoreNote.Access t a r) (eq-eqb t t refl) refl proper)) is))

  pub fits-point : (c t : ℕ) → c < most_clients → IsTrue (store_proper (store_notes_of H c) (Want.Point t)) → StoreFits most_clients facts H (entry c (StoreNote.Point t))
  unfolding store_reply
  fits-point c t below proper = fit c (StoreNote.Point t) below proper refl

  pub fits-return : (c t : ℕ) → c < most_clients → IsTrue (store_proper (store_notes_of H c) (Want.BackTo t)) → StoreFits most_clients facts H (entry c (StoreNote.BackTo t))
  unfolding store_reply
  fits-return c t below proper = fit c (StoreNote.BackTo t) below proper refl

  pub fits-release : (c t : ℕ) → c < most_clients → IsTrue (store_proper (store_notes_of H c) (Want.Release t)) → StoreFits most_clients facts H (entry c (StoreNote.Release t))
  unfolding store_reply
  fits-release c t below proper = fit c (StoreNote.Release t) below proper refl

  pub fits-rollback : (c t : ℕ) → c < most_clients → IsTrue (store_proper (store_notes_of H c) (Want.Rollback t)) → StoreFits most_clients facts H (entry c (StoreNote.Rollback t))
  fits-rollback c t below proper = fit c (StoreNote.Rollback t) below proper (rollback-reply facts H t)

  pub fits-commit : (c t m : ℕ) → c < most_clients → IsTrue (store_proper (store_notes_of H c) (Want.Commit t)) → m ≡ length journal'.list + 1 → StoreFits most_clients facts H (entry c (StoreNote.Commit t m))
  fits-commit c t m below proper is = fit c (StoreNote.Commit t m) below proper (commit-reply facts H t m (is ∙ ap (λ n. n + 1) next-number))

  pub fits-auto_busy : (c : ℕ) (a : Access) (h : ℕ) → c < most_clients → IsTrue (store_proper (store_notes_of H c) (Want.Auto a)) → get locks (row_of a) ≡ Some h → StoreFits most_clients facts H (entry c (StoreNote.Auto a (Answer.Busy h)))
  fits-auto_busy c a h below proper is = fit c (StoreNote.Auto a (Answer.Busy h)) below proper (auto-reply facts H a (Answer.Busy h) (auto-held facts H locks rows keeps.state.rows_are a h is))

  pub fits-auto : (c : ℕ) (a : Access) (r : Answer) → c < most_clients → IsTrue (store_proper (store_notes_of H c) (Want.Auto a)) → get locks (row_of a) ≡ None → r ≡ found_at (get rows.values (row_of a)) a → StoreFits most_clients facts H (entry c (StoreNote.Auto a r))
  fits-auto c a r below proper none is = fit c (StoreNote.Auto a r) below proper (auto-reply facts H a r (auto-free facts H locks rows keeps.state.rows_are a r none is))

  -- a transaction that ends has older values
  pub stack_there : (c t m : ℕ) → IsTrue (store_proper (store_notes_of H c) (Want.Commit t)) → IsSome (get rows.older t)
  stack_there c t m proper =
      let live = owned.live c t (lives (store_notes_of H c) t (StoreNote.Commit t m) (eq-eqb t t refl) refl proper) in
      let high = tall (get rows.older t) (length (savepoints (store_notes H) t)) 0 (keeps.state.rows_are.height t 0 live) in
      ap is_some high.is

-- an answer that was found isn't busy
pub found-free : (value : Option ℤ) (a : Access) → is_busy (found_at value a) ≡ false
found-free (Some v) (Access.Read row) = refl
found-free None (Access.Read row) = refl
found-free value (Access.Write row v) = refl
found-free value (Access.Erase row) = refl

-- what is kept where locks and rows answer alike, and there is more room
pub core-same : (facts : StoreFacts) (H items : List StoreEntry) (owed len len' capacity capacity' count : ℕ) (locks locks' : LockMap) (rows rows' : RowsView) (journal jn : JournalView)
    → KeepsAll facts H owed len capacity count locks rows journal → IsSame locks locks' rows rows' → items ≡ H → len' ≡ len → capacity ≤ capacity' → jn.list ≡ journal.list → journal.spare ≤ jn.spare
    → KeepsAll facts items owed len' capacity' count locks' rows' jn
core-same facts H items owed len len' capacity capacity' count locks locks' rows rows' journal jn keeps same is len_is more list spare =
    subst (λ es. KeepsAll facts es owed len' capacity' count locks' rows' jn) (sym is) (record {
      entries = record { legal = keeps.entries.legal; owes = keeps.entries.owes; room = let room = keeps.entries.room in omega arith };
      state = record {
        count_is = keeps.state.count_is;
        rows_are = alike facts H locks locks' rows rows' keeps.state.rows_are same;
        journal_is = list ∙ keeps.state.journal_is;
        room = let room = keeps.state.room in omega arith;
      };
    })

-- ---- what contracts see

pub proper_in : (facts : StoreFacts) (H : List StoreEntry) (old : Store) (c : ℕ) (want : Want) → store_of facts H ≡ old → IsTrue (store_proper (store_notes_of old.entries c) want) → IsTrue (store_proper (store_notes_of H c) want)
proper_in facts H old c want is proper = subst (λ s. IsTrue (store_proper (store_notes_of s.entries c) want)) (sym is) proper

pub replies : (facts : StoreFacts) (H items : List StoreEntry) (old : Store) (c : ℕ) (n : StoreNote) → store_of facts H ≡ old → StoreFits most_clients facts H (entry c n) → items ≡ H ++ entry c n ∷ [] → StoreReplies old (store_of facts items) c (store_want n) n
replies facts H items old c n is fits grown = record {
  reply = subst (λ s. store_reply s.facts s.entries (store_want n) ≡ Some n) is fits.reply;
  kept = ap (store_of facts) grown ∙ ap (λ s. with_store_entry s c n) is;
}

-- a store on which no call was made
pub core-new : (facts : StoreFacts) (items : List StoreEntry) (len capacity : ℕ) (locks : LockMap) (rows : RowsView) (jn : JournalView) → items ≡ [] → KeepsStore facts items 0 len capacity
    → ((k : ℕ) → get locks k ≡ None) → ((k : ℕ) → get rows.values k ≡ get (first_rows facts.values) k) → jn.list ≡ [] → KeepsAll facts items 0 len capacity 0 locks rows jn
core-new facts items len capacity locks rows jn is entries free values list = record {
  entries = entries;
  state = subst (λ es. KeepsState facts es 0 0 locks rows jn) (sym is) (record {
    count_is = refl;
    rows_are = record {
      locked = λ k t. sym (ap (λ o. held_by o t) (free k));
      height = λ t k live. absurd (false≢true live);
      held = λ t k live h. absurd (false≢true live);
      others = λ t k live h. absurd (false≢true live);
      free = λ k none. values k;
    };
    journal_is = list;
    room = omega arith;
  });
}
