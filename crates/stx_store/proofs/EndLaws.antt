-- Savepoints, ends and own statements: the locks and the rows stay those of the history.
use Rattle.std.proofs.Common.{◌≡◌, ◌≢◌, ℕ, ℤ, suc, Bool, true, false, not, ◌&&◌, ◌==◌, cond, List, [], ◌∷◌, ◌++◌, Option, Some, None, length, map, refl, sym, ap, ◌∙◌, subst, inl, inr, arith, eq-eqb, ne_eqb}
use Rattle.std.specs.Option.{option_map, unwrap_or, option_eq}
use Rattle.std.specs.List.{cons_option}
use Rattle.std.specs.FinMap.{get, empty, get-empty}
use Rattle.std.specs.Ordering.{nat_cmp, int_eq}
use Rattle.std.specs.Cmp.{unsigned_tied}
use Rattle.std.proofs.lemmas.Bool.{false≢true, cases_eq}
use Rattle.std.proofs.Math.Bool.{and-false}
use Rattle.stx_scenario.specs.declared.numbers.RowNo.{RowNo}
use Rattle.stx_base.specs.declared.facts.StoreFacts.{StoreFacts}
use Rattle.stx_base.specs.declared.history.Access.{Access}
use Rattle.stx_base.specs.declared.history.Answer.{Answer}
use Rattle.stx_base.specs.declared.history.StoreNote.{StoreNote}
use Rattle.stx_base.specs.declared.history.StoreEntry.{StoreEntry}
use Rattle.stx_base.specs.Alone.{RowMap, row_of, after, net, without_innermost}
use Rattle.stx_base.specs.Histories.{store_notes}
use Rattle.stx_base.specs.Stores.{is_live, is_busy, pointed, savepoints, work, with_return, can_go_back, is_pointed, committed_rows, after_all, Transaction}
use Rattle.stx_base.proofs.HistoryLaws.{savepoints-push, or-false, work_same}
use Rattle.stx_journal.proofs.RowChanges.{change_to, net_is, net-same, unchanged}
use Rattle.stx_locks.specs.Locks.{LockMap, unless_held_by}
use Rattle.stx_rows.specs.Rows.{RowsView, change_to as row_change, dropped, emptied, put_back_last, put_back_all, stack_of, some_stack, HasStack, SameValues}
use Rattle.stx_rows.proofs.RowsLaws.{or_else, moved-at, put_back-map}
use Rattle.stx_store.specs.inner.Cells.{cell_applied, cell_stepped, cell_worked}
use Rattle.stx_store.specs.inner.Keeping.{held_by, OlderStack, nones, unrolled, Mirrors, Keeps, KeepsRows, stack_at, changes_of}
use Rattle.stx_store.proofs.CellLaws.{after-at}
use Rattle.stx_store.proofs.KeepLaws.{head_of, tail_of, mirrors-point, mirrors-back, mirrors-release, untaken, live_same, any_takes-same, length_returned, free_untaken, keeps-same, keeps-worked, keeps-ended, keeps-auto}
use Rattle.stx_store.proofs.JournalLaws.{WorksLive, commits, committed_rows-push}
use Rattle.stx_store.proofs.OwedLaws.{entry}
use Rattle.stx_store.proofs.StateLaws.{stack-other, stack-mine, Tall, tall, Taller, taller, undone, undone-at, undone-nones, undone-mirrors, elsewhere, names_one, base_same, with_entry}

-- an open savepoint
record Opened (ps : List Bool) : Type 0 where
  innermost_one : Bool
  outer : List Bool
  is : ps ≡ innermost_one ∷ outer

opened : (ps : List Bool) → is_pointed ps ≡ true → Opened ps
opened [] h = absurd (false≢true h)
opened (p ∷ ps) h = record { innermost_one = p; outer = ps; is = refl }

pub can_pointed : (ps : List Bool) → can_go_back ps ≡ true → is_pointed ps ≡ true
can_pointed [] h = absurd (false≢true h)
can_pointed (p ∷ ps) h = refl

-- ---- the net changes of one row

pub net-none : (before now : RowMap) → ((q : ℕ) → get now q ≡ get before q) → net before now ≡ []
net-none before now same = net_is before now [] tt (λ q. sym (ap (change_to (get before q)) (same q) ∙ unchanged (get before q)))

pub net-one : (before now : RowMap) (row : RowNo) (value : Option ℤ) → ((q : ℕ) → get now q ≡ cond (q == row.0) value (get before q)) → net before now ≡ row_change (get before row.0) row value
net-one before now row value are = by_test (option_eq int_eq (get before row.0) value) refl
  where
    away : (q : ℕ) → q ≢ row.0 → change_to (get before q) (get now q) ≡ None
    away q differs = ap (change_to (get before q)) (are q ∙ ap (λ b. cond b value (get before q)) (ne_eqb q row.0 differs)) ∙ unchanged (get before q)

    here : (q : ℕ) → q ≡ row.0 → change_to (get before q) (get now q) ≡ change_to (get before row.0) value
    here q same = (λ i. change_to (get before (same i)) ((are q ∙ ap (λ b. cond b value (get before q)) (eq-eqb q row.0 same)) i))

    by_test : (b : Bool) → option_eq int_eq (get before row.0) value ≡ b → net before now ≡ cond b [] ((row, value) ∷ [])
    by_test true is = net_is before now [] tt (λ q. elim (cases_eq q row.0) [
      | inl same ↦ sym (here q same ∙ ap (λ b. cond b None (Some value)) is)
      | inr differs ↦ sym (away q differs)
    ])
    by_test false is = net_is before now ((row.0, value) ∷ []) tt (λ q. ap (λ b. cond b (Some value) None) (unsigned_tied q row.0) ∙ elim (cases_eq q row.0) [
      | inl same ↦ ap (λ b. cond b (Some value) None) (eq-eqb q row.0 same) ∙ sym (here q same ∙ ap (λ b. cond b None (Some value)) is)
      | inr differs ↦ ap (λ b. cond b (Some value) None) (ne_eqb q row.0 differs) ∙ sym (away q differs)
    ])

module _ (facts : StoreFacts) (H : List StoreEntry) (locks : LockMap) (rows : RowsView) (keeps : KeepsRows facts H locks rows) where
  abbrev pub notes : List StoreNote
  notes = store_notes H

  abbrev pub base : ℕ → Option ℤ
  base k = get (committed_rows facts.values H) k

  pub rows-pointed : (c t : ℕ) (rows' : RowsView) → WorksLive notes (StoreNote.Point t) → is_live notes t ≡ true
      → SameValues rows rows' → HasStack rows t (option_map (λ stack. empty ∷ stack) (get rows.older t)) rows' → KeepsRows facts (H ++ entry c (StoreNote.Point t) ∷ []) locks rows'
  rows-pointed c t rows' apart live values stack =
      with_entry facts H locks rows keeps (entry c n) locks rows'
      (keeps-worked notes base (λ k. get locks k) (λ k. get rows.values k) (stack_at rows) keeps n t _ (λ k. get locks k) (λ k. get rows'.values k) (stack_at rows')
      live (eq-eqb t t refl) refl (λ u. refl) (λ u differs. names_one t u differs)
      (base_same facts H locks rows keeps (entry c n) apart refl) (λ k u. sym (or-false (held_by (get locks k) u))) (stack-other rows rows' t _ stack)
      (λ k. ap length (mine k) ∙ ap suc (ap length (sym (before k)) ∙ keeps.height t k live) ∙ ap (λ ps. suc (length ps)) (sym points))
      (λ k h. subst (λ v. Mirrors v (base k) (stack_at rows' t k) (cell_stepped k (cell_worked k (base k) (work notes t)) n)) (sym (values k))
      (subst (λ s. Mirrors (get rows.values k) (base k) s (cell_stepped k (cell_worked k (base k) (work notes t)) n)) (sym (mine k ∙ ap (λ s. None ∷ s) (sym (before k)))) (mirrors-point (get rows.values k) (base k) (stack_at rows t k) (cell_worked k (base k) (work notes t)) (keeps.held t k live h))))
      (λ k h. (values k, mine k ∙ ap (λ s. None ∷ s) (sym (before k) ∙ keeps.others t k live h) ∙ ap (λ ps. nones (suc (length ps))) (sym points))))
    where
      n : StoreNote
      n = StoreNote.Point t

      points : pointed t (savepoints notes t) (StoreNote.Point t) ≡ false ∷ savepoints notes t
      points = ap (λ b. cond b (false ∷ savepoints notes t) (savepoints notes t)) (eq-eqb t t refl)

      high : Tall (get rows.older t)
      high = tall (get rows.older t) (length (savepoints notes t)) 0 (keeps.height t 0 live)

      before : (k : ℕ) → stack_at rows t k ≡ get high.last k ∷ map (λ m. get m k) high.below
      before k = ap (λ o. map (λ m. get m k) (some_stack o)) high.is

      mine : (k : ℕ) → stack_at rows' t k ≡ None ∷ get high.last k ∷ map (λ m. get m k) high.below
      mine k =
          stack-mine rows rows' t _ stack k
          ∙ ap (λ o. map (λ m. get m k) (some_stack (option_map (λ stack. empty ∷ stack) o))) high.is
          ∙ ap (λ o. o ∷ get high.last k ∷ map (λ m. get m k) high.below) (get-empty nat_cmp k)

  pub rows-returned : (c t : ℕ) (rows' : RowsView) → WorksLive notes (StoreNote.BackTo t) → is_live notes t ≡ true → is_pointed (savepoints notes t) ≡ true
      → ((k : ℕ) → get rows'.values k ≡ get (put_back_last rows.values (stack_of rows t)) k) → HasStack rows t (option_map emptied (get rows.older t)) rows' → KeepsRows facts (H ++ entry c (StoreNote.BackTo t) ∷ []) locks rows'
  rows-returned c t rows' apart live has values stack =
      with_entry facts H locks rows keeps (entry c n) locks rows'
      (keeps-worked notes base (λ k. get locks k) (λ k. get rows.values k) (stack_at rows) keeps n t _ (λ k. get locks k) (λ k. get rows'.values k) (stack_at rows')
      live (eq-eqb t t refl) refl (λ u. refl) (λ u differs. names_one t u differs)
      (base_same facts H locks rows keeps (entry c n) apart refl) (λ k u. sym (or-false (held_by (get locks k) u))) (stack-other rows rows' t _ stack)
      (λ k. ap length (mine k) ∙ ap length (sym (before k)) ∙ keeps.height t k live ∙ ap suc (sym points))
      (λ k h. subst (λ v. Mirrors v (base k) (stack_at rows' t k) (cell_stepped k (cell_worked k (base k) (work notes t)) n)) (sym (back k))
      (subst (λ s. Mirrors (unwrap_or (get high.last k) (get rows.values k)) (base k) s (cell_stepped k (cell_worked k (base k) (work notes t)) n)) (sym (mine k))
      (mirrors-back (get rows.values k) (base k) (get high.last k) (get high.next k) (map (λ m. get m k) high.below) (cell_worked k (base k) (work notes t)) (subst (λ s. Mirrors (get rows.values k) (base k) s (cell_worked k (base k) (work notes t))) (before k) (keeps.held t k live h)))))
      (λ k h.
      let parts : get high.last k ∷ get high.next k ∷ map (λ m. get m k) high.below ≡ None ∷ nones (length (savepoints notes t)) = sym (before k) ∙ keeps.others t k live h in
      (back k ∙ ap (λ o. unwrap_or o (get rows.values k)) (head_of parts), mine k ∙ ap (λ s. None ∷ s) (tail_of parts) ∙ ap (λ m. nones (suc m)) (sym points))))
    where
      n : StoreNote
      n = StoreNote.BackTo t

      points : length (pointed t (savepoints notes t) (StoreNote.BackTo t)) ≡ length (savepoints notes t)
      points = ap (λ b. length (cond b (with_return (savepoints notes t)) (savepoints notes t))) (eq-eqb t t refl) ∙ length_returned (savepoints notes t)

      open_one : Opened (savepoints notes t)
      open_one = opened (savepoints notes t) has

      high : Taller (get rows.older t)
      high = taller (get rows.older t) (length open_one.outer) 0 (keeps.height t 0 live ∙ ap (λ ps. suc (length ps)) open_one.is)

      before : (k : ℕ) → stack_at rows t k ≡ get high.last k ∷ get high.next k ∷ map (λ m. get m k) high.below
      before k = ap (λ o. map (λ m. get m k) (some_stack o)) high.is

      mine : (k : ℕ) → stack_at rows' t k ≡ None ∷ get high.next k ∷ map (λ m. get m k) high.below
      mine k =
          stack-mine rows rows' t _ stack k
          ∙ ap (λ o. map (λ m. get m k) (some_stack (option_map emptied o))) high.is
          ∙ ap (λ o. o ∷ get high.next k ∷ map (λ m. get m k) high.below) (get-empty nat_cmp k)

      back : (k : ℕ) → get rows'.values k ≡ unwrap_or (get high.last k) (get rows.values k)
      back k = values k ∙ ap (λ o. get (put_back_last rows.values (some_stack o)) k) high.is ∙ put_back-map rows.values high.last k

  pub rows-released : (c t : ℕ) (rows' : RowsView) → WorksLive notes (StoreNote.Release t) → is_live notes t ≡ true → is_pointed (savepoints notes t) ≡ true
      → SameValues rows rows' → HasStack rows t (option_map dropped (get rows.older t)) rows' → KeepsRows facts (H ++ entry c (StoreNote.Release t) ∷ []) locks rows'
  rows-released c t rows' apart live has values stack =
      with_entry facts H locks rows keeps (entry c n) locks rows'
      (keeps-worked notes base (λ k. get locks k) (λ k. get rows.values k) (stack_at rows) keeps n t _ (λ k. get locks k) (λ k. get rows'.values k) (stack_at rows')
      live (eq-eqb t t refl) refl (λ u. refl) (λ u differs. names_one t u differs)
      (base_same facts H locks rows keeps (entry c n) apart refl) (λ k u. sym (or-false (held_by (get locks k) u))) (stack-other rows rows' t _ stack)
      (λ k. ap length (mine k) ∙ (let whole = ap length (sym (before k)) ∙ keeps.height t k live ∙ ap (λ ps. suc (length ps)) open_one.is in shorter (length open_one.outer) (get high.last k) (get high.next k) (map (λ m. get m k) high.below) whole) ∙ ap suc (sym points))
      (λ k h. subst (λ v. Mirrors v (base k) (stack_at rows' t k) (cell_stepped k (cell_worked k (base k) (work notes t)) n)) (sym (values k))
      (subst (λ s. Mirrors (get rows.values k) (base k) s (cell_stepped k (cell_worked k (base k) (work notes t)) n)) (sym (mine k))
      (mirrors-release (get rows.values k) (base k) (get high.last k) (get high.next k) (map (λ m. get m k) high.below) (cell_worked k (base k) (work notes t)) (subst (λ s. Mirrors (get rows.values k) (base k) s (cell_worked k (base k) (work notes t))) (before k) (keeps.held t k live h)))))
      (λ k h.
      let parts : get high.last k ∷ get high.next k ∷ map (λ m. get m k) high.below ≡ None ∷ None ∷ nones (length open_one.outer) = sym (before k) ∙ keeps.others t k live h ∙ ap (λ ps. nones (suc (length ps))) open_one.is in
      let rest = tail_of parts in
      (values k, mine k ∙ (λ i. or_else (head_of rest i) (head_of parts i) ∷ tail_of rest i) ∙ ap (λ m. nones (suc m)) (sym points))))
    where
      n : StoreNote
      n = StoreNote.Release t

      shorter : (m : ℕ) (h g : Option (Option ℤ)) (s : OlderStack) → length (h ∷ g ∷ s) ≡ suc (suc m) → suc (length s) ≡ suc m
      shorter m h g s is = omega (arith, is)

      open_one : Opened (savepoints notes t)
      open_one = opened (savepoints notes t) has

      points : length (pointed t (savepoints notes t) (StoreNote.Release t)) ≡ length open_one.outer
      points = ap (λ b. length (cond b (without_innermost (savepoints notes t)) (savepoints notes t))) (eq-eqb t t refl) ∙ ap (λ ps. length (without_innermost ps)) open_one.is

      high : Taller (get rows.older t)
      high = taller (get rows.older t) (length open_one.outer) 0 (keeps.height t 0 live ∙ ap (λ ps. suc (length ps)) open_one.is)

      before : (k : ℕ) → stack_at rows t k ≡ get high.last k ∷ get high.next k ∷ map (λ m. get m k) high.below
      before k = ap (λ o. map (λ m. get m k) (some_stack o)) high.is

      mine : (k : ℕ) → stack_at rows' t k ≡ or_else (get high.next k) (get high.last k) ∷ map (λ m. get m k) high.below
      mine k =
          stack-mine rows rows' t _ stack k
          ∙ ap (λ o. map (λ m. get m k) (some_stack (option_map dropped o))) high.is
          ∙ ap (λ o. o ∷ map (λ m. get m k) high.below) (moved-at high.next high.last k)

  -- what a held row was before the transaction
  undone-held : (t k : ℕ) → is_live notes t ≡ true → held_by (get locks k) t ≡ true → undone (get rows.values k) (stack_at rows t k) ≡ base k
  undone-held t k live h =
      let high = tall (get rows.older t) (length (savepoints notes t)) k (keeps.height t k live) in
      let before : stack_at rows t k ≡ get high.last k ∷ map (λ m. get m k) high.below = ap (λ o. map (λ m. get m k) (some_stack o)) high.is in
      ap (undone (get rows.values k)) before
      ∙ undone-mirrors (get rows.values k) (base k) (get high.last k) (map (λ m. get m k) high.below) (cell_worked k (base k) (work notes t)).copies (sym (ap (unrolled (get rows.values k)) before) ∙ (keeps.held t k live h).older)

  undone-free : (t k : ℕ) → is_live notes t ≡ true → held_by (get locks k) t ≡ false → undone (get rows.values k) (stack_at rows t k) ≡ get rows.values k
  undone-free t k live h = ap (undone (get rows.values k)) (keeps.others t k live h) ∙ undone-nones (get rows.values k) (suc (length (savepoints notes t)))

  -- the committed rows once the transaction commits
  abbrev committed : ℕ → RowMap
  committed t = after (committed_rows facts.values H) (work notes t)

  committed-held : (t k : ℕ) → is_live notes t ≡ true → held_by (get locks k) t ≡ true → get rows.values k ≡ get (committed t) k
  committed-held t k live h = (keeps.held t k live h).now ∙ sym (after-at k (committed_rows facts.values H) (work notes t))

  committed-free : (t k : ℕ) → is_live notes t ≡ true → held_by (get locks k) t ≡ false → get (committed t) k ≡ base k
  committed-free t k live h =
      after-at k (committed_rows facts.values H) (work notes t)
      ∙ sym ((untaken notes t k (base k) (free_untaken notes base (λ k. get locks k) (λ k. get rows.values k) (stack_at rows) keeps t k live h)).now)

  pub net-committed : (t : ℕ) → is_live notes t ≡ true → net (put_back_all rows.values (stack_of rows t)) rows.values ≡ net (committed_rows facts.values H) (committed t)
  net-committed t live =
      net-same (put_back_all rows.values (stack_of rows t)) rows.values (committed_rows facts.values H) (committed t)
      (λ k. ap (λ v. change_to v (get rows.values k)) (undone-at rows.values (stack_of rows t) k) ∙ by_lock k (held_by (get locks k) t) refl)
    where
      by_lock : (k : ℕ) (b : Bool) → held_by (get locks k) t ≡ b → change_to (undone (get rows.values k) (stack_at rows t k)) (get rows.values k) ≡ change_to (base k) (get (committed t) k)
      by_lock k true h = λ i. change_to (undone-held t k live h i) (committed-held t k live h i)
      by_lock k false h =
          ap (λ v. change_to v (get rows.values k)) (undone-free t k live h) ∙ unchanged (get rows.values k)
          ∙ sym (ap (change_to (base k)) (committed-free t k live h) ∙ unchanged (base k))

  pub rows-committed : (c t m : ℕ) (locks' : LockMap) (rows' : RowsView) → WorksLive notes (StoreNote.Commit t m) → is_live notes t ≡ true
      → ((k : ℕ) → get locks' k ≡ unless_held_by t (get locks k)) → SameValues rows rows' → HasStack rows t None rows' → KeepsRows facts (H ++ entry c (StoreNote.Commit t m) ∷ []) locks' rows'
  rows-committed c t m locks' rows' apart live freed values stack =
      with_entry facts H locks rows keeps (entry c (StoreNote.Commit t m)) locks' rows'
      (keeps-ended notes base (λ k. get locks k) (λ k. get rows.values k) (stack_at rows) keeps (StoreNote.Commit t m) t _ (λ k. get locks' k) (λ k. get rows'.values k) (stack_at rows')
      live (eq-eqb t t refl) refl (λ u differs. names_one t u differs) (λ u. refl) (λ u k. refl) freed (stack-other rows rows' t _ stack)
      (λ k h. values k ∙ committed-held t k live h ∙ sym (bases k))
      (λ k h. (values k, bases k ∙ committed-free t k live h)))
    where
      bases : (k : ℕ) → get (committed_rows facts.values (H ++ entry c (StoreNote.Commit t m) ∷ [])) k ≡ get (committed t) k
      bases k = ap (λ rows. get rows k) (committed_rows-push facts.values H (entry c (StoreNote.Commit t m)) apart)

  pub rows-undone : (c t : ℕ) (locks' : LockMap) (rows' : RowsView) → WorksLive notes (StoreNote.Rollback t) → is_live notes t ≡ true
      → ((k : ℕ) → get locks' k ≡ unless_held_by t (get locks k)) → ((k : ℕ) → get rows'.values k ≡ get (put_back_all rows.values (stack_of rows t)) k) → HasStack rows t None rows'
      → KeepsRows facts (H ++ entry c (StoreNote.Rollback t) ∷ []) locks' rows'
  rows-undone c t locks' rows' apart live freed values stack =
      with_entry facts H locks rows keeps (entry c (StoreNote.Rollback t)) locks' rows'
      (keeps-ended notes base (λ k. get locks k) (λ k. get rows.values k) (stack_at rows) keeps (StoreNote.Rollback t) t _ (λ k. get locks' k) (λ k. get rows'.values k) (stack_at rows')
      live (eq-eqb t t refl) refl (λ u differs. names_one t u differs) (λ u. refl) (λ u k. refl) freed (stack-other rows rows' t _ stack)
      (λ k h. values k ∙ undone-at rows.values (stack_of rows t) k ∙ undone-held t k live h ∙ sym (bases k))
      (λ k h. (values k ∙ undone-at rows.values (stack_of rows t) k ∙ undone-free t k live h, bases k)))
    where
      bases : (k : ℕ) → get (committed_rows facts.values (H ++ entry c (StoreNote.Rollback t) ∷ [])) k ≡ base k
      bases = base_same facts H locks rows keeps (entry c (StoreNote.Rollback t)) apart refl

  -- ---- what changes neither locks nor rows, and own statements

  and_busy : (a b : Bool) → (a && b && not true) ≡ false
  and_busy true true = refl
  and_busy true false = refl
  and_busy false b = refl

  pub rows-busy : (c t : ℕ) (a : Access) (r : Answer) → WorksLive notes (StoreNote.Access t a r) → is_busy r ≡ true → KeepsRows facts (H ++ entry c (StoreNote.Access t a r) ∷ []) locks rows
  rows-busy c t a r apart busy =
      with_entry facts H locks rows keeps (entry c n) locks rows
      (keeps-same notes base (λ k. get locks k) (λ k. get rows.values k) (stack_at rows) keeps (notes ++ n ∷ []) _
      (λ u. live_same notes n u refl refl) (λ u k. any_takes-same notes n u k (ap (λ b. (t == u) && (row_of a == k) && not b) busy ∙ and_busy (t == u) (row_of a == k)))
      (λ u. savepoints-push notes n u) (λ u. work_same notes n u (ap (λ b. (t == u) && not b) busy ∙ and-false (t == u)))
      (base_same facts H locks rows keeps (entry c n) apart refl))
    where
      n : StoreNote
      n = StoreNote.Access t a r

  pub commits-none : (c : ℕ) (a : Access) (r : Answer) → is_busy r ≡ true → commits H (entry c (StoreNote.Auto a r)) ≡ []
  commits-none c a r busy = by_answer (is_busy r) busy
    where
      by_answer : (b : Bool) → b ≡ true → cons_option {X = Transaction} (cond b None (Some (record { client = c; tx = None; work = StoreNote.Auto a r ∷ [] }))) [] ≡ []
      by_answer true h = refl
      by_answer false h = absurd (false≢true h)

  pub rows-auto_busy : (c : ℕ) (a : Access) (r : Answer) → WorksLive notes (StoreNote.Auto a r) → is_busy r ≡ true → KeepsRows facts (H ++ entry c (StoreNote.Auto a r) ∷ []) locks rows
  rows-auto_busy c a r apart busy =
      with_entry facts H locks rows keeps (entry c n) locks rows
      (keeps-same notes base (λ k. get locks k) (λ k. get rows.values k) (stack_at rows) keeps (notes ++ n ∷ []) _
      (λ u. live_same notes n u refl refl) (λ u k. any_takes-same notes n u k refl) (λ u. savepoints-push notes n u) (λ u. work_same notes n u refl)
      (base_same facts H locks rows keeps (entry c n) apart (commits-none c a r busy)))
    where
      n : StoreNote
      n = StoreNote.Auto a r

  abbrev pub own : ℕ → Access → Answer → Transaction
  own c a r = record { client = c; tx = None; work = StoreNote.Auto a r ∷ [] }

  pub commits-own : (c : ℕ) (a : Access) (r : Answer) → is_busy r ≡ false → commits H (entry c (StoreNote.Auto a r)) ≡ own c a r ∷ []
  commits-own c a r free = by_answer (is_busy r) free
    where
      by_answer : (b : Bool) → b ≡ false → cons_option (cond b None (Some (own c a r))) [] ≡ own c a r ∷ []
      by_answer true h = absurd (false≢true (sym h))
      by_answer false h = refl

  pub rows-auto : (c : ℕ) (a : Access) (r : Answer) (rows' : RowsView) → WorksLive notes (StoreNote.Auto a r) → is_busy r ≡ false → get locks (row_of a) ≡ None
      → ((k : ℕ) → get rows'.values k ≡ cell_applied k (get rows.values k) a) → ((t : ℕ) → get rows'.older t ≡ get rows.older t) → KeepsRows facts (H ++ entry c (StoreNote.Auto a r) ∷ []) locks rows'
  rows-auto c a r rows' apart free unlocked values older =
      with_entry facts H locks rows keeps (entry c n) locks rows'
      (subst (λ s. Keeps (notes ++ n ∷ []) (λ k. get (committed_rows facts.values (H ++ entry c n ∷ [])) k) (λ k. get locks k) (λ k. get rows'.values k) s) (λ i t k. map (λ m. get m k) (some_stack (sym (older t) i)))
      (keeps-auto notes base (λ k. get locks k) (λ k. get rows.values k) (stack_at rows) keeps (notes ++ n ∷ []) _ (λ k. get rows'.values k) (row_of a) unlocked
      (λ u. live_same notes n u refl refl) (λ u k. any_takes-same notes n u k refl) (λ u. savepoints-push notes n u) (λ u. work_same notes n u refl)
      (values (row_of a) ∙ ap (λ v. cell_applied (row_of a) v a) (keeps.free (row_of a) unlocked) ∙ sym (bases (row_of a)))
      (λ k differs. (values k ∙ elsewhere k (get rows.values k) a differs, bases k ∙ elsewhere k (base k) a differs))))
    where
      n : StoreNote
      n = StoreNote.Auto a r

      bases : (k : ℕ) → get (committed_rows facts.values (H ++ entry c n ∷ [])) k ≡ cell_applied k (base k) a
      bases k =
          ap (λ rows. get rows k) (committed_rows-push facts.values H (entry c n) apart ∙ ap (after_all (committed_rows facts.values H)) (commits-own c a r free))
          ∙ after-at k (committed_rows facts.values H) (n ∷ [])

  -- what an own statement changes is net
  pub net-access : (a : Access) (r : Answer) → get locks (row_of a) ≡ None → changes_of (get rows.values (row_of a)) a ≡ net (committed_rows facts.values H) (after (committed_rows facts.values H) (StoreNote.Auto a r ∷ []))
  net-access (Access.Read row) r unlocked = sym (net-none (committed_rows facts.values H) (after (committed_rows facts.values H) (StoreNote.Auto (Access.Read row) r ∷ [])) (λ q. refl))
  net-access (Access.Write row v) r unlocked =
      ap (λ o. row_change o row (Some v)) (keeps.free row.0 unlocked)
      ∙ sym (net-one (committed_rows facts.values H) (after (committed_rows facts.values H) (StoreNote.Auto (Access.Write row v) r ∷ [])) row (Some v) (λ q. after-at q (committed_rows facts.values H) (StoreNote.Auto (Access.Write row v) r ∷ [])))
  net-access (Access.Erase row) r unlocked =
      ap (λ o. row_change o row None) (keeps.free row.0 unlocked)
      ∙ sym (net-one (committed_rows facts.values H) (after (committed_rows facts.values H) (StoreNote.Auto (Access.Erase row) r ∷ [])) row None (λ q. after-at q (committed_rows facts.values H) (StoreNote.Auto (Access.Erase row) r ∷ [])))
