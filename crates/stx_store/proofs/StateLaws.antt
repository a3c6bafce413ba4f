-- The locks and the rows stay those of the history with each call.
use Rattle.std.proofs.Common.{◌≡◌, ◌≢◌, ℕ, ℤ, zero, suc, Bool, true, false, not, ◌&&◌, ◌||◌, ◌==◌, cond, List, [], ◌∷◌, ◌++◌, Option, Some, None, length, map, refl, sym, ap, ◌∙◌, subst, inl, inr, arith, eq-eqb, ne_eqb, eqb-true}
use Rattle.std.proofs.Math.Bool.{or-true}
use Rattle.std.specs.Option.{option_map, unwrap_or}
use Rattle.std.specs.List.{list_any}
use Rattle.std.specs.FinMap.{get, empty, get-empty}
use Rattle.std.specs.Ordering.{nat_cmp}
use Rattle.std.proofs.lemmas.Bool.{false≢true, cases_eq}
use Rattle.stx_base.specs.declared.facts.StoreFacts.{StoreFacts}
use Rattle.stx_base.specs.declared.history.Access.{Access}
use Rattle.stx_base.specs.declared.history.Answer.{Answer}
use Rattle.stx_base.specs.declared.history.StoreNote.{StoreNote}
use Rattle.stx_base.specs.declared.history.StoreEntry.{StoreEntry}
use Rattle.stx_base.specs.Alone.{RowMap, row_of}
use Rattle.stx_base.specs.Histories.{store_notes}
use Rattle.stx_base.specs.Stores.{is_live, is_busy, takes, pointed, savepoints, work, committed_rows, after_all}
use Rattle.stx_base.proofs.HistoryLaws.{or-false, store_notes-push}
use Rattle.stx_base.proofs.StoreLaws.{names}
use Rattle.stx_locks.specs.Locks.{LockMap, after_asked}
use Rattle.stx_rows.specs.Rows.{OlderMap, RowsView, put_back, put_back_all, some_stack, HasStack, SameValues}
use Rattle.stx_rows.proofs.RowsLaws.{or_else, kept-at, put_back-map}
use Rattle.stx_store.specs.inner.Cells.{Cell, cell_applied, cell_stepped, cell_worked}
use Rattle.stx_store.specs.inner.Keeping.{held_by, OlderStack, nones, unrolled, Mirrors, Keeps, KeepsRows, stack_at, kept_for, IsMade}
use Rattle.stx_store.proofs.KeepLaws.{head_of, tail_of, mirrors-write, granted-mirrors, keeps-worked, keeps-begun}
use Rattle.stx_store.proofs.JournalLaws.{WorksLive, commits, committed_rows-push}
use Rattle.stx_store.proofs.OwedLaws.{entry}

-- ---- stacks

pub stack-other : (old new : RowsView) (t : ℕ) (stack : Option (List OlderMap)) → HasStack old t stack new → (k u : ℕ) → u ≢ t → stack_at new u k ≡ stack_at old u k
stack-other old new t stack has k u differs = ap (λ o. map (λ m. get m k) (some_stack o)) (has u ∙ ap (λ b. cond b stack (get old.older u)) (ne_eqb u t differs))

pub stack-mine : (old new : RowsView) (t : ℕ) (stack : Option (List OlderMap)) → HasStack old t stack new → (k : ℕ) → stack_at new t k ≡ map (λ m. get m k) (some_stack stack)
stack-mine old new t stack has k = ap (λ o. map (λ m. get m k) (some_stack o)) (has t ∙ ap (λ b. cond b stack (get old.older t)) (eq-eqb t t refl))

-- a stack of this height is there
pub record Tall (o : Option (List OlderMap)) : Type 0 where
  pub last : OlderMap
  pub below : List OlderMap
  pub is : o ≡ Some (last ∷ below)

pub tall : (o : Option (List OlderMap)) (n k : ℕ) → length (map (λ m. get m k) (some_stack o)) ≡ suc n → Tall o
tall None n k h = absurd (omega (arith, h))
tall (Some []) n k h = absurd (omega (arith, h))
tall (Some (m ∷ below)) n k h = record { last = m; below = below; is = refl }

pub record Taller (o : Option (List OlderMap)) : Type 0 where
  pub last : OlderMap
  pub next : OlderMap
  pub below : List OlderMap
  pub is : o ≡ Some (last ∷ next ∷ below)

pub taller : (o : Option (List OlderMap)) (n k : ℕ) → length (map (λ m. get m k) (some_stack o)) ≡ suc (suc n) → Taller o
taller None n k h = absurd (omega (arith, h))
taller (Some []) n k h = absurd (omega (arith, h))
taller (Some (m ∷ [])) n k h = absurd (omega (arith, h))
taller (Some (m ∷ g ∷ below)) n k h = record { last = m; next = g; below = below; is = refl }

-- what is left of a row when all levels are put back
abbrev pub undone : Option ℤ → OlderStack → Option ℤ
undone value [] = value
undone value (held ∷ below) = undone (unwrap_or held value) below

pub undone-at : (rows : RowMap) (stack : List OlderMap) (k : ℕ) → get (put_back_all rows stack) k ≡ undone (get rows k) (map (λ m. get m k) stack)
undone-at rows [] k = refl
undone-at rows (m ∷ below) k = undone-at (put_back rows m) below k ∙ ap (λ v. undone v (map (λ m. get m k) below)) (put_back-map rows m k)

pub undone-nones : (value : Option ℤ) (n : ℕ) → undone value (nones n) ≡ value
undone-nones value zero = refl
undone-nones value (suc n) = undone-nones value n

pub undone-mirrors : (value base : Option ℤ) (held : Option (Option ℤ)) (below : OlderStack) (copies : List (Option ℤ)) → unrolled value (held ∷ below) ≡ copies ++ base ∷ [] → undone value (held ∷ below) ≡ base
undone-mirrors value base held [] [] h = cc
undone-mirrors value base held [] (c ∷ copies) h = absurd (no_tail copies (ap length h))
  where
    no_tail : (copies : List (Option ℤ)) → 1 ≡ length (c ∷ copies ++ base ∷ []) → ⊥
    no_tail [] h = omega (arith, h)
    no_tail (d ∷ copies) h = omega (arith, h)
undone-mirrors value base held (next ∷ below) [] h = absurd (omega (arith, ap length h))
undone-mirrors value base held (next ∷ below) (c ∷ copies) h = undone-mirrors (unwrap_or held value) base next below copies (tail h)
  where
    tail : unrolled value (held ∷ next ∷ below) ≡ c ∷ copies ++ base ∷ [] → unrolled (unwrap_or held value) (next ∷ below) ≡ copies ++ base ∷ []
    tail e = cc

-- ---- one access

abbrev noted_head : ℕ → Access → Option ℤ → Option (Option ℤ) → Option (Option ℤ)
noted_head k (Access.Read row) before held = held
noted_head k (Access.Write row v) before held = or_else held (cond (k == row.0) (Some before) None)
noted_head k (Access.Erase row) before held = or_else held (cond (k == row.0) (Some before) None)

or_else-none : (o : Option (Option ℤ)) → or_else o None ≡ o
or_else-none (Some v) = refl
or_else-none None = refl

stack-for : (a : Access) (before : Option ℤ) (m : OlderMap) (below : List OlderMap) (k : ℕ) → map (λ n. get n k) (kept_for a before (m ∷ below)) ≡ noted_head k a before (get m k) ∷ map (λ n. get n k) below
stack-for (Access.Read row) before m below k = refl
stack-for (Access.Write row v) before m below k = ap (λ h. h ∷ map (λ n. get n k) below) (kept-at m row.0 before k)
stack-for (Access.Erase row) before m below k = ap (λ h. h ∷ map (λ n. get n k) below) (kept-at m row.0 before k)

written : (k : ℕ) (row : ℕ) (value : Option ℤ) (v before base : Option ℤ) (held : Option (Option ℤ)) (below : OlderStack) (c : Cell) → (k ≡ row → before ≡ v) → Mirrors v base (held ∷ below) c
    → Mirrors (cond (k == row) value v) base (or_else held (cond (k == row) (Some before) None) ∷ below) (record { value = cond (k == row) value c.value; copies = c.copies })
written k row value v before base held below c was m = by_test (k == row) (λ h. was (eqb-true k row h))
  where
    by_test : (b : Bool) → (b ≡ true → before ≡ v) → Mirrors (cond b value v) base (or_else held (cond b (Some before) None) ∷ below) (record { value = cond b value c.value; copies = c.copies })
    by_test true same = subst (λ o. Mirrors value base (or_else held (Some o) ∷ below) (record { value = value; copies = c.copies })) (sym (same refl)) (mirrors-write v base value held below c m)
    by_test false same = subst (λ h. Mirrors v base (h ∷ below) c) (sym (or_else-none held)) m

access-mirrors : (k t : ℕ) (a : Access) (r : Answer) (v before base : Option ℤ) (held : Option (Option ℤ)) (below : OlderStack) (c : Cell) → (k ≡ row_of a → before ≡ v) → Mirrors v base (held ∷ below) c
    → Mirrors (cell_applied k v a) base (noted_head k a before held ∷ below) (cell_stepped k c (StoreNote.Access t a r))
access-mirrors k t (Access.Read row) r v before base held below c was m = m
access-mirrors k t (Access.Write row w) r v before base held below c was m = written k row.0 (Some w) v before base held below c was m
access-mirrors k t (Access.Erase row) r v before base held below c was m = written k row.0 None v before base held below c was m

pub elsewhere : (k : ℕ) (v : Option ℤ) (a : Access) → k ≢ row_of a → cell_applied k v a ≡ v
elsewhere k v (Access.Read row) differs = refl
elsewhere k v (Access.Write row w) differs = ap (λ b. cond b (Some w) v) (ne_eqb k row.0 differs)
elsewhere k v (Access.Erase row) differs = ap (λ b. cond b None v) (ne_eqb k row.0 differs)

head-elsewhere : (k : ℕ) (a : Access) (before : Option ℤ) → k ≢ row_of a → noted_head k a before None ≡ None
head-elsewhere k (Access.Read row) before differs = refl
head-elsewhere k (Access.Write row w) before differs = ap (λ b. or_else None (cond b (Some before) None)) (ne_eqb k row.0 differs)
head-elsewhere k (Access.Erase row) before differs = ap (λ b. or_else None (cond b (Some before) None)) (ne_eqb k row.0 differs)

-- ---- locks that are asked for

abbrev pub IsGranted : Option ℕ → ℕ → Type 0
IsGranted o t = (u : ℕ) → held_by o u ≡ true → u ≡ t

own_after : (o : Option ℕ) (t u : ℕ) → IsGranted o t → held_by (after_asked o t) u ≡ (held_by o u || (t == u))
own_after None t u granted = refl
own_after (Some holder) t u granted = let same : holder ≡ t = granted holder (eq-eqb holder holder refl) in ap (λ b. holder_test b) same ∙ sym (ap (λ h. (h == u) || (t == u)) same ∙ or_same (t == u))
  where
    holder_test : ℕ → Bool
    holder_test h = h == u

    or_same : (b : Bool) → (b || b) ≡ b
    or_same true = refl
    or_same false = refl

and-true : (b : Bool) → (b && true && not false) ≡ b
and-true true = refl
and-true false = refl

and-false : (b c : Bool) → (b && false && c) ≡ false
and-false true c = refl
and-false false c = refl

locks-asked : (locks : LockMap) (t : ℕ) (a : Access) (r : Answer) → is_busy r ≡ false → IsGranted (get locks (row_of a)) t → (locks' : LockMap) → ((k : ℕ) → get locks' k ≡ cond (k == row_of a) (after_asked (get locks k) t) (get locks k))
    → (k u : ℕ) → held_by (get locks' k) u ≡ (held_by (get locks k) u || takes u k (StoreNote.Access t a r))
locks-asked locks t a r free granted locks' are k u = ap (λ o. held_by o u) (are k) ∙ elim (cases_eq k (row_of a)) [
  | inl same ↦
      ap (λ b. held_by (cond b (after_asked (get locks k) t) (get locks k)) u) (eq-eqb k (row_of a) same)
      ∙ own_after (get locks k) t u (subst (λ j. IsGranted (get locks j) t) (sym same) granted)
      ∙ ap (λ b. held_by (get locks k) u || b) (sym (and-true (t == u)) ∙ (λ i. (t == u) && sym (eq-eqb (row_of a) k (sym same)) i && not (sym free i)))
  | inr differs ↦
      ap (λ b. held_by (cond b (after_asked (get locks k) t) (get locks k)) u) (ne_eqb k (row_of a) differs)
      ∙ sym (or-false (held_by (get locks k) u))
      ∙ ap (λ b. held_by (get locks k) u || b) (sym (and-false (t == u) (not (is_busy r))) ∙ ap (λ b. (t == u) && b && not (is_busy r)) (sym (ne_eqb (row_of a) k (λ e. differs (sym e)))))
]

-- ---- with each entry

pub names_one : (t u : ℕ) → u ≢ t → (t == u) ≡ false
names_one t u differs = ne_eqb t u (λ e. differs (sym e))

module _ (facts : StoreFacts) (H : List StoreEntry) (locks : LockMap) (rows : RowsView) (keeps : KeepsRows facts H locks rows) where
  abbrev pub notes : List StoreNote
  notes = store_notes H

  abbrev pub base : ℕ → Option ℤ
  base k = get (committed_rows facts.values H) k

  -- an entry that commits nothing leaves the committed rows
  pub base_same : (e : StoreEntry) → WorksLive notes e.note → commits H e ≡ [] → (k : ℕ) → get (committed_rows facts.values (H ++ e ∷ [])) k ≡ base k
  base_same e apart none k = ap (λ m. get m k) (committed_rows-push facts.values H e apart ∙ ap (after_all (committed_rows facts.values H)) none)

  pub with_entry : (e : StoreEntry) (locks' : LockMap) (rows' : RowsView)
      → Keeps (notes ++ e.note ∷ []) (λ k. get (committed_rows facts.values (H ++ e ∷ [])) k) (λ k. get locks' k) (λ k. get rows'.values k) (stack_at rows')
      → KeepsRows facts (H ++ e ∷ []) locks' rows'
  with_entry e locks' rows' kept = subst (λ ns. Keeps ns (λ k. get (committed_rows facts.values (H ++ e ∷ [])) k) (λ k. get locks' k) (λ k. get rows'.values k) (stack_at rows')) (sym (store_notes-push H e)) kept

  pub rows-begun : (c t : ℕ) (locks' : LockMap) (rows' : RowsView) → WorksLive notes (StoreNote.Begin t) → list_any (names t) notes ≡ false
      → ((k : ℕ) → get locks' k ≡ get locks k) → SameValues rows rows' → HasStack rows t (Some (empty ∷ [])) rows' → KeepsRows facts (H ++ entry c (StoreNote.Begin t) ∷ []) locks' rows'
  rows-begun c t locks' rows' apart fresh locked values stack =
      with_entry (entry c (StoreNote.Begin t)) locks' rows'
      (keeps-begun notes base (λ k. get locks k) (λ k. get rows.values k) (stack_at rows) keeps t _ (λ k. get locks' k) (λ k. get rows'.values k) (stack_at rows')
      fresh (base_same (entry c (StoreNote.Begin t)) apart refl) locked values (stack-other rows rows' t _ stack)
      (λ k. stack-mine rows rows' t _ stack k ∙ ap (λ o. o ∷ []) (get-empty nat_cmp k)))

  pub rows-accessed : (c t : ℕ) (a : Access) (r : Answer) (locks' : LockMap) (rows' : RowsView) → WorksLive notes (StoreNote.Access t a r) → is_live notes t ≡ true → is_busy r ≡ false → IsGranted (get locks (row_of a)) t
      → ((k : ℕ) → get locks' k ≡ cond (k == row_of a) (after_asked (get locks k) t) (get locks k)) → IsMade a t rows rows' → KeepsRows facts (H ++ entry c (StoreNote.Access t a r) ∷ []) locks' rows'
  rows-accessed c t a r locks' rows' apart live free granted locked made =
      with_entry (entry c n) locks' rows'
      (keeps-worked notes base (λ k. get locks k) (λ k. get rows.values k) (stack_at rows) keeps n t _ (λ k. get locks' k) (λ k. get rows'.values k) (stack_at rows')
      live ((λ i. eq-eqb t t refl i && not (free i))) refl (λ u. refl) (λ u differs. names_one t u differs)
      (base_same (entry c n) apart refl) asked_for (stack-other rows rows' t _ made.older)
      (λ k. ap length (mine k) ∙ (let high = keeps.height t k live in ap length (sym (before k)) ∙ high))
      mirrored unheld)
    where
      n : StoreNote
      n = StoreNote.Access t a r

      asked_for : (k u : ℕ) → held_by (get locks' k) u ≡ (held_by (get locks k) u || takes u k n)
      asked_for = locks-asked locks t a r free granted locks' locked

      high : Tall (get rows.older t)
      high = tall (get rows.older t) (length (savepoints notes t)) 0 (keeps.height t 0 live)

      was : Option ℤ
      was = get rows.values (row_of a)

      before : (k : ℕ) → stack_at rows t k ≡ get high.last k ∷ map (λ m. get m k) high.below
      before k = ap (λ o. map (λ m. get m k) (some_stack o)) high.is

      mine : (k : ℕ) → stack_at rows' t k ≡ noted_head k a was (get high.last k) ∷ map (λ m. get m k) high.below
      mine k =
          stack-mine rows rows' t _ made.older k
          ∙ ap (λ o. map (λ m. get m k) (some_stack (option_map (kept_for a was) o))) high.is
          ∙ stack-for a was high.last high.below k

      holds_before : (k : ℕ) → held_by (get locks' k) t ≡ true → Mirrors (get rows.values k) (base k) (stack_at rows t k) (cell_worked k (base k) (work notes t))
      holds_before k h = elim (cases_eq k (row_of a)) [
        | inl same ↦ granted-mirrors notes base (λ k. get locks k) (λ k. get rows.values k) (stack_at rows) keeps t k live (subst (λ j. IsGranted (get locks j) t) (sym same) granted)
        | inr differs ↦ keeps.held t k live (sym (ap (λ b. held_by (cond b (after_asked (get locks k) t) (get locks k)) t) (ne_eqb k (row_of a) differs)) ∙ sym (ap (λ o. held_by o t) (locked k)) ∙ h)
      ]

      mirrored : (k : ℕ) → held_by (get locks' k) t ≡ true → Mirrors (get rows'.values k) (base k) (stack_at rows' t k) (cell_stepped k (cell_worked k (base k) (work notes t)) n)
      mirrored k h =
          subst (λ v. Mirrors v (base k) (stack_at rows' t k) (cell_stepped k (cell_worked k (base k) (work notes t)) n)) (sym (made.values k))
          (subst (λ s. Mirrors (cell_applied k (get rows.values k) a) (base k) s (cell_stepped k (cell_worked k (base k) (work notes t)) n)) (sym (mine k))
          (access-mirrors k t a r (get rows.values k) was (base k) (get high.last k) (map (λ m. get m k) high.below) (cell_worked k (base k) (work notes t)) (λ same. ap (get rows.values) (sym same))
          (subst (λ s. Mirrors (get rows.values k) (base k) s (cell_worked k (base k) (work notes t))) (before k) (holds_before k h))))

      own_row : held_by (get locks' (row_of a)) t ≡ true
      own_row =
          ap (λ o. held_by o t) (locked (row_of a) ∙ ap (λ b. cond b (after_asked (get locks (row_of a)) t) (get locks (row_of a))) (eq-eqb (row_of a) (row_of a) refl))
          ∙ own_after (get locks (row_of a)) t t granted ∙ ap (λ b. held_by (get locks (row_of a)) t || b) (eq-eqb t t refl) ∙ or-true (held_by (get locks (row_of a)) t)

      unheld : (k : ℕ) → held_by (get locks' k) t ≡ false → (get rows'.values k ≡ get rows.values k) × (stack_at rows' t k ≡ nones (suc (length (pointed t (savepoints notes t) n))))
      unheld k h = elim (cases_eq k (row_of a)) [
        | inl same ↦ absurd (false≢true (sym h ∙ subst (λ j. held_by (get locks' j) t ≡ true) (sym same) own_row))
        | inr differs ↦
            let free_before = sym (ap (λ b. held_by (cond b (after_asked (get locks k) t) (get locks k)) t) (ne_eqb k (row_of a) differs)) ∙ sym (ap (λ o. held_by o t) (locked k)) ∙ h in
            let none = keeps.others t k live free_before in
            let parts : get high.last k ∷ map (λ m. get m k) high.below ≡ None ∷ nones (length (savepoints notes t)) = sym (before k) ∙ none in (
              made.values k ∙ elsewhere k (get rows.values k) a differs,
              mine k ∙ (λ i. noted_head k a was (head_of parts i) ∷ map (λ m. get m k) high.below) ∙ ap (λ o. o ∷ map (λ m. get m k) high.below) (head-elsewhere k a was differs) ∙ ap (λ s. None ∷ s) (tail_of parts),
            )
      ]
