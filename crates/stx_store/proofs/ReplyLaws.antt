-- What the locks and the rows answer is the store's reply.
use Rattle.std.proofs.Common.{◌≡◌, ℕ, Bool, true, false, not, ◌&&◌, ◌||◌, ◌==◌, cond, min, List, [], ◌∷◌, Option, Some, None, fold, refl, sym, ap, ◌∙◌, arith, eq-eqb, eqb-true}
use Rattle.std.specs.List.{list_any}
use Rattle.std.specs.FinMap.{get}
use Rattle.std.proofs.lemmas.Bool.{false≢true, or_right, and_parts}
use Rattle.stx_base.specs.declared.facts.StoreFacts.{StoreFacts}
use Rattle.stx_base.specs.declared.history.Access.{Access}
use Rattle.stx_base.specs.declared.history.Answer.{Answer}
use Rattle.stx_base.specs.declared.history.StoreEntry.{StoreEntry}
use Rattle.stx_base.specs.Alone.{row_of}
use Rattle.stx_base.specs.Histories.{store_notes}
use Rattle.stx_base.specs.Pools.{contains}
use Rattle.stx_base.specs.Stores.{live, is_live, takes, holders, is_caller, conflicts, smallest, committed_rows, access_answer, auto_answer}
use Rattle.stx_base.proofs.HistoryLaws.{contains-filter}
use Rattle.stx_locks.specs.declared.table.Ask.{Ask}
use Rattle.stx_locks.specs.Locks.{LockMap, asked}
use Rattle.stx_rows.specs.Rows.{RowsView}
use Rattle.stx_store.specs.inner.Cells.{found_at}
use Rattle.stx_store.specs.inner.Keeping.{held_by, KeepsRows, stack_at, unless_busy}
use Rattle.stx_store.proofs.CellLaws.{access-busy, access-found, auto-busy, auto-found}
use Rattle.stx_store.proofs.KeepLaws.{granted-mirrors}
use Rattle.stx_store.proofs.StateLaws.{IsGranted}

-- ---- the smallest of a list that has one number at most

smallest-none : (xs : List ℕ) → ((u : ℕ) → contains xs u ≡ false) → None ≡ smallest xs
smallest-none [] none = refl
smallest-none (x ∷ xs) none = absurd (false≢true (sym (none x) ∙ ap (λ b. b || contains xs x) (eq-eqb x x refl)))

min_same : (h : ℕ) → min h h ≡ h
min_same h = omega arith

fold-same : (h : ℕ) (xs : List ℕ) → ((u : ℕ) → contains xs u ≡ true → u ≡ h) → fold min h xs ≡ h
fold-same h [] only = refl
fold-same h (x ∷ xs) only =
    let same : x ≡ h = only x (ap (λ b. b || contains xs x) (eq-eqb x x refl)) in
    ap (λ n. fold min n xs) (ap (min h) same ∙ min_same h) ∙ fold-same h xs (λ u there. only u (or_right (x == u) (contains xs u) there))

smallest-one : (xs : List ℕ) (h : ℕ) → contains xs h ≡ true → ((u : ℕ) → contains xs u ≡ true → u ≡ h) → Some h ≡ smallest xs
smallest-one [] h there only = absurd (false≢true there)
smallest-one (x ∷ xs) h there only =
    let same : x ≡ h = only x (ap (λ b. b || contains xs x) (eq-eqb x x refl)) in
    ap Some (sym (ap (λ n. fold min n xs) same ∙ fold-same h xs (λ u in_rest. only u (or_right (x == u) (contains xs u) in_rest))))

module _ (facts : StoreFacts) (H : List StoreEntry) (locks : LockMap) (rows : RowsView) (keeps : KeepsRows facts H locks rows) where
  in_the_way : (caller : Option ℕ) (a : Access) (u : ℕ) → contains (conflicts facts (store_notes H) caller a) u ≡ (held_by (get locks (row_of a)) u && not (is_caller caller u))
  in_the_way caller a u =
      contains-filter (λ t. not (is_caller caller t)) (holders (store_notes H) (row_of a)) u
      ∙ ap (λ b. b && not (is_caller caller u)) (contains-filter (λ t. list_any (takes t (row_of a)) (store_notes H)) (live (store_notes H)) u ∙ keeps.locked (row_of a) u)

  -- a free row, or one's own: nobody is in the way
  way_free : (caller : Option ℕ) (a : Access) → ((u : ℕ) → held_by (get locks (row_of a)) u ≡ true → is_caller caller u ≡ true) → None ≡ smallest (conflicts facts (store_notes H) caller a)
  way_free caller a own =
      smallest-none (conflicts facts (store_notes H) caller a) (λ u. in_the_way caller a u ∙ by_test u (held_by (get locks (row_of a)) u) refl)
    where
      by_test : (u : ℕ) (b : Bool) → held_by (get locks (row_of a)) u ≡ b → (b && not (is_caller caller u)) ≡ false
      by_test u false is = refl
      by_test u true is = ap not (own u is)

  -- another one's
  way_held : (caller : Option ℕ) (a : Access) (h : ℕ) → get locks (row_of a) ≡ Some h → is_caller caller h ≡ false → Some h ≡ smallest (conflicts facts (store_notes H) caller a)
  way_held caller a h is other =
      smallest-one (conflicts facts (store_notes H) caller a) h
      (in_the_way caller a h ∙ (λ i. held_by (is i) h && not (other i)) ∙ ap (λ b. b && true) (eq-eqb h h refl))
      (λ u there. sym (eqb-true h u (sym (ap (λ o. held_by o u) is) ∙ (and_parts (held_by (get locks (row_of a)) u) (not (is_caller caller u)) (sym (in_the_way caller a u) ∙ there)).0)))

  own_granted : (o : Option ℕ) (t : ℕ) → asked o t ≡ Ask.Granted → IsGranted o t
  own_granted None t is u h = absurd (false≢true h)
  own_granted (Some holder) t is u h = by_test (holder == t) refl is
    where
      by_test : (b : Bool) → (holder == t) ≡ b → cond b Ask.Granted (Ask.Busy holder) ≡ Ask.Granted → u ≡ t
      by_test true same e = sym (eqb-true holder u h) ∙ eqb-true holder t same
      by_test false same e = cc

  busy_holder : (o : Option ℕ) (t h : ℕ) → asked o t ≡ Ask.Busy h → (o ≡ Some h) × ((h == t) ≡ false)
  busy_holder None t h is = cc
  busy_holder (Some holder) t h is = by_test (holder == t) refl is
    where
      by_test : (b : Bool) → (holder == t) ≡ b → cond b Ask.Granted (Ask.Busy holder) ≡ Ask.Busy h → (Some holder ≡ Some h) × ((h == t) ≡ false)
      by_test true same e = cc
      by_test false same e = let is_h : holder ≡ h = cc in (ap Some is_h, sym (ap (λ n. n == t) is_h) ∙ same)

  pub granted : (t : ℕ) (a : Access) → asked (get locks (row_of a)) t ≡ Ask.Granted → IsGranted (get locks (row_of a)) t
  granted t a is = own_granted (get locks (row_of a)) t is

  -- what a transaction's access is answered
  pub access-answered : (t : ℕ) (a : Access) (answer : Answer) → is_live (store_notes H) t ≡ true → answer ≡ unless_busy (asked (get locks (row_of a)) t) (found_at (get rows.values (row_of a)) a)
      → answer ≡ access_answer facts H t a
  access-answered t a answer live is = is ∙ by_ask (asked (get locks (row_of a)) t) refl
    where
      by_ask : (ask : Ask) → asked (get locks (row_of a)) t ≡ ask → unless_busy ask (found_at (get rows.values (row_of a)) a) ≡ access_answer facts H t a
      by_ask (Ask.Busy h) held = let parts = busy_holder (get locks (row_of a)) t h held in access-busy facts H t h a (way_held (Some t) a h parts.0 parts.1)
      by_ask Ask.Granted free =
          let mine = own_granted (get locks (row_of a)) t free in
          access-found facts H t (row_of a) a (get (committed_rows facts.values H) (row_of a)) (get rows.values (row_of a)) (found_at (get rows.values (row_of a)) a) refl
          (way_free (Some t) a (λ u h. eq-eqb u t (mine u h))) refl
          ((granted-mirrors (store_notes H) (λ k. get (committed_rows facts.values H) k) (λ k. get locks k) (λ k. get rows.values k) (stack_at rows) keeps t (row_of a) live mine).now) refl

  -- and an own statement
  pub auto-held : (a : Access) (h : ℕ) → get locks (row_of a) ≡ Some h → Answer.Busy h ≡ auto_answer facts H a
  auto-held a h is = auto-busy facts H h a (way_held None a h is refl)

  pub auto-free : (a : Access) (answer : Answer) → get locks (row_of a) ≡ None → answer ≡ found_at (get rows.values (row_of a)) a → answer ≡ auto_answer facts H a
  auto-free a answer none is =
      auto-found facts H (row_of a) a (get rows.values (row_of a)) answer refl (way_free None a (λ u h. absurd (false≢true (sym (ap (λ o. held_by o u) none) ∙ h)))) (keeps.free (row_of a) none) is
