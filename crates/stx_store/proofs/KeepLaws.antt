-- What is kept stays right with each note.
use Rattle.std.proofs.Common.{◌≡◌, ◌≢◌, ℕ, ℤ, suc, Bool, true, false, not, ◌&&◌, ◌||◌, ◌==◌, cond, List, [], ◌∷◌, ◌++◌, Option, Some, None, length, fold, refl, sym, ap, ◌∙◌, subst, inl, inr, arith, eq-eqb, ne_eqb, eqb-true}
use Rattle.std.proofs.Math.Bool.{or-true, and-false}
use Rattle.std.specs.List.{list_any}
use Rattle.std.specs.Option.{unwrap_or}
use Rattle.std.proofs.lemmas.Bool.{false≢true, cases_eq}
use Rattle.std.proofs.lemmas.List.Sums.{fold-append}
use Rattle.stx_base.specs.declared.history.Access.{Access}
use Rattle.stx_base.specs.declared.history.StoreNote.{StoreNote}
use Rattle.stx_base.specs.Alone.{innermost, without_innermost, row_of}
use Rattle.stx_base.specs.Stores.{begun, ends, is_live, is_busy, takes, pointed, savepoints, works, work, with_return}
use Rattle.stx_base.proofs.HistoryLaws.{or-false, or_none, list_any-push, is_live-push, savepoints-push, work_more, work_same}
use Rattle.stx_base.proofs.StoreLaws.{names, is_live_none, savepoints_none, is_live-push_other, savepoints-push_other, is_live-push_kept}
use Rattle.std.proofs.lemmas.Cmp.{nat_eq_equiv}
use Rattle.stx_base.specs.Pools.{contains}
use Rattle.stx_locks.specs.Locks.{unless_held_by}
use Rattle.stx_rows.proofs.RowsLaws.{or_else, unwrap-both}
use Rattle.stx_store.specs.inner.Cells.{Cell, cell_applied, cell_stepped, cell_worked}
use Rattle.stx_store.specs.inner.Keeping.{held_by, OlderStack, nones, unrolled, Mirrors, Keeps}

-- ---- the work of a transaction and a note more

pub cell_more : (notes : List StoreNote) (n : StoreNote) (t k : ℕ) (base : Option ℤ) → works t n ≡ true → cell_worked k base (work (notes ++ n ∷ []) t) ≡ cell_stepped k (cell_worked k base (work notes t)) n
cell_more notes n t k base h = ap (cell_worked k base) (work_more notes n t h) ∙ fold-append (cell_stepped k) (record { value = base; copies = [] }) (work notes t) (n ∷ [])

-- a note that doesn't name a transaction is no work of it, and takes no row for it
pub works_other : (t : ℕ) (n : StoreNote) → names t n ≡ false → works t n ≡ false
works_other t (StoreNote.Access u a r) h = ap (λ b. b && not (is_busy r)) h
works_other t (StoreNote.Point u) h = h
works_other t (StoreNote.BackTo u) h = h
works_other t (StoreNote.Release u) h = h
works_other t n h = refl

pub takes_other : (t k : ℕ) (n : StoreNote) → names t n ≡ false → takes t k n ≡ false
takes_other t k (StoreNote.Access u a r) h = ap (λ b. b && (row_of a == k) && not (is_busy r)) h
takes_other t k n h = refl

pub any_takes-same : (notes : List StoreNote) (n : StoreNote) (t k : ℕ) → takes t k n ≡ false → list_any (takes t k) (notes ++ n ∷ []) ≡ list_any (takes t k) notes
any_takes-same notes n t k h = list_any-push (takes t k) notes n ∙ ap (λ b. list_any (takes t k) notes || b) h ∙ or-false (list_any (takes t k) notes)

pub any_takes-none : (notes : List StoreNote) (t k : ℕ) → list_any (names t) notes ≡ false → list_any (takes t k) notes ≡ false
any_takes-none [] t k h = refl
any_takes-none (n ∷ notes) t k h =
    let parts = or_none (names t n) (list_any (names t) notes) h in
    ap (λ b. b || list_any (takes t k) notes) (takes_other t k n parts.0) ∙ any_takes-none notes t k parts.1

-- a note that neither begins nor ends a transaction lets it live
pub live_same : (notes : List StoreNote) (n : StoreNote) (t : ℕ) → begun (n ∷ []) ≡ [] → ends t n ≡ false → is_live (notes ++ n ∷ []) t ≡ is_live notes t
live_same own n t none still = is_live-push_kept own n t (ap (λ us. contains us t) none) still

pub dead : (own : List StoreNote) (n : StoreNote) (t : ℕ) → ends t n ≡ true → is_live (own ++ n ∷ []) t ≡ false
dead own n t end =
    is_live-push own n t
    ∙ ap (λ b. (contains (begun own) t || contains (begun (n ∷ [])) t) && not (list_any (ends t) own || b)) end
    ∙ ap (λ b. (contains (begun own) t || contains (begun (n ∷ [])) t) && not b) (or-true (list_any (ends t) own))
    ∙ and-false (contains (begun own) t || contains (begun (n ∷ [])) t)

-- ---- as many savepoints are open as there are copies

pub length_released : {A B : Type 0} (ps : List A) (qs : List B) → length ps ≡ length qs → length (without_innermost ps) ≡ length (without_innermost qs)
length_released [] [] h = refl
length_released [] (c ∷ copies) h = absurd (omega arith)
length_released (p ∷ ps) [] h = absurd (omega arith)
length_released (p ∷ ps) (c ∷ copies) h = omega arith

pub length_returned : (ps : List Bool) → length (with_return ps) ≡ length ps
length_returned [] = refl
length_returned (p ∷ ps) = refl

-- ---- a row that the transaction hasn't taken

pub head_of : {A : Type 0} {x y : A} {xs ys : List A} → ◌≡◌ {A = List A} (x ∷ xs) (y ∷ ys) → x ≡ y
head_of e = cc

pub tail_of : {A : Type 0} {x y : A} {xs ys : List A} → ◌≡◌ {A = List A} (x ∷ xs) (y ∷ ys) → xs ≡ ys
tail_of e = cc

abbrev cell : Option ℤ → List (Option ℤ) → Cell
cell value copies = record { value = value; copies = copies }

pub mirrors-write : (v b now : Option ℤ) (h : Option (Option ℤ)) (s : OlderStack) (c : Cell) → Mirrors v b (h ∷ s) c → Mirrors now b (or_else h (Some v) ∷ s) (cell now c.copies)
mirrors-write v b now None s c m = record { now = refl; older = m.older }
mirrors-write v b now (Some x) s c m = record { now = refl; older = m.older }

pub mirrors-point : (v b : Option ℤ) (s : OlderStack) (c : Cell) → Mirrors v b s c → Mirrors v b (None ∷ s) (cell c.value (c.value ∷ c.copies))
mirrors-point v b s c m = record { now = m.now; older = λ i. m.now i ∷ m.older i }

pub mirrors-back : (v b : Option ℤ) (h g : Option (Option ℤ)) (s : OlderStack) (c : Cell) → Mirrors v b (h ∷ g ∷ s) c → Mirrors (unwrap_or h v) b (None ∷ g ∷ s) (cell (innermost c.value c.copies) c.copies)
mirrors-back v b h g s c m = by_copies c.copies m.older
  where
    by_copies : (copies : List (Option ℤ)) → unrolled v (h ∷ g ∷ s) ≡ copies ++ b ∷ [] → Mirrors (unwrap_or h v) b (None ∷ g ∷ s) (cell (innermost c.value copies) copies)
    by_copies [] older = absurd (omega (arith, ap length older))
    by_copies (copy ∷ copies) older = record { now = head_of older; older = older }

pub mirrors-release : (v b : Option ℤ) (h g : Option (Option ℤ)) (s : OlderStack) (c : Cell) → Mirrors v b (h ∷ g ∷ s) c → Mirrors v b (or_else g h ∷ s) (cell c.value (without_innermost c.copies))
mirrors-release v b h g s c m = by_copies c.copies m.older
  where
    by_copies : (copies : List (Option ℤ)) → unrolled v (h ∷ g ∷ s) ≡ copies ++ b ∷ [] → Mirrors v b (or_else g h ∷ s) (cell c.value (without_innermost copies))
    by_copies [] older = absurd (omega (arith, ap length older))
    by_copies (copy ∷ copies) older = record { now = m.now; older = ap (λ x. x ∷ unrolled x s) (unwrap-both g h v) ∙ tail_of older }

-- ---- a row that the transaction hasn't taken

abbrev worked_one : ℕ → ℕ → Cell → StoreNote → Cell
worked_one t k c n = cond (works t n) (cell_stepped k c n) c

applied_elsewhere : (k : ℕ) (value : Option ℤ) (a : Access) → (row_of a == k) ≡ false → cell_applied k value a ≡ value
applied_elsewhere k value (Access.Read row) h = refl
applied_elsewhere k value (Access.Write row v) h = ap (λ b. cond b (Some v) value) (nat_eq_equiv.symm k row.0 ∙ h)
applied_elsewhere k value (Access.Erase row) h = ap (λ b. cond b None value) (nat_eq_equiv.symm k row.0 ∙ h)

-- the same value at each level, where no level has the row
abbrev Fresh : Option ℤ → ℕ → Cell → Type 0
Fresh b n c = Mirrors b b (nones (suc n)) c

fresh_back : (b : Option ℤ) (n : ℕ) (c : Cell) → Fresh b n c → Fresh b n (cell (innermost c.value c.copies) c.copies)
fresh_back b n c m = by_copies c.copies m.older
  where
    by_copies : (copies : List (Option ℤ)) → unrolled b (nones (suc n)) ≡ copies ++ b ∷ [] → Fresh b n (cell (innermost c.value copies) copies)
    by_copies [] older = record { now = m.now; older = older }
    by_copies (copy ∷ copies) older = record { now = head_of older; older = older }

fresh_release : (b : Option ℤ) (ps : List Bool) (c : Cell) → Fresh b (length ps) c → Fresh b (length (without_innermost ps)) (cell c.value (without_innermost c.copies))
fresh_release b ps c m = by_copies ps c.copies m.older
  where
    by_copies : (ps : List Bool) (copies : List (Option ℤ)) → unrolled b (nones (suc (length ps))) ≡ copies ++ b ∷ [] → Fresh b (length (without_innermost ps)) (cell c.value (without_innermost copies))
    by_copies [] [] older = record { now = m.now; older = older }
    by_copies [] (copy ∷ []) older = absurd (omega (arith, ap length older))
    by_copies [] (copy ∷ more ∷ copies) older = absurd (omega (arith, ap length older))
    by_copies (p ∷ ps) [] older = absurd (omega (arith, ap length older))
    by_copies (p ∷ ps) (copy ∷ copies) older = record { now = m.now; older = tail_of older }

fresh_step : (t k : ℕ) (b : Option ℤ) (ps : List Bool) (c : Cell) (n : StoreNote) → takes t k n ≡ false → Fresh b (length ps) c → Fresh b (length (pointed t ps n)) (worked_one t k c n)
fresh_step t k b ps c (StoreNote.Access u a r) free m = by_test (u == t) (row_of a == k) refl (is_busy r) free
  where
    by_test : (own here : Bool) → (row_of a == k) ≡ here → (busy : Bool) → (own && here && not busy) ≡ false → Fresh b (length ps) (cond (own && not busy) (cell (cell_applied k c.value a) c.copies) c)
    by_test false here at busy h = m
    by_test true here at true h = m
    by_test true false at false h = record { now = m.now ∙ sym (applied_elsewhere k c.value a at); older = m.older }
    by_test true true at false h = absurd (false≢true (sym h))
fresh_step t k b ps c (StoreNote.Point u) free m = by_test (u == t)
  where
    by_test : (own : Bool) → Fresh b (length (cond own (false ∷ ps) ps)) (cond own (cell c.value (c.value ∷ c.copies)) c)
    by_test true = mirrors-point b b (nones (suc (length ps))) c m
    by_test false = m
fresh_step t k b ps c (StoreNote.BackTo u) free m = by_test (u == t)
  where
    by_test : (own : Bool) → Fresh b (length (cond own (with_return ps) ps)) (cond own (cell (innermost c.value c.copies) c.copies) c)
    by_test true = subst (λ n. Fresh b n (cell (innermost c.value c.copies) c.copies)) (sym (length_returned ps)) (fresh_back b (length ps) c m)
    by_test false = m
fresh_step t k b ps c (StoreNote.Release u) free m = by_test (u == t)
  where
    by_test : (own : Bool) → Fresh b (length (cond own (without_innermost ps) ps)) (cond own (cell c.value (without_innermost c.copies)) c)
    by_test true = fresh_release b ps c m
    by_test false = m
fresh_step t k b ps c (StoreNote.Begin u) free m = m
fresh_step t k b ps c (StoreNote.Commit u n) free m = m
fresh_step t k b ps c (StoreNote.Rollback u) free m = m
fresh_step t k b ps c (StoreNote.Auto a r) free m = m

fold_cond : (k : ℕ) (c : Cell) (b : Bool) (n : StoreNote) (ns : List StoreNote) → fold (cell_stepped k) c (cond b (n ∷ ns) ns) ≡ fold (cell_stepped k) (cond b (cell_stepped k c n) c) ns
fold_cond k c true n ns = refl
fold_cond k c false n ns = refl

fresh_from : (t k : ℕ) (b : Option ℤ) (ps : List Bool) (c : Cell) (ns : List StoreNote) → list_any (takes t k) ns ≡ false → Fresh b (length ps) c
    → Fresh b (length (fold (pointed t) ps ns)) (fold (cell_stepped k) c (work ns t))
fresh_from t k b ps c [] free m = m
fresh_from t k b ps c (n ∷ ns) free m =
    let parts = or_none (takes t k n) (list_any (takes t k) ns) free in
    subst (λ d. Fresh b (length (fold (pointed t) (pointed t ps n) ns)) d) (sym (fold_cond k c (works t n) n (work ns t)))
    (fresh_from t k b (pointed t ps n) (worked_one t k c n) ns parts.1 (fresh_step t k b ps c n parts.0 m))

-- a row that a transaction hasn't taken is to it as it was committed
pub untaken : (notes : List StoreNote) (t k : ℕ) (b : Option ℤ) → list_any (takes t k) notes ≡ false → Mirrors b b (nones (suc (length (savepoints notes t)))) (cell_worked k b (work notes t))
untaken notes t k b free = fresh_from t k b [] (cell b []) notes free (record { now = refl; older = refl })

-- ---- what stays right

and_right : (a b : Bool) → a ≡ true → (a && b) ≡ b
and_right true b h = refl
and_right false b h = absurd (false≢true h)

held_one : (o : Option ℕ) (t u : ℕ) → held_by o t ≡ true → held_by o u ≡ true → t ≡ u
held_one None t u h g = absurd (false≢true h)
held_one (Some holder) t u h g = sym (eqb-true holder t h) ∙ eqb-true holder u g

nobody : (o : Option ℕ) → ((t : ℕ) → held_by o t ≡ false) → o ≡ None
nobody None none = refl
nobody (Some holder) none = absurd (false≢true (sym (none holder) ∙ eq-eqb holder holder refl))

not_held : (b : Bool) → (b ≡ true → ⊥) → b ≡ false
not_held true h = absurd (h refl)
not_held false h = refl

module _ (notes : List StoreNote) (base : ℕ → Option ℤ) (locks : ℕ → Option ℕ) (values : ℕ → Option ℤ) (stacks : ℕ → ℕ → OlderStack) (keeps : Keeps notes base locks values stacks) where
  -- what isn't held wasn't taken
  pub free_untaken : (t k : ℕ) → is_live notes t ≡ true → held_by (locks k) t ≡ false → list_any (takes t k) notes ≡ false
  free_untaken t k live free = sym (and_right (is_live notes t) (list_any (takes t k) notes) live) ∙ keeps.locked k t ∙ free

  -- a row that no other transaction holds mirrors the work of this one
  pub granted-mirrors : (t k : ℕ) → is_live notes t ≡ true → ((u : ℕ) → held_by (locks k) u ≡ true → u ≡ t) → Mirrors (values k) (base k) (stacks t k) (cell_worked k (base k) (work notes t))
  granted-mirrors t k live only = by_test (held_by (locks k) t) refl
    where
      by_test : (b : Bool) → held_by (locks k) t ≡ b → Mirrors (values k) (base k) (stacks t k) (cell_worked k (base k) (work notes t))
      by_test true is = keeps.held t k live is
      by_test false is =
          let none : locks k ≡ None = nobody (locks k) (λ u. not_held (held_by (locks k) u) (λ h. false≢true (sym is ∙ subst (λ v. held_by (locks k) v ≡ true) (only u h) h))) in
          subst (λ v. Mirrors v (base k) (stacks t k) (cell_worked k (base k) (work notes t))) (sym (keeps.free k none))
          (subst (λ s. Mirrors (base k) (base k) s (cell_worked k (base k) (work notes t))) (sym (keeps.others t k live is)) (untaken notes t k (base k) (free_untaken t k live is)))

  -- a note that changes nothing of what is kept
  pub keeps-same : (now : List StoreNote) (base' : ℕ → Option ℤ) → ((t : ℕ) → is_live now t ≡ is_live notes t) → ((t k : ℕ) → list_any (takes t k) now ≡ list_any (takes t k) notes)
      → ((t : ℕ) → savepoints now t ≡ savepoints notes t) → ((t : ℕ) → work now t ≡ work notes t) → ((k : ℕ) → base' k ≡ base k) → Keeps now base' locks values stacks
  keeps-same now base' lives taken points works_as bases = record {
    locked = λ k t. (λ i. lives t i && taken t k i) ∙ keeps.locked k t;
    height = λ t k live. keeps.height t k (sym (lives t) ∙ live) ∙ ap (λ ps. suc (length ps)) (sym (points t));
    held = λ t k live h. subst (λ b. Mirrors (values k) b (stacks t k) (cell_worked k b (work now t))) (sym (bases k))
        (subst (λ w. Mirrors (values k) (base k) (stacks t k) (cell_worked k (base k) w)) (sym (works_as t)) (keeps.held t k (sym (lives t) ∙ live) h));
    others = λ t k live h. keeps.others t k (sym (lives t) ∙ live) h ∙ ap (λ ps. nones (suc (length ps))) (sym (points t));
    free = λ k none. keeps.free k none ∙ sym (bases k);
  }

  -- a note of a live transaction's work
  pub keeps-worked : (n : StoreNote) (t : ℕ) (base' : ℕ → Option ℤ) (locks' : ℕ → Option ℕ) (values' : ℕ → Option ℤ) (stacks' : ℕ → ℕ → OlderStack)
      → is_live notes t ≡ true → works t n ≡ true → begun (n ∷ []) ≡ [] → ((u : ℕ) → ends u n ≡ false) → ((u : ℕ) → u ≢ t → names u n ≡ false)
      → ((k : ℕ) → base' k ≡ base k)
      → ((k u : ℕ) → held_by (locks' k) u ≡ (held_by (locks k) u || takes u k n))
      → ((k u : ℕ) → u ≢ t → stacks' u k ≡ stacks u k)
      → ((k : ℕ) → length (stacks' t k) ≡ suc (length (pointed t (savepoints notes t) n)))
      → ((k : ℕ) → held_by (locks' k) t ≡ true → Mirrors (values' k) (base k) (stacks' t k) (cell_stepped k (cell_worked k (base k) (work notes t)) n))
      → ((k : ℕ) → held_by (locks' k) t ≡ false → (values' k ≡ values k) × (stacks' t k ≡ nones (suc (length (pointed t (savepoints notes t) n)))))
      → Keeps (notes ++ n ∷ []) base' locks' values' stacks'
  keeps-worked n t base' locks' values' stacks' live is_work begins_none ends_none only bases locked stays height mirrored unheld = record {
    locked = λ k u. by_locks k u (is_live notes u) (list_any (takes u k) notes) (takes u k n) refl (keeps.locked k u) ∙ sym (locked k u);
    height = λ u k live'. elim (cases_eq u t) [
      | inl same ↦ subst (λ v. length (stacks' v k) ≡ suc (length (savepoints (notes ++ n ∷ []) v))) (sym same) (height k ∙ ap (λ ps. suc (length ps)) (sym (savepoints-push notes n t)))
      | inr differs ↦ ap length (stays k u differs) ∙ keeps.height u k (sym (lives u) ∙ live') ∙ ap (λ ps. suc (length ps)) (sym (savepoints-push_other notes n u (only u differs)))
    ];
    held = λ u k live' h. subst (λ b. Mirrors (values' k) b (stacks' u k) (cell_worked k b (work (notes ++ n ∷ []) u))) (sym (bases k)) (held_case u k live' h);
    others = λ u k live' h. elim (cases_eq u t) [
      | inl same ↦ subst (λ v. stacks' v k ≡ nones (suc (length (savepoints (notes ++ n ∷ []) v)))) (sym same) ((unheld k (subst (λ v. held_by (locks' k) v ≡ false) same h)).1 ∙ ap (λ ps. nones (suc (length ps))) (sym (savepoints-push notes n t)))
      | inr differs ↦ stays k u differs ∙ keeps.others u k (sym (lives u) ∙ live') (before_free k u h) ∙ ap (λ ps. nones (suc (length ps))) (sym (savepoints-push_other notes n u (only u differs)))
    ];
    free = λ k none.
        let unheld_now = ap (λ o. held_by o t) none in
        (unheld k unheld_now).0 ∙ keeps.free k (nobody (locks k) (λ u. before_free k u (ap (λ o. held_by o u) none))) ∙ sym (bases k);
  }
    where
      lives : (u : ℕ) → is_live (notes ++ n ∷ []) u ≡ is_live notes u
      lives u = live_same notes n u begins_none (ends_none u)

      before_free : (k u : ℕ) → held_by (locks' k) u ≡ false → held_by (locks k) u ≡ false
      before_free k u h = (or_none (held_by (locks k) u) (takes u k n) (sym (locked k u) ∙ h)).0

      takes_live : (k u : ℕ) → takes u k n ≡ true → is_live notes u ≡ true
      takes_live k u h = elim (cases_eq u t) [
        | inl same ↦ subst (λ v. is_live notes v ≡ true) (sym same) live
        | inr differs ↦ absurd (false≢true (sym (takes_other u k n (only u differs)) ∙ h))
      ]

      by_locks : (k u : ℕ) (alive took takes_now : Bool) → takes u k n ≡ takes_now → (is_live notes u && list_any (takes u k) notes) ≡ held_by (locks k) u
          → (is_live (notes ++ n ∷ []) u && list_any (takes u k) (notes ++ n ∷ [])) ≡ (held_by (locks k) u || takes u k n)
      by_locks k u alive took false is was =
          (λ i. lives u i && any_takes-same notes n u k is i) ∙ was ∙ sym (ap (λ b. held_by (locks k) u || b) is ∙ or-false (held_by (locks k) u))
      by_locks k u alive took true is was =
          (λ i. lives u i && list_any-push (takes u k) notes n i)
          ∙ ap (λ b. b && (list_any (takes u k) notes || takes u k n)) (takes_live k u is)
          ∙ ap (λ b. list_any (takes u k) notes || b) is ∙ or-true (list_any (takes u k) notes)
          ∙ sym (ap (λ b. held_by (locks k) u || b) is ∙ or-true (held_by (locks k) u))

      held_case : (u k : ℕ) → is_live (notes ++ n ∷ []) u ≡ true → held_by (locks' k) u ≡ true → Mirrors (values' k) (base k) (stacks' u k) (cell_worked k (base k) (work (notes ++ n ∷ []) u))
      held_case u k live' h = elim (cases_eq u t) [
        | inl same ↦ subst (λ v. Mirrors (values' k) (base k) (stacks' v k) (cell_worked k (base k) (work (notes ++ n ∷ []) v))) (sym same)
            (subst (Mirrors (values' k) (base k) (stacks' t k)) (sym (cell_more notes n t k (base k) is_work)) (mirrored k (subst (λ v. held_by (locks' k) v ≡ true) same h)))
        | inr differs ↦
            let free_of_t : held_by (locks' k) t ≡ false = not_held (held_by (locks' k) t) (λ g. differs (held_one (locks' k) u t h g)) in
            let was_held : held_by (locks k) u ≡ true = sym (or-false (held_by (locks k) u)) ∙ ap (λ b. held_by (locks k) u || b) (sym (takes_other u k n (only u differs))) ∙ sym (locked k u) ∙ h in
            subst (λ v. Mirrors v (base k) (stacks' u k) (cell_worked k (base k) (work (notes ++ n ∷ []) u))) (sym (unheld k free_of_t).0)
            (subst (λ s. Mirrors (values k) (base k) s (cell_worked k (base k) (work (notes ++ n ∷ []) u))) (sym (stays k u differs))
            (subst (λ w. Mirrors (values k) (base k) (stacks u k) (cell_worked k (base k) w)) (sym (work_same notes n u (works_other u n (only u differs)))) (keeps.held u k (sym (lives u) ∙ live') was_held)))
      ]

  -- a transaction that begins
  pub keeps-begun : (t : ℕ) (base' : ℕ → Option ℤ) (locks' : ℕ → Option ℕ) (values' : ℕ → Option ℤ) (stacks' : ℕ → ℕ → OlderStack)
      → list_any (names t) notes ≡ false
      → ((k : ℕ) → base' k ≡ base k) → ((k : ℕ) → locks' k ≡ locks k) → ((k : ℕ) → values' k ≡ values k)
      → ((k u : ℕ) → u ≢ t → stacks' u k ≡ stacks u k) → ((k : ℕ) → stacks' t k ≡ None ∷ [])
      → Keeps (notes ++ StoreNote.Begin t ∷ []) base' locks' values' stacks'
  keeps-begun t base' locks' values' stacks' fresh bases locks_as values_as stays new = record {
    locked = λ k u. elim (cases_eq u t) [
      | inl same ↦ subst (λ v. (is_live (notes ++ n ∷ []) v && list_any (takes v k) (notes ++ n ∷ [])) ≡ held_by (locks' k) v) (sym same)
          (ap (λ b. is_live (notes ++ n ∷ []) t && b) (any_takes-same notes n t k refl ∙ any_takes-none notes t k fresh) ∙ and-false (is_live (notes ++ n ∷ []) t) ∙ sym (ap (λ o. held_by o t) (locks_as k) ∙ unheld k))
      | inr differs ↦ (λ i. is_live-push_other notes n u (other u differs) i && any_takes-same notes n u k refl i) ∙ keeps.locked k u ∙ ap (λ o. held_by o u) (sym (locks_as k))
    ];
    height = λ u k live. elim (cases_eq u t) [
      | inl same ↦ subst (λ v. length (stacks' v k) ≡ suc (length (savepoints (notes ++ n ∷ []) v))) (sym same) (ap length (new k) ∙ ap (λ ps. suc (length ps)) (sym (savepoints-push notes n t ∙ savepoints_none notes t fresh)))
      | inr differs ↦ ap length (stays k u differs) ∙ keeps.height u k (sym (is_live-push_other notes n u (other u differs)) ∙ live) ∙ ap (λ ps. suc (length ps)) (sym (savepoints-push_other notes n u (other u differs)))
    ];
    held = λ u k live h. elim (cases_eq u t) [
      | inl same ↦ absurd (false≢true (sym (ap (λ o. held_by o t) (locks_as k) ∙ unheld k) ∙ subst (λ v. held_by (locks' k) v ≡ true) same h))
      | inr differs ↦
          subst (λ b. Mirrors (values' k) b (stacks' u k) (cell_worked k b (work (notes ++ n ∷ []) u))) (sym (bases k))
          (subst (λ v. Mirrors v (base k) (stacks' u k) (cell_worked k (base k) (work (notes ++ n ∷ []) u))) (sym (values_as k))
          (subst (λ s. Mirrors (values k) (base k) s (cell_worked k (base k) (work (notes ++ n ∷ []) u))) (sym (stays k u differs))
          (subst (λ w. Mirrors (values k) (base k) (stacks u k) (cell_worked k (base k) w)) (sym (work_same notes n u refl))
          (keeps.held u k (sym (is_live-push_other notes n u (other u differs)) ∙ live) (ap (λ o. held_by o u) (sym (locks_as k)) ∙ h)))))
    ];
    others = λ u k live h. elim (cases_eq u t) [
      | inl same ↦ subst (λ v. stacks' v k ≡ nones (suc (length (savepoints (notes ++ n ∷ []) v)))) (sym same) (new k ∙ ap (λ ps. nones (suc (length ps))) (sym (savepoints-push notes n t ∙ savepoints_none notes t fresh)))
      | inr differs ↦ stays k u differs ∙ keeps.others u k (sym (is_live-push_other notes n u (other u differs)) ∙ live) (ap (λ o. held_by o u) (sym (locks_as k)) ∙ h)
          ∙ ap (λ ps. nones (suc (length ps))) (sym (savepoints-push_other notes n u (other u differs)))
    ];
    free = λ k none. values_as k ∙ keeps.free k (sym (locks_as k) ∙ none) ∙ sym (bases k);
  }
    where
      n : StoreNote
      n = StoreNote.Begin t

      other : (u : ℕ) → u ≢ t → names u n ≡ false
      other u differs = ne_eqb t u (λ e. differs (sym e))

      unheld : (k : ℕ) → held_by (locks k) t ≡ false
      unheld k = sym (keeps.locked k t) ∙ ap (λ b. b && list_any (takes t k) notes) (is_live_none notes t fresh)

  -- a transaction that ends
  pub keeps-ended : (n : StoreNote) (t : ℕ) (base' : ℕ → Option ℤ) (locks' : ℕ → Option ℕ) (values' : ℕ → Option ℤ) (stacks' : ℕ → ℕ → OlderStack)
      → is_live notes t ≡ true → ends t n ≡ true → begun (n ∷ []) ≡ [] → ((u : ℕ) → u ≢ t → names u n ≡ false) → ((u : ℕ) → works u n ≡ false) → ((u k : ℕ) → takes u k n ≡ false)
      → ((k : ℕ) → locks' k ≡ unless_held_by t (locks k))
      → ((k u : ℕ) → u ≢ t → stacks' u k ≡ stacks u k)
      → ((k : ℕ) → held_by (locks k) t ≡ true → values' k ≡ base' k)
      → ((k : ℕ) → held_by (locks k) t ≡ false → (values' k ≡ values k) × (base' k ≡ base k))
      → Keeps (notes ++ n ∷ []) base' locks' values' stacks'
  keeps-ended n t base' locks' values' stacks' live end begins_none only no_work no_take freed stays mine unmine = record {
    locked = λ k u. elim (cases_eq u t) [
      | inl same ↦ subst (λ v. (is_live (notes ++ n ∷ []) v && list_any (takes v k) (notes ++ n ∷ [])) ≡ held_by (locks' k) v) (sym same)
          (ap (λ b. b && list_any (takes t k) (notes ++ n ∷ [])) (dead notes n t end) ∙ sym (ap (λ o. held_by o t) (freed k) ∙ not_own (locks k)))
      | inr differs ↦ (λ i. is_live-push_other notes n u (only u differs) i && any_takes-same notes n u k (no_take u k) i) ∙ keeps.locked k u ∙ sym (ap (λ o. held_by o u) (freed k) ∙ still u differs (locks k))
    ];
    height = λ u k live'. other_case u k live' (λ differs.
        ap length (stays k u differs) ∙ keeps.height u k (lived u differs live') ∙ ap (λ ps. suc (length ps)) (sym (savepoints-push_other notes n u (only u differs))));
    held = λ u k live' h. other_case u k live' (λ differs.
        let was : held_by (locks k) u ≡ true = sym (still u differs (locks k)) ∙ ap (λ o. held_by o u) (sym (freed k)) ∙ h in
        let apart = unmine k (not_held (held_by (locks k) t) (λ g. differs (held_one (locks k) u t was g))) in
        subst (λ b. Mirrors (values' k) b (stacks' u k) (cell_worked k b (work (notes ++ n ∷ []) u))) (sym apart.1)
        (subst (λ v. Mirrors v (base k) (stacks' u k) (cell_worked k (base k) (work (notes ++ n ∷ []) u))) (sym apart.0)
        (subst (λ s. Mirrors (values k) (base k) s (cell_worked k (base k) (work (notes ++ n ∷ []) u))) (sym (stays k u differs))
        (subst (λ w. Mirrors (values k) (base k) (stacks u k) (cell_worked k (base k) w)) (sym (work_same notes n u (no_work u))) (keeps.held u k (lived u differs live') was)))));
    others = λ u k live' h. other_case u k live' (λ differs.
        stays k u differs ∙ keeps.others u k (lived u differs live') (sym (still u differs (locks k)) ∙ ap (λ o. held_by o u) (sym (freed k)) ∙ h)
        ∙ ap (λ ps. nones (suc (length ps))) (sym (savepoints-push_other notes n u (only u differs))));
    free = λ k none. by_holder k (held_by (locks k) t) refl none;
  }
    where
      lived : (u : ℕ) → u ≢ t → is_live (notes ++ n ∷ []) u ≡ true → is_live notes u ≡ true
      lived u differs h = sym (is_live-push_other notes n u (only u differs)) ∙ h

      other_case : {P : Type 0} (u k : ℕ) → is_live (notes ++ n ∷ []) u ≡ true → (u ≢ t → P) → P
      other_case u k h p = elim (cases_eq u t) [
        | inl same ↦ absurd (false≢true (sym (dead notes n t end) ∙ subst (λ v. is_live (notes ++ n ∷ []) v ≡ true) same h))
        | inr differs ↦ p differs
      ]

      not_own : (o : Option ℕ) → held_by (unless_held_by t o) t ≡ false
      not_own None = refl
      not_own (Some holder) = by_test (holder == t) refl
        where
          by_test : (b : Bool) → (holder == t) ≡ b → held_by (cond b None (Some holder)) t ≡ false
          by_test true is = refl
          by_test false is = is

      still : (u : ℕ) → u ≢ t → (o : Option ℕ) → held_by (unless_held_by t o) u ≡ held_by o u
      still u differs None = refl
      still u differs (Some holder) = by_test (holder == t) refl
        where
          by_test : (b : Bool) → (holder == t) ≡ b → held_by (cond b None (Some holder)) u ≡ (holder == u)
          by_test true is = sym (ne_eqb holder u (λ e. differs (sym e ∙ eqb-true holder t is)))
          by_test false is = refl

      none_before : (o : Option ℕ) → held_by o t ≡ false → unless_held_by t o ≡ None → o ≡ None
      none_before None h is = refl
      none_before (Some holder) h is = sym (ap (λ b. cond b None (Some holder)) h) ∙ is

      by_holder : (k : ℕ) (b : Bool) → held_by (locks k) t ≡ b → locks' k ≡ None → values' k ≡ base' k
      by_holder k true is none = mine k is
      by_holder k false is none = (unmine k is).0 ∙ keeps.free k (none_before (locks k) is (sym (freed k) ∙ none)) ∙ sym (unmine k is).1

  -- a statement outside a transaction, at a row that nobody holds
  pub keeps-auto : (now : List StoreNote) (base' : ℕ → Option ℤ) (values' : ℕ → Option ℤ) (row : ℕ) → locks row ≡ None
      → ((t : ℕ) → is_live now t ≡ is_live notes t) → ((t k : ℕ) → list_any (takes t k) now ≡ list_any (takes t k) notes)
      → ((t : ℕ) → savepoints now t ≡ savepoints notes t) → ((t : ℕ) → work now t ≡ work notes t)
      → values' row ≡ base' row → ((k : ℕ) → k ≢ row → (values' k ≡ values k) × (base' k ≡ base k)) → Keeps now base' locks values' stacks
  keeps-auto now base' values' row unlocked lives taken points works_as here apart = record {
    locked = λ k t. (λ i. lives t i && taken t k i) ∙ keeps.locked k t;
    height = λ t k live. keeps.height t k (sym (lives t) ∙ live) ∙ ap (λ ps. suc (length ps)) (sym (points t));
    held = λ t k live h. elim (cases_eq k row) [
      | inl same ↦ absurd (false≢true (sym (ap (λ o. held_by o t) unlocked) ∙ subst (λ j. held_by (locks j) t ≡ true) same h))
      | inr differs ↦
          subst (λ b. Mirrors (values' k) b (stacks t k) (cell_worked k b (work now t))) (sym (apart k differs).1)
          (subst (λ v. Mirrors v (base k) (stacks t k) (cell_worked k (base k) (work now t))) (sym (apart k differs).0)
          (subst (λ w. Mirrors (values k) (base k) (stacks t k) (cell_worked k (base k) w)) (sym (works_as t)) (keeps.held t k (sym (lives t) ∙ live) h)))
    ];
    others = λ t k live h. keeps.others t k (sym (lives t) ∙ live) h ∙ ap (λ ps. nones (suc (length ps))) (sym (points t));
    free = λ k none. elim (cases_eq k row) [
      | inl same ↦ subst (λ j. values' j ≡ base' j) (sym same) here
      | inr differs ↦ (apart k differs).0 ∙ keeps.free k none ∙ sym (apart k differs).1
    ];
  }
