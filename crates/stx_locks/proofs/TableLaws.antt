-- A table that is kept as the list of its entries.
use Rattle.std.proofs.Common.{◌≡◌, ℕ, Bool, true, false, ◌&&◌, ◌||◌, cond, List, [], ◌∷◌, ◌++◌, Option, Some, None, map, refl, sym, ap, ◌∙◌, subst, eqb-true}
use Rattle.std.specs.Bool.{nat_eq}
use Rattle.std.specs.List.{list_any}
use Rattle.std.specs.Option.{option_map}
use Rattle.std.specs.Ordering.{nat_cmp}
use Rattle.std.specs.Cmp.{unsigned_tied}
use Rattle.std.specs.Map.{lookup}
use Rattle.std.specs.Global.{Vec}
use Rattle.std.specs.FinMap.{get, find, get-from_entries}
use Rattle.std.proofs.lemmas.Bool.{false≢true}
use Rattle.std.proofs.lemmas.Cmp.{nat_cmp_total, nat_eq_equiv}
use Rattle.std.proofs.lemmas.List.Folds.{list_any-append}
use Rattle.stx_locks.specs.declared.lock.Lock.{Lock}
use Rattle.stx_locks.specs.Locks.{LockMap, after_asked, unless_held_by}
use Rattle.stx_locks.specs.inner.Taken.{holders_in, is_held_by, rows_of, ListsHeld}

abbrev pub holder_in : Option Lock → Option ℕ
holder_in o = option_map (λ lock. lock.holder) o

-- who holds a row is what the look-up finds
pub holder-at : (locks : List (ℕ × Lock)) (k : ℕ) → get (holders_in locks) k ≡ holder_in (lookup (nat_eq k) locks)
holder-at locks k = get-from_entries nat_cmp_total (map (λ e. (e.0, e.1.holder)) locks) k ∙ looked locks
  where
    taken : (b : Bool) (lock : Lock) (rest : Option ℕ) (more : Option Lock) → rest ≡ holder_in more → cond b (Some lock.holder) rest ≡ holder_in (cond b (Some lock) more)
    taken true lock rest more h = refl
    taken false lock rest more h = h

    looked : (locks : List (ℕ × Lock)) → find nat_cmp k (map (λ e. (e.0, e.1.holder)) locks) ≡ holder_in (lookup (nat_eq k) locks)
    looked [] = refl
    looked (e ∷ es) =
        ap (λ b. cond b (Some e.1.holder) (find nat_cmp k (map (λ x. (x.0, x.1.holder)) es))) (unsigned_tied k e.0)
        ∙ taken (nat_eq k e.0) e.1 _ _ (looked es)

-- the same look-ups, the same holders
pub same_holders : (locks more : List (ℕ × Lock)) → more ≡ locks → holders_in more ≡ holders_in locks
same_holders locks more same = ap holders_in same

holder_cond : (b : Bool) (o : Option Lock) → holder_in (cond b None o) ≡ cond b None (holder_in o)
holder_cond true o = refl
holder_cond false o = refl

-- ---- a row that is locked

-- after a lock is put in
pub locked-at : (old new : List (ℕ × Lock)) (row t k : ℕ) → lookup (nat_eq row) old ≡ None → lookup (nat_eq k) new ≡ cond (nat_eq row k) (Some (record { holder = t })) (lookup (nat_eq k) old)
    → get (holders_in new) k ≡ cond (nat_eq k row) (Some t) (get (holders_in old) k)
locked-at old new row t k free put =
    holder-at new k ∙ ap holder_in put ∙ put_in (nat_eq row k) (nat_eq k row) (nat_eq_equiv.symm row k)
  where
    put_in : (b c : Bool) → b ≡ c → holder_in (cond b (Some (record { holder = t })) (lookup (nat_eq k) old)) ≡ cond c (Some t) (get (holders_in old) k)
    put_in true c same = ap (λ d. cond d (Some t) (get (holders_in old) k)) same
    put_in false c same = sym (holder-at old k) ∙ ap (λ d. cond d (Some t) (get (holders_in old) k)) same

or_true : (b : Bool) → (b || true) ≡ true
or_true true = refl
or_true false = refl

-- one row more is listed and locked
pub lists_one : (locks now : List (ℕ × Lock)) (taken then : List (ℕ × Vec ℕ)) (row t : ℕ) → ListsHeld locks taken
    → ((k : ℕ) → lookup (nat_eq k) now ≡ cond (nat_eq row k) (Some (record { holder = t })) (lookup (nat_eq k) locks))
    → ((u : ℕ) → rows_of (lookup (nat_eq u) then) ≡ cond (nat_eq u t) (rows_of (lookup (nat_eq u) taken) ++ row ∷ []) (rows_of (lookup (nat_eq u) taken)))
    → ListsHeld now then
lists_one locks now taken then row t lists put listed k u held =
    ap (list_any (nat_eq k)) (listed u)
    ∙ one (nat_eq u t) (nat_eq row k) refl refl (subst (λ o. is_held_by o u ≡ true) (put k) held)
  where
    more : (b : Bool) → list_any (nat_eq k) (rows_of (lookup (nat_eq u) taken)) ≡ true → list_any (nat_eq k) (cond b (rows_of (lookup (nat_eq u) taken) ++ row ∷ []) (rows_of (lookup (nat_eq u) taken))) ≡ true
    more true h = list_any-append (nat_eq k) (rows_of (lookup (nat_eq u) taken)) (row ∷ []) ∙ ap (λ b. b || list_any (nat_eq k) (row ∷ [])) h
    more false h = h

    one : (mine here : Bool) → nat_eq u t ≡ mine → nat_eq row k ≡ here → is_held_by (cond here (Some (record { holder = t })) (lookup (nat_eq k) locks)) u ≡ true
        → list_any (nat_eq k) (cond mine (rows_of (lookup (nat_eq u) taken) ++ row ∷ []) (rows_of (lookup (nat_eq u) taken))) ≡ true
    one mine false is at h = more mine (lists k u h)
    one false true is at h = absurd (false≢true (sym is ∙ nat_eq_equiv.symm u t ∙ h))
    one true true is at h =
        list_any-append (nat_eq k) (rows_of (lookup (nat_eq u) taken)) (row ∷ [])
        ∙ ap (λ b. list_any (nat_eq k) (rows_of (lookup (nat_eq u) taken)) || (b || false)) (nat_eq_equiv.symm k row ∙ at)
        ∙ or_true (list_any (nat_eq k) (rows_of (lookup (nat_eq u) taken)))

-- where the same locks are held, and no fewer rows listed
pub lists_still : (locks now : List (ℕ × Lock)) (taken then : List (ℕ × Vec ℕ)) → ListsHeld locks taken
    → ((k t : ℕ) → is_held_by (lookup (nat_eq k) now) t ≡ true → is_held_by (lookup (nat_eq k) locks) t ≡ true)
    → ((u : ℕ) → rows_of (lookup (nat_eq u) then) ≡ rows_of (lookup (nat_eq u) taken))
    → ListsHeld now then
lists_still locks now taken then lists fewer same k t held = ap (list_any (nat_eq k)) (same t) ∙ lists k t (fewer k t held)

-- ---- rows that are freed

held_cond : (b : Bool) (o : Option Lock) (t : ℕ) → is_held_by (cond b None o) t ≡ true → is_held_by o t ≡ true
held_cond true o t h = absurd (false≢true h)
held_cond false o t h = h

pub freed-fewer : (b : Bool) (now o : Option Lock) (t : ℕ) → now ≡ cond b None o → is_held_by now t ≡ true → is_held_by o t ≡ true
freed-fewer b now o t is h = held_cond b o t (subst (λ x. is_held_by x t ≡ true) is h)

pub freed-at : (old new : List (ℕ × Lock)) (b : Bool) (k : ℕ) → lookup (nat_eq k) new ≡ cond b None (lookup (nat_eq k) old) → get (holders_in new) k ≡ cond b None (get (holders_in old) k)
freed-at old new b k is = holder-at new k ∙ ap holder_in is ∙ holder_cond b (lookup (nat_eq k) old) ∙ ap (cond b None) (sym (holder-at old k))

ended : (any : Bool) (o : Option Lock) (t : ℕ) → (is_held_by o t ≡ true → any ≡ true) → cond (any && is_held_by o t) None (holder_in o) ≡ unless_held_by t (holder_in o)
ended true None t listed = refl
ended false None t listed = refl
ended true (Some lock) t listed = refl
ended false (Some lock) t listed = by_test (nat_eq lock.holder t) refl
  where
    by_test : (b : Bool) → nat_eq lock.holder t ≡ b → Some lock.holder ≡ cond b None (Some lock.holder)
    by_test true is = absurd (false≢true (listed is))
    by_test false is = refl

-- all that a transaction holds
pub ended-at : (old new : List (ℕ × Lock)) (rows : List ℕ) (t k : ℕ) → (is_held_by (lookup (nat_eq k) old) t ≡ true → list_any (nat_eq k) rows ≡ true)
    → lookup (nat_eq k) new ≡ cond (list_any (nat_eq k) rows && is_held_by (lookup (nat_eq k) old) t) None (lookup (nat_eq k) old)
    → get (holders_in new) k ≡ unless_held_by t (get (holders_in old) k)
ended-at old new rows t k listed is =
    freed-at old new (list_any (nat_eq k) rows && is_held_by (lookup (nat_eq k) old) t) k is
    ∙ ap (cond (list_any (nat_eq k) rows && is_held_by (lookup (nat_eq k) old) t) None) (holder-at old k)
    ∙ ended (list_any (nat_eq k) rows) (lookup (nat_eq k) old) t listed
    ∙ ap (unless_held_by t) (sym (holder-at old k))

-- nothing is held then by the transaction whose list is gone
gone : (any : Bool) (o : Option Lock) (t u : ℕ) (rows : List ℕ) (k : ℕ) → (is_held_by o t ≡ true → any ≡ true) → nat_eq t u ≡ true → is_held_by (cond (any && is_held_by o t) None o) u ≡ true → ⊥
gone any None t u rows k listed same h = false≢true (sym (ap (λ x. is_held_by x u) (none (any && false))) ∙ h)
  where
    none : (b : Bool) → ◌≡◌ {A = Option Lock} (cond b None None) None
    none true = refl
    none false = refl
gone any (Some lock) t u rows k listed same h = by_test any (nat_eq lock.holder t) refl refl h
  where
    by_test : (a b : Bool) → any ≡ a → nat_eq lock.holder t ≡ b → is_held_by (cond (a && b) None (Some lock)) u ≡ true → ⊥
    by_test true true is at h = false≢true h
    by_test false true is at h = false≢true (sym is ∙ listed at)
    by_test true false is at h = false≢true (sym at ∙ subst (λ v. nat_eq lock.holder v ≡ true) (sym (eqb-true t u same)) h)
    by_test false false is at h = false≢true (sym at ∙ subst (λ v. nat_eq lock.holder v ≡ true) (sym (eqb-true t u same)) h)

pub lists_others : (locks now : List (ℕ × Lock)) (taken then : List (ℕ × Vec ℕ)) (rows : Vec ℕ) (t : ℕ) → ListsHeld locks taken → Some rows ≡ lookup (nat_eq t) taken
    → ((k : ℕ) → lookup (nat_eq k) now ≡ cond (list_any (nat_eq k) rows.items && is_held_by (lookup (nat_eq k) locks) t) None (lookup (nat_eq k) locks))
    → ((u : ℕ) → lookup (nat_eq u) then ≡ cond (nat_eq t u) None (lookup (nat_eq u) taken))
    → ListsHeld now then
lists_others locks now taken then rows t lists own freed others k u held =
    by_test (nat_eq t u) refl
  where
    listed : is_held_by (lookup (nat_eq k) locks) t ≡ true → list_any (nat_eq k) rows.items ≡ true
    listed h = ap (λ o. list_any (nat_eq k) (rows_of o)) own ∙ lists k t h

    still : is_held_by (cond (list_any (nat_eq k) rows.items && is_held_by (lookup (nat_eq k) locks) t) None (lookup (nat_eq k) locks)) u ≡ true
    still = subst (λ o. is_held_by o u ≡ true) (freed k) held

    by_test : (b : Bool) → nat_eq t u ≡ b → list_any (nat_eq k) (rows_of (lookup (nat_eq u) then)) ≡ true
    by_test true same = absurd (gone (list_any (nat_eq k) rows.items) (lookup (nat_eq k) locks) t u rows.items k listed same still)
    by_test false differs =
        ap (λ o. list_any (nat_eq k) (rows_of o)) (others u ∙ ap (λ b. cond b None (lookup (nat_eq u) taken)) differs)
        ∙ lists k u (held_cond _ (lookup (nat_eq k) locks) u still)

none_held : (o : Option Lock) (t : ℕ) → (is_held_by o t ≡ true → ⊥) → holder_in o ≡ unless_held_by t (holder_in o)
none_held None t never = refl
none_held (Some lock) t never = by_test (nat_eq lock.holder t) refl
  where
    by_test : (b : Bool) → nat_eq lock.holder t ≡ b → Some lock.holder ≡ cond b None (Some lock.holder)
    by_test true is = absurd (never is)
    by_test false is = refl

-- a transaction of which nothing is listed holds nothing
pub nothing_held-at : (locks : List (ℕ × Lock)) (t k : ℕ) → (is_held_by (lookup (nat_eq k) locks) t ≡ true → false ≡ true) → get (holders_in locks) k ≡ unless_held_by t (get (holders_in locks) k)
nothing_held-at locks t k never =
    holder-at locks k ∙ none_held (lookup (nat_eq k) locks) t (λ held. false≢true (never held)) ∙ ap (unless_held_by t) (sym (holder-at locks k))

-- ---- asking

pub held_stays : (m : LockMap) (row k t holder : ℕ) → get m row ≡ Some holder → get m k ≡ cond (nat_eq k row) (after_asked (get m k) t) (get m k)
held_stays m row k t holder is = by_test (nat_eq k row) refl
  where
    by_test : (b : Bool) → nat_eq k row ≡ b → get m k ≡ cond b (after_asked (get m k) t) (get m k)
    by_test false at = refl
    by_test true at =
        let here : get m k ≡ Some holder = ap (get m) (eqb-true k row at) ∙ is in
        here ∙ ap (λ o. after_asked o t) (sym here)

pub taken_free : (m : LockMap) (row k t : ℕ) → get m row ≡ None → cond (nat_eq k row) (Some t) (get m k) ≡ cond (nat_eq k row) (after_asked (get m k) t) (get m k)
taken_free m row k t is = by_test (nat_eq k row) refl
  where
    by_test : (b : Bool) → nat_eq k row ≡ b → cond b (Some t) (get m k) ≡ cond b (after_asked (get m k) t) (get m k)
    by_test false at = refl
    by_test true at = ap (λ o. after_asked o t) (sym (ap (get m) (eqb-true k row at) ∙ is))
