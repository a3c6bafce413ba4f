-- The rows as contracts see them.
use Rattle.std.proofs.Common.{◌≡◌, ℕ, ℤ, Bool, true, false, ◌||◌, ◌==◌, cond, List, [], ◌∷◌, ◌++◌, Option, Some, None, map, fold, length, ◌+◌, ◌<◌, refl, sym, ap, ◌∙◌, subst, append-nil, append_assoc, length-append, arith, eqb-true, eq-eqb, ne_eqb, suc, take, slice_get, inl, inr, Result, Ok, Err}
use Rattle.std.specs.Bool.{nat_eq}
use Rattle.std.specs.Option.{option_map, unwrap_or, is_some}
use Rattle.std.specs.Map.{lookup}
use Rattle.std.specs.Ordering.{nat_cmp, eq_by_cmp}
use Rattle.std.specs.Cmp.{unsigned_tied}
use Rattle.std.specs.FinMap.{find, get, insert, empty, entries, entries_sorted, contains_key, from_entries, get-empty, get-entries, get-insert, get-from_entries, same_map, nat_cmp-IsAntisymmetric}
use Rattle.std.specs.Result.{OnErr}
use Rattle.std.proofs.lemmas.Bool.{false≢true, cases_eq}
use Rattle.std.proofs.lemmas.Cmp.{nat_cmp_total, nat_eq_equiv}
use Rattle.stx_base.specs.Alone.{RowMap}
use Rattle.stx_journal.proofs.RowChanges.{set_row-at, set_all-at, take_same, take_here}
use Rattle.stx_rows.specs.Rows.{OlderMap, kept, kept_last, moved_into, dropped, emptied, put_back, put_back_last, put_back_all, some_stack}
use Rattle.stx_rows.specs.inner.Undoing.{Older, noted, joined, flat, value_of, slot_map, stack_map, levels_in, innermost_level, emptied_level, PopsLast, HasPlaces, HavePlaces}

-- ---- look-ups

pub values-at : (slots : List (ℕ × Option ℤ)) (k : ℕ) → get (slot_map slots) k ≡ value_of (lookup (nat_eq k) slots)
values-at [] k = get-empty nat_cmp k
values-at (slot ∷ slots) k = set_row-at (slot_map slots) slot.0 slot.1 k ∙ by_test (k == slot.0) (values-at slots k)
  where
    by_test : (b : Bool) → get (slot_map slots) k ≡ value_of (lookup (nat_eq k) slots) → cond b slot.1 (get (slot_map slots) k) ≡ value_of (cond b (Some slot.1) (lookup (nat_eq k) slots))
    by_test true rest = refl
    by_test false rest = rest

abbrev pub stack_in : Option (List (List Older)) → Option (List OlderMap)
stack_in o = option_map (map from_entries) o

pub older-at : (undo : List (ℕ × List (List Older))) (t : ℕ) → get (stack_map undo) t ≡ stack_in (lookup (nat_eq t) undo)
older-at undo t = get-from_entries nat_cmp_total (map (λ e. (e.0, map from_entries e.1)) undo) t ∙ looked undo
  where
    taken : (b : Bool) (levels : List (List Older)) (rest : Option (List OlderMap)) (more : Option (List (List Older))) → rest ≡ stack_in more → cond b (Some (map from_entries levels)) rest ≡ stack_in (cond b (Some levels) more)
    taken true levels rest more h = refl
    taken false levels rest more h = h

    looked : (undo : List (ℕ × List (List Older))) → find nat_cmp t (map (λ e. (e.0, map from_entries e.1)) undo) ≡ stack_in (lookup (nat_eq t) undo)
    looked [] = refl
    looked (e ∷ es) =
        ap (λ b. cond b (Some (map from_entries e.1)) (find nat_cmp t (map (λ x. (x.0, map from_entries x.1)) es))) (unsigned_tied t e.0)
        ∙ taken (nat_eq t e.0) e.1 _ _ (looked es)

pub some_stack-in : (o : Option (List (List Older))) → some_stack (stack_in o) ≡ map from_entries (levels_in o)
some_stack-in None = refl
some_stack-in (Some levels) = refl

-- ---- what was first, wins

abbrev pub or_else : {A : Type 0} → Option A → Option A → Option A
or_else (Some a) other = Some a
or_else None other = other

pub find-both : {X : Type 0} (k : ℕ) (xs ys : List (ℕ × X)) → find nat_cmp k (xs ++ ys) ≡ or_else (find nat_cmp k xs) (find nat_cmp k ys)
find-both k [] ys = refl
find-both k (x ∷ xs) ys = by_test (eq_by_cmp nat_cmp k x.0) (find-both k xs ys)
  where
    by_test : (b : Bool) → find nat_cmp k (xs ++ ys) ≡ or_else (find nat_cmp k xs) (find nat_cmp k ys) → cond b (Some x.1) (find nat_cmp k (xs ++ ys)) ≡ or_else (cond b (Some x.1) (find nat_cmp k xs)) (find nat_cmp k ys)
    by_test true rest = refl
    by_test false rest = rest

pub unwrap-both : (a b : Option (Option ℤ)) (value : Option ℤ) → unwrap_or (or_else a b) value ≡ unwrap_or a (unwrap_or b value)
unwrap-both (Some a) b value = refl
unwrap-both None b value = refl

-- a row that is kept where the map doesn't have it
pub kept-at : (m : OlderMap) (k : ℕ) (value : Option ℤ) (q : ℕ) → get (kept m k value) q ≡ or_else (get m q) (cond (q == k) (Some value) None)
kept-at m k value q = by_test (contains_key m k) refl
  where
    both_test : (b : Bool) (o : Option (Option ℤ)) → (b ≡ true → is_some o ≡ true) → o ≡ or_else o (cond b (Some value) None)
    both_test true None has = absurd (false≢true (has refl))
    both_test false None has = refl
    both_test b (Some v) has = refl

    put_test : (b : Bool) (o : Option (Option ℤ)) → (b ≡ true → o ≡ None) → cond b (Some value) o ≡ or_else o (cond b (Some value) None)
    put_test true None none = refl
    put_test false None none = refl
    put_test true (Some v) none = cc (none refl)
    put_test false (Some v) none = refl

    not_there : (o : Option (Option ℤ)) → is_some o ≡ false → o ≡ None
    not_there None h = refl
    not_there (Some v) h = absurd (false≢true (sym h))

    by_test : (b : Bool) → contains_key m k ≡ b → get (cond b m (insert m k value)) q ≡ or_else (get m q) (cond (q == k) (Some value) None)
    by_test true is = both_test (q == k) (get m q) (λ same. ap (λ j. is_some (get m j)) (eqb-true q k same) ∙ is)
    by_test false is =
        get-insert nat_cmp_total m k value q ∙ ap (λ b. cond b (Some value) (get m q)) (unsigned_tied q k)
        ∙ put_test (q == k) (get m q) (λ same. ap (get m) (eqb-true q k same) ∙ not_there (get m k) is)

find-one : (q k : ℕ) (value : Option ℤ) → find nat_cmp q ((k, value) ∷ []) ≡ cond (q == k) (Some value) None
find-one q k value = ap (λ b. cond b (Some value) None) (unsigned_tied q k)

level-noted : (level : List Older) (k : ℕ) (value : Option ℤ) → from_entries {R = nat_cmp} (level ++ (k, value) ∷ []) ≡ kept (from_entries level) k value
level-noted level k value =
    same_map nat_cmp_total nat_cmp-IsAntisymmetric (from_entries {R = nat_cmp} (level ++ (k, value) ∷ [])) (kept (from_entries level) k value)
    (λ q.
    get-from_entries nat_cmp_total (level ++ (k, value) ∷ []) q
    ∙ find-both q level ((k, value) ∷ [])
    ∙ (λ i. or_else (sym (get-from_entries nat_cmp_total level q) i) (find-one q k value i))
    ∙ sym (kept-at (from_entries level) k value q))

pub levels-kept : (levels : List (List Older)) (k : ℕ) (value : Option ℤ) → map from_entries (noted levels (k, value)) ≡ kept_last k value (map from_entries levels)
levels-kept [] k value = refl
levels-kept (level ∷ below) k value = ap (λ m. m ∷ map from_entries below) (level-noted level k value)

-- ---- a map that moves into the one below

or_else-assoc : {A : Type 0} (a b c : Option A) → or_else (or_else a b) c ≡ or_else a (or_else b c)
or_else-assoc (Some a) b c = refl
or_else-assoc None b c = refl

or_else-cond : (b : Bool) (value : Option ℤ) (o : Option (Option ℤ)) → or_else (cond b (Some value) None) o ≡ cond b (Some value) o
or_else-cond true value o = refl
or_else-cond false value o = refl

moved : (below : OlderMap) (es : List Older) (q : ℕ) → get (fold (λ n e. kept n e.0 e.1) below es) q ≡ or_else (get below q) (find nat_cmp q es)
moved below [] q = none (get below q)
  where
    none : (o : Option (Option ℤ)) → o ≡ or_else o None
    none None = refl
    none (Some v) = refl
moved below (e ∷ es) q =
    moved (kept below e.0 e.1) es q
    ∙ ap (λ o. or_else o (find nat_cmp q es)) (kept-at below e.0 e.1 q)
    ∙ or_else-assoc (get below q) (cond (q == e.0) (Some e.1) None) (find nat_cmp q es)
    ∙ ap (or_else (get below q)) (or_else-cond (q == e.0) e.1 (find nat_cmp q es) ∙ ap (λ b. cond b (Some e.1) (find nat_cmp q es)) (sym (unsigned_tied q e.0)))

-- a map that has moved into the one below
pub moved-at : (below m : OlderMap) (q : ℕ) → get (moved_into below m) q ≡ or_else (get below q) (get m q)
moved-at below m q = moved below (entries m) q ∙ ap (or_else (get below q)) (sym (get-entries m q))

level-joined : (next level : List Older) → from_entries {R = nat_cmp} (next ++ level) ≡ moved_into (from_entries next) (from_entries level)
level-joined next level =
    same_map nat_cmp_total nat_cmp-IsAntisymmetric (from_entries {R = nat_cmp} (next ++ level)) (moved_into (from_entries next) (from_entries level))
    (λ q.
    get-from_entries nat_cmp_total (next ++ level) q
    ∙ find-both q next level
    ∙ (λ i. or_else (sym (get-from_entries nat_cmp_total next q) i) ((sym (get-from_entries nat_cmp_total level q) ∙ get-entries (from_entries {R = nat_cmp} level) q) i))
    ∙ sym (moved (from_entries next) (entries (from_entries level)) q))

pub levels-dropped : (levels : List (List Older)) → map from_entries (joined levels) ≡ dropped (map from_entries levels)
levels-dropped [] = refl
levels-dropped (level ∷ []) = refl
levels-dropped (level ∷ next ∷ below) = ap (λ m. m ∷ map from_entries below) (level-joined next level)

pub levels-emptied : (levels : List (List Older)) → map from_entries (emptied_level levels) ≡ emptied (map from_entries levels)
levels-emptied [] = refl
levels-emptied (level ∷ below) = refl

-- ---- older values that are put back

pub put_back-map : (rows : RowMap) (m : OlderMap) (q : ℕ) → get (put_back rows m) q ≡ unwrap_or (get m q) (get rows q)
put_back-map rows m q = set_all-at rows (entries m) q (entries_sorted m) ∙ ap (λ o. unwrap_or o (get rows q)) (sym (get-entries m q))

put_back-at : (rows : RowMap) (level : List Older) (q : ℕ) → get (put_back rows (from_entries level)) q ≡ unwrap_or (find nat_cmp q level) (get rows q)
put_back-at rows level q =
    set_all-at rows (entries (from_entries level)) q (entries_sorted (from_entries level))
    ∙ ap (λ o. unwrap_or o (get rows q)) (sym (get-entries (from_entries {R = nat_cmp} level) q) ∙ get-from_entries nat_cmp_total level q)

pub put_back_last-at : (rows : RowMap) (levels : List (List Older)) (q : ℕ) → get (put_back_last rows (map from_entries levels)) q ≡ unwrap_or (find nat_cmp q (innermost_level levels)) (get rows q)
put_back_last-at rows [] q = refl
put_back_last-at rows (level ∷ below) q = put_back-at rows level q

pub put_back_all-at : (rows : RowMap) (levels : List (List Older)) (q : ℕ) → get (put_back_all rows (map from_entries levels)) q ≡ unwrap_or (find nat_cmp q (flat levels)) (get rows q)
put_back_all-at rows [] q = refl
put_back_all-at rows (level ∷ below) q =
    put_back_all-at (put_back rows (from_entries level)) below q
    ∙ ap (unwrap_or (find nat_cmp q (flat below))) (put_back-at rows level q)
    ∙ sym (unwrap-both (find nat_cmp q (flat below)) (find nat_cmp q level) (get rows q))
    ∙ ap (λ o. unwrap_or o (get rows q)) (sym (find-both q (flat below) level))

-- ---- levels that are put back entry by entry

abbrev pub extended : List (List Older) → List Older → List (List Older)
extended [] popped = []
extended (level ∷ below) popped = (level ++ popped) ∷ below

pub extended-none : (levels : List (List Older)) → levels ≡ extended levels []
extended-none [] = refl
extended-none (level ∷ below) = ap (λ l. l ∷ below) (sym (append-nil level))

pub extended-popped : (old new : List (List Older)) (e : Older) (popped : List Older) → PopsLast old (Some e) new → extended old popped ≡ extended new (e ∷ popped)
extended-popped old new e popped (level, below, was, is) =
    ap (λ ls. extended ls popped) was ∙ ap (λ l. l ∷ below) (append_assoc level (e ∷ []) popped) ∙ ap (λ ls. extended ls (e ∷ popped)) (sym is)

pub extended-all : (old new : List (List Older)) (popped : List Older) → PopsLast old None new → (innermost_level (extended old popped) ≡ popped) × (new ≡ emptied_level (extended old popped))
extended-all old new popped (same, below, was) =
    (ap (λ ls. innermost_level (extended ls popped)) was, same ∙ was ∙ sym (ap (λ ls. emptied_level (extended ls popped)) was))

pub pops-shorter : (old new : List (List Older)) (e : Older) → PopsLast old (Some e) new → length (innermost_level new) < length (innermost_level old)
pops-shorter old new e (level, below, was, is) =
    let before : length (innermost_level old) ≡ length level + 1 = ap (λ ls. length (innermost_level ls)) was ∙ length-append level (e ∷ []) in
    let now : length (innermost_level new) ≡ length level = ap (λ ls. length (innermost_level ls)) is in
    omega arith

pub put_one : (q k : ℕ) (value old now : Option ℤ) (popped : List Older) → now ≡ cond (q == k) value (unwrap_or (find nat_cmp q popped) old) → now ≡ unwrap_or (find nat_cmp q ((k, value) ∷ popped)) old
put_one q k value old now popped is = is ∙ by_test (q == k) ∙ ap (λ b. unwrap_or (cond b (Some value) (find nat_cmp q popped)) old) (sym (unsigned_tied q k))
  where
    by_test : (b : Bool) → cond b value (unwrap_or (find nat_cmp q popped) old) ≡ unwrap_or (cond b (Some value) (find nat_cmp q popped)) old
    by_test true = refl
    by_test false = refl

-- the entry that is popped has a place
pub popped-placed : (slots : List (ℕ × Option ℤ)) (old new first : List (List Older)) (row : ℕ) (value : Option ℤ) (popped : List Older)
    → PopsLast old (Some (row, value)) new → first ≡ extended old popped → HasPlaces slots (flat first) → is_some (lookup (nat_eq row) slots) ≡ true
popped-placed slots old new first row value popped (level, below, was, is) whole placed =
    placed row
    (ap (λ ls. is_some (find nat_cmp row (flat ls))) (whole ∙ ap (λ ls. extended ls popped) was)
    ∙ ap is_some (find-both row (flat below) ((level ++ (row, value) ∷ []) ++ popped))
    ∙ later (find nat_cmp row (flat below)) (find nat_cmp row ((level ++ (row, value) ∷ []) ++ popped))
    (ap is_some (find-both row (level ++ (row, value) ∷ []) popped)
    ∙ sooner (find nat_cmp row (level ++ (row, value) ∷ [])) (find nat_cmp row popped)
    (ap is_some (find-both row level ((row, value) ∷ []))
    ∙ later (find nat_cmp row level) (find nat_cmp row ((row, value) ∷ [])) (ap is_some (find-one row row value ∙ ap (λ b. cond b (Some value) None) (eq-eqb row row refl))))))
  where
    later : (a b : Option (Option ℤ)) → is_some b ≡ true → is_some (or_else a b) ≡ true
    later (Some v) b h = refl
    later None b h = h

    sooner : (a b : Option (Option ℤ)) → is_some a ≡ true → is_some (or_else a b) ≡ true
    sooner (Some v) b h = refl
    sooner None b h = absurd (false≢true h)

-- ---- what has a place after an edit of the levels

abbrev pub Kept : List Older → List Older → Type 0
Kept old new = (k : ℕ) → is_some (find nat_cmp k new) ≡ true → is_some (find nat_cmp k old) ≡ true

-- a map of undo lists where one transaction's is edited
abbrev pub Edited : List (ℕ × List (List Older)) → ℕ → Option (List (List Older)) → List (ℕ × List (List Older)) → Type 0
Edited old tx levels new = (t : ℕ) → lookup (nat_eq t) new ≡ cond (t == tx) levels (lookup (nat_eq t) old)

pub edited-stack : (old new : List (ℕ × List (List Older))) (tx : ℕ) (levels : Option (List (List Older))) (stack : Option (List OlderMap)) → Edited old tx levels new → stack_in levels ≡ stack
    → (t : ℕ) → get (stack_map new) t ≡ cond (t == tx) stack (get (stack_map old) t)
edited-stack old new tx levels stack edited is t =
    older-at new t ∙ ap stack_in (edited t) ∙ by_test (t == tx)
  where
    by_test : (b : Bool) → stack_in (cond b levels (lookup (nat_eq t) old)) ≡ cond b stack (get (stack_map old) t)
    by_test true = is
    by_test false = sym (older-at old t)

pub edited-places : (slots now : List (ℕ × Option ℤ)) (old new : List (ℕ × List (List Older))) (tx : ℕ) (levels : Option (List (List Older))) → HavePlaces slots old
    → ((k : ℕ) → is_some (lookup (nat_eq k) slots) ≡ true → is_some (lookup (nat_eq k) now) ≡ true)
    → Edited old tx levels new → HasPlaces now (flat (levels_in levels)) → HavePlaces now new
edited-places slots now old new tx levels placed stays edited here t k found =
    by_test (t == tx) (subst (λ o. is_some (find nat_cmp k (flat (levels_in o))) ≡ true) (edited t) found)
  where
    by_test : (b : Bool) → is_some (find nat_cmp k (flat (levels_in (cond b levels (lookup (nat_eq t) old))))) ≡ true → is_some (lookup (nat_eq k) now) ≡ true
    by_test true h = here k h
    by_test false h = stays k (placed t k h)

is_some_or : (a b : Option (Option ℤ)) → is_some (or_else a b) ≡ (is_some a || is_some b)
is_some_or (Some v) b = refl
is_some_or None b = refl

pub in_both : (k : ℕ) (xs ys : List Older) → is_some (find nat_cmp k (xs ++ ys)) ≡ (is_some (find nat_cmp k xs) || is_some (find nat_cmp k ys))
in_both k xs ys = ap is_some (find-both k xs ys) ∙ is_some_or (find nat_cmp k xs) (find nat_cmp k ys)

or_right : (a b : Bool) → (a ≡ true) → (a || b) ≡ true
or_right true b h = refl
or_right false b h = absurd (false≢true h)

pub flat-emptied : (levels : List (List Older)) → Kept (flat levels) (flat (emptied_level levels))
flat-emptied [] k h = h
flat-emptied (level ∷ below) k h =
    in_both k (flat below) level ∙ or_right (is_some (find nat_cmp k (flat below))) (is_some (find nat_cmp k level)) (sym (ap (λ es. is_some (find nat_cmp k es)) (append-nil (flat below))) ∙ h)

pub flat-joined : (levels : List (List Older)) → flat (joined levels) ≡ flat levels
flat-joined [] = refl
flat-joined (level ∷ []) = refl
flat-joined (level ∷ next ∷ below) = sym (append_assoc (flat below) next level)

pub flat-opened : (levels : List (List Older)) → flat ([] ∷ levels) ≡ flat levels
flat-opened levels = append-nil (flat levels)

-- the same of a transaction that may not live
pub places-emptied : (slots now : List (ℕ × Option ℤ)) (o : Option (List (List Older))) → HasPlaces slots (flat (levels_in o))
    → ((k : ℕ) → is_some (lookup (nat_eq k) slots) ≡ true → is_some (lookup (nat_eq k) now) ≡ true) → HasPlaces now (flat (levels_in (option_map emptied_level o)))
places-emptied slots now None placed stays k h = stays k (placed k h)
places-emptied slots now (Some levels) placed stays k h = stays k (placed k (flat-emptied levels k h))

pub places-joined : (slots : List (ℕ × Option ℤ)) (o : Option (List (List Older))) → HasPlaces slots (flat (levels_in o)) → HasPlaces slots (flat (levels_in (option_map joined o)))
places-joined slots None placed k h = placed k h
places-joined slots (Some levels) placed k h = placed k (ap (λ es. is_some (find nat_cmp k es)) (sym (flat-joined levels)) ∙ h)

pub places-opened : (slots : List (ℕ × Option ℤ)) (o : Option (List (List Older))) → HasPlaces slots (flat (levels_in o)) → HasPlaces slots (flat (levels_in (option_map (λ levels. [] ∷ levels) o)))
places-opened slots None placed k h = placed k h
places-opened slots (Some levels) placed k h = placed k (ap (λ es. is_some (find nat_cmp k es)) (sym (flat-opened levels)) ∙ h)

or_parts : (a b : Bool) → (a || b) ≡ true → (a ≡ false → b ≡ true)
or_parts true b h apart = absurd (false≢true (sym apart))
or_parts false b h apart = h

flat-noted : (levels : List (List Older)) (e : Older) (k : ℕ) → is_some (find nat_cmp k (flat (noted levels e))) ≡ true → is_some (find nat_cmp k (flat levels)) ≡ false → (k == e.0) ≡ true
flat-noted [] e k h apart = absurd (false≢true (sym apart ∙ h))
flat-noted (level ∷ below) e k h apart =
    let whole : flat (noted (level ∷ below) e) ≡ flat (level ∷ below) ++ e ∷ [] = sym (append_assoc (flat below) level (e ∷ [])) in
    let last = or_parts (is_some (find nat_cmp k (flat (level ∷ below)))) (is_some (find nat_cmp k (e ∷ []))) (sym (in_both k (flat (level ∷ below)) (e ∷ [])) ∙ ap (λ es. is_some (find nat_cmp k es)) (sym whole) ∙ h) apart in
    one (k == e.0) (ap is_some (sym (find-one k e.0 e.1)) ∙ last)
  where
    one : (b : Bool) → is_some (cond b (Some e.1) None) ≡ true → b ≡ true
    one true h = refl
    one false h = absurd (false≢true h)

pub places-noted : (slots : List (ℕ × Option ℤ)) (o : Option (List (List Older))) (row : ℕ) (value : Option ℤ) → HasPlaces slots (flat (levels_in o)) → is_some (lookup (nat_eq row) slots) ≡ true
    → HasPlaces slots (flat (levels_in (option_map (λ levels. noted levels (row, value)) o)))
places-noted slots None row value placed here k h = placed k h
places-noted slots (Some levels) row value placed here k h = by_test (is_some (find nat_cmp k (flat levels))) refl
  where
    by_test : (b : Bool) → is_some (find nat_cmp k (flat levels)) ≡ b → is_some (lookup (nat_eq k) slots) ≡ true
    by_test true is = placed k is
    by_test false is = ap (λ j. is_some (lookup (nat_eq j) slots)) (eqb-true k row (flat-noted levels (row, value) k h is)) ∙ here

-- ---- stacks

abbrev opened_level : List (List Older) → List (List Older)
opened_level levels = [] ∷ levels

pub stack-opened : (o : Option (List (List Older))) → stack_in (option_map (λ levels. [] ∷ levels) o) ≡ option_map (λ stack. empty ∷ stack) (stack_in o)
stack-opened None = refl
stack-opened (Some levels) = refl

pub stack-noted : (o : Option (List (List Older))) (row : ℕ) (value : Option ℤ) → stack_in (option_map (λ levels. noted levels (row, value)) o) ≡ option_map (kept_last row value) (stack_in o)
stack-noted None row value = refl
stack-noted (Some levels) row value = ap Some (levels-kept levels row value)

pub stack-joined : (o : Option (List (List Older))) → stack_in (option_map joined o) ≡ option_map dropped (stack_in o)
stack-joined None = refl
stack-joined (Some levels) = ap Some (levels-dropped levels)

pub stack-emptied : (o : Option (List (List Older))) → stack_in (option_map emptied_level o) ≡ option_map emptied (stack_in o)
stack-emptied None = refl
stack-emptied (Some levels) = ap Some (levels-emptied levels)

-- ---- in terms of the whole

pub on_err : {A E P : Type 0} (r : Result A E) → P → OnErr r P
on_err (Ok a) p = tt
on_err (Err e) p = p

-- a value that is exchanged and put back is what it was
pub exchanged_back : (k row : ℕ) (f : ℕ → Option ℤ) (before value : Option ℤ) → before ≡ f row → cond (k == row) before (cond (k == row) value (f k)) ≡ f k
exchanged_back k row f before value was = by_test (k == row) refl
  where
    by_test : (b : Bool) → (k == row) ≡ b → cond b before (cond b value (f k)) ≡ f k
    by_test true same = was ∙ ap f (sym (eqb-true k row same))
    by_test false same = refl

pub stack_of-at : (undo : List (ℕ × List (List Older))) (t : ℕ) → some_stack (get (stack_map undo) t) ≡ map from_entries (levels_in (lookup (nat_eq t) undo))
stack_of-at undo t = ap some_stack (older-at undo t) ∙ some_stack-in (lookup (nat_eq t) undo)

pub edited-by : (old new : List (ℕ × List (List Older))) (tx : ℕ) (levels : Option (List (List Older))) → ((t : ℕ) → lookup (nat_eq t) new ≡ cond (nat_eq tx t) levels (lookup (nat_eq t) old)) → Edited old tx levels new
edited-by old new tx levels updated t = updated t ∙ ap (λ b. cond b levels (lookup (nat_eq t) old)) (nat_eq_equiv.symm tx t)

-- where nothing is edited
pub same-stack : (old new : List (ℕ × List (List Older))) (tx : ℕ) → ((t : ℕ) → lookup (nat_eq t) new ≡ lookup (nat_eq t) old) → (t : ℕ) → get (stack_map new) t ≡ cond (t == tx) (get (stack_map old) tx) (get (stack_map old) t)
same-stack old new tx same t = older-at new t ∙ ap stack_in (same t) ∙ sym (older-at old t) ∙ by_test (t == tx) refl
  where
    by_test : (b : Bool) → (t == tx) ≡ b → get (stack_map old) t ≡ cond b (get (stack_map old) tx) (get (stack_map old) t)
    by_test true is = ap (get (stack_map old)) (eqb-true t tx is)
    by_test false is = refl

pub same-places : (slots now : List (ℕ × Option ℤ)) (old new : List (ℕ × List (List Older))) → HavePlaces slots old → ((k : ℕ) → is_some (lookup (nat_eq k) slots) ≡ true → is_some (lookup (nat_eq k) now) ≡ true)
    → ((t : ℕ) → lookup (nat_eq t) new ≡ lookup (nat_eq t) old) → HavePlaces now new
same-places slots now old new placed stays same t k found = stays k (placed t k (subst (λ o. is_some (find nat_cmp k (flat (levels_in o))) ≡ true) (same t) found))

value_if : (b c : Bool) (value : Option ℤ) (o : Option (Option ℤ)) → b ≡ c → value_of (cond b (Some value) o) ≡ cond c value (value_of o)
value_if true c value o is = ap (λ d. cond d value (value_of o)) is
value_if false c value o is = ap (λ d. cond d value (value_of o)) is

-- one first value more
pub placed-more : (values : List ℤ) (i q : ℕ) (value : Option ℤ) (o now : Option (Option ℤ)) → value ≡ slice_get values i → value_of o ≡ slice_get (take i values) q → now ≡ cond (nat_eq i q) (Some value) o
    → value_of now ≡ slice_get (take (i + 1) values) q
placed-more values i q value o now is before put =
    let next : suc i ≡ i + 1 = omega arith in
    ap value_of put ∙ value_if (nat_eq i q) (q == i) value o (nat_eq_equiv.symm i q) ∙ ap (cond (q == i) value) before
    ∙ elim (cases_eq q i) [
      | inl same ↦ ap (λ b. cond b value (slice_get (take i values) q)) (eq-eqb q i same) ∙ is ∙ take_here values i ∙ ap (slice_get (take (suc i) values)) (sym same) ∙ ap (λ n. slice_get (take n values) q) next
      | inr differs ↦ ap (λ b. cond b value (slice_get (take i values) q)) (ne_eqb q i differs) ∙ take_same values i q differs ∙ ap (λ n. slice_get (take n values) q) next
    ]
