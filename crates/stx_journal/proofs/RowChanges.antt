-- A map with changes made to it, and the changes that lead from one map to another.
use Rattle.std.proofs.Common.{◌≡◌, ◌≢◌, ℕ, ℤ, zero, suc, ◌+◌, ◌<◌, length, take, slice_get, arith, Bool, true, false, ◌&&◌, ◌||◌, ◌==◌, cond, List, [], ◌∷◌, ◌++◌, Option, Some, None, map, fold, filter_map, refl, sym, ap, ◌∙◌, subst, eqb-true, eq-eqb, ne_eqb, inl, inr}
use Rattle.std.specs.Prelude.{T}
use Rattle.std.specs.List.{list_any, cons_option}
use Rattle.std.specs.Option.{option_eq, unwrap_or, is_some}
use Rattle.std.specs.Ordering.{nat_cmp, int_eq, eq_by_cmp, is_lt, is_eq}
use Rattle.std.specs.declared.cmp.Ordering.{Ordering}
use Rattle.std.specs.Cmp.{unsigned_tied}
use Rattle.std.specs.FinMap.{find, get, insert, entries, keys, from_entries, from_sorted, is_sorted, get-entries, get-insert, get-remove, get-from_entries, get-from_sorted, entries-from_sorted, entries_sorted, contains_key-keys, same_map, nat_cmp-IsAntisymmetric}
use Rattle.std.specs.FinMap.Entries.{below_all}
use Rattle.std.specs.BTreeMap.{is_at}
use Rattle.std.specs.Map.{lookup, keys_of}
use Rattle.std.specs.List.{AllByRecursion}
use Rattle.std.specs.List.Sorted.{IsStrictlySortedBy}
use Rattle.std.proofs.lemmas.Cmp.{nat_cmp_total, nat_eq_equiv}
use Rattle.std.proofs.lemmas.Bool.{false≢true, cases_eq}
use Rattle.std.proofs.lemmas.Bool.Decides.{Decides-int_eq}
use Rattle.std.proofs.lemmas.List.Folds.{list_any-append}
use Rattle.stx_scenario.specs.declared.numbers.RowNo.{RowNo}
use Rattle.stx_base.specs.Alone.{RowMap, first_rows, change_at, net}
use Rattle.stx_base.proofs.RowLaws.{first_rows-at}
use Rattle.stx_journal.specs.Journal.{set_row, changed}
use Rattle.stx_journal.specs.declared.replay.RowValue.{RowValue}

pub set_row-at : (rows : RowMap) (k : ℕ) (value : Option ℤ) (q : ℕ) → get (set_row rows k value) q ≡ cond (q == k) value (get rows q)
set_row-at rows k (Some v) q = get-insert nat_cmp_total rows k v q ∙ ap (λ b. cond b (Some v) (get rows q)) (unsigned_tied q k)
set_row-at rows k None q = get-remove nat_cmp_total rows k q ∙ ap (λ b. cond b None (get rows q)) (unsigned_tied q k)

-- ---- changes by numbers

abbrev pub Change : Type 0
Change = ℕ × Option ℤ

abbrev pub change_row : Change → RowNo × Option ℤ
change_row e = (record { 0 = e.0 }, e.1)

abbrev pub set_all : RowMap → List Change → RowMap
set_all rows es = fold (λ m e. set_row m e.0 e.1) rows es

pub changed-rows : (rows : RowMap) (es : List Change) → changed rows (map change_row es) ≡ set_all rows es
changed-rows rows [] = refl
changed-rows rows (e ∷ es) = changed-rows (set_row rows e.0 e.1) es

is_below : (r : Ordering) → T (is_lt r) → is_eq r ≡ false
is_below Ordering.Less h = refl
is_below Ordering.Equal h = absurd h
is_below Ordering.Greater h = absurd h

first_part : (a b : Bool) → T (a && b) → T a
first_part true b h = tt
first_part false b h = absurd h

second_part : (a b : Bool) → T (a && b) → T b
second_part true b h = h
second_part false b h = absurd h

-- what is below every key isn't among them
pub none_below : {X : Type 0} (q : ℕ) (es : List (ℕ × X)) → T (below_all nat_cmp q es) → find nat_cmp q es ≡ None
none_below q [] h = refl
none_below q (e ∷ es) h =
    ap (λ b. cond b (Some e.1) (find nat_cmp q es)) (is_below (nat_cmp q e.0) (first_part (is_lt (nat_cmp q e.0)) (below_all nat_cmp q es) h))
    ∙ none_below q es (second_part (is_lt (nat_cmp q e.0)) (below_all nat_cmp q es) h)

-- a change that is found stands alone, since keys rise
set_one : (same : Bool) (value old : Option ℤ) (rest : Option (Option ℤ)) → (same ≡ true → rest ≡ None) → unwrap_or rest (cond same value old) ≡ unwrap_or (cond same (Some value) rest) old
set_one true value old rest alone = ap (λ r. unwrap_or r value) (alone refl)
set_one false value old rest alone = refl

pub set_all-at : (rows : RowMap) (es : List Change) (q : ℕ) → T (is_sorted nat_cmp es) → get (set_all rows es) q ≡ unwrap_or (find nat_cmp q es) (get rows q)
set_all-at rows [] q rise = refl
set_all-at rows (e ∷ es) q rise =
    let above : T (below_all nat_cmp e.0 es) = first_part (below_all nat_cmp e.0 es) (is_sorted nat_cmp es) rise in
    set_all-at (set_row rows e.0 e.1) es q (second_part (below_all nat_cmp e.0 es) (is_sorted nat_cmp es) rise)
    ∙ ap (unwrap_or (find nat_cmp q es)) (set_row-at rows e.0 e.1 q)
    ∙ set_one (q == e.0) e.1 (get rows q) (find nat_cmp q es) (λ is. ap (λ k. find nat_cmp k es) (eqb-true q e.0 is) ∙ none_below e.0 es above)
    ∙ ap (λ b. unwrap_or (cond b (Some e.1) (find nat_cmp q es)) (get rows q)) (sym (unsigned_tied q e.0))

-- ---- the changes from one map to another

-- the row's value now, where it differs
abbrev pub change_to : Option ℤ → Option ℤ → Option (Option ℤ)
change_to before now = cond (option_eq int_eq before now) None (Some now)

found_one : (q k : ℕ) (tied : Bool) (before now : Option ℤ) (rest : Option (Option ℤ)) (es : List Change)
    → eq_by_cmp nat_cmp q k ≡ tied → find nat_cmp q es ≡ rest
    → find nat_cmp q (cons_option (cond (option_eq int_eq before now) None (Some (k, now))) es) ≡ cond (option_eq int_eq before now) rest (cond tied (Some now) rest)
found_one q k tied before now rest es is found = differing (option_eq int_eq before now)
  where
    differing : (b : Bool) → find nat_cmp q (cons_option (cond b None (Some (k, now))) es) ≡ cond b rest (cond tied (Some now) rest)
    differing true = found
    differing false = ap (λ t. cond t (Some now) (find nat_cmp q es)) is ∙ ap (cond tied (Some now)) found

find_changes : (before now : RowMap) (ks : List ℕ) (q : ℕ)
    → find nat_cmp q (filter_map (change_at before now) ks) ≡ cond (list_any (eq_by_cmp nat_cmp q) ks) (change_to (get before q) (get now q)) None
find_changes before now [] q = refl
find_changes before now (k ∷ ks) q =
    let rest = find_changes before now ks q in
    let step : (tied : Bool) → eq_by_cmp nat_cmp q k ≡ tied
    → find nat_cmp q (cons_option (change_at before now k) (filter_map (change_at before now) ks)) ≡ cond (tied || list_any (eq_by_cmp nat_cmp q) ks) (change_to (get before q) (get now q)) None =
    λ tied. elim tied as (λ t. eq_by_cmp nat_cmp q k ≡ t → find nat_cmp q (cons_option (change_at before now k) (filter_map (change_at before now) ks)) ≡ cond (t || list_any (eq_by_cmp nat_cmp q) ks) (change_to (get before q) (get now q)) None) [
      | true ↦ λ is.
          let same : q ≡ k = eqb-true q k (sym (unsigned_tied q k) ∙ is) in
          found_one q k true (get before k) (get now k) _ (filter_map (change_at before now) ks) is rest
          ∙ at_key (option_eq int_eq (get before k) (get now k)) (option_eq int_eq (get before q) (get now q)) (list_any (eq_by_cmp nat_cmp q) ks) (get now k) (get now q)
          (ap (λ j. option_eq int_eq (get before j) (get now j)) (sym same)) (ap (get now) (sym same))
      | false ↦ λ is. found_one q k false (get before k) (get now k) _ (filter_map (change_at before now) ks) is rest ∙ both_same (option_eq int_eq (get before k) (get now k)) _
    ] in
    step (eq_by_cmp nat_cmp q k) refl
  where
    both_same : {A : Type 0} (b : Bool) (x : A) → cond b x x ≡ x
    both_same true x = refl
    both_same false x = refl

    at_key : (b c any : Bool) (v w : Option ℤ) → b ≡ c → v ≡ w
        → cond b (cond any (cond c None (Some w)) None) (cond true (Some v) (cond any (cond c None (Some w)) None)) ≡ cond c None (Some w)
    at_key b true any v w same is = ap (λ x. cond x (cond any None None) (Some v)) same ∙ none any
      where
        none : (any : Bool) → ◌≡◌ {A = Option (Option ℤ)} (cond any None None) None
        none true = refl
        none false = refl
    at_key b false any v w same is = ap (λ x. cond x (cond any (Some w) None) (Some v)) same ∙ ap Some is

not_there : (o : Option ℤ) → is_some o ≡ false → o ≡ None
not_there None h = refl
not_there (Some v) h = absurd (false≢true (sym h))

no_change : (any : Bool) (before now : Option ℤ) → (any ≡ false → before ≡ None) → (any ≡ false → now ≡ None) → cond any (change_to before now) None ≡ change_to before now
no_change true before now b n = refl
no_change false before now b n = λ i. change_to (sym (b refl) i) (sym (n refl) i)

or_false : (a b : Bool) → (a || b) ≡ false → (a ≡ false) × (b ≡ false)
or_false true b h = absurd (false≢true (sym h))
or_false false b h = (refl, h)

-- the changes, by numbers, where they are looked up
pub find_net : (before now : RowMap) (q : ℕ) → find nat_cmp q (filter_map (change_at before now) (keys before ++ keys now)) ≡ change_to (get before q) (get now q)
find_net before now q =
    let parts = λ (none : list_any (eq_by_cmp nat_cmp q) (keys before ++ keys now) ≡ false).
    or_false (list_any (eq_by_cmp nat_cmp q) (keys before)) (list_any (eq_by_cmp nat_cmp q) (keys now)) (sym (list_any-append (eq_by_cmp nat_cmp q) (keys before) (keys now)) ∙ none) in
    find_changes before now (keys before ++ keys now) q
    ∙ no_change (list_any (eq_by_cmp nat_cmp q) (keys before ++ keys now)) (get before q) (get now q)
    (λ none. not_there (get before q) (contains_key-keys before q ∙ (parts none).0))
    (λ none. not_there (get now q) (contains_key-keys now q ∙ (parts none).1))

-- rising changes in which each row is found with its change are the changes from one map to the other
pub net_is : (before now : RowMap) (es : List Change) → T (is_sorted nat_cmp es) → ((q : ℕ) → find nat_cmp q es ≡ change_to (get before q) (get now q)) → net before now ≡ map change_row es
unfolding net
net_is before now es rise found =
    let all = filter_map (change_at before now) (keys before ++ keys now) in
    let same : from_entries {R = nat_cmp} all ≡ from_sorted {R = nat_cmp} es =
    same_map nat_cmp_total nat_cmp-IsAntisymmetric (from_entries {R = nat_cmp} all) (from_sorted {R = nat_cmp} es)
    (λ q. get-from_entries nat_cmp_total all q ∙ find_net before now q ∙ sym (found q) ∙ sym (get-from_sorted nat_cmp es q rise)) in
    ap (λ m. map change_row (entries m)) same ∙ ap (map change_row) (entries-from_sorted nat_cmp es rise)

-- where each row changes alike, the changes are the same
pub net-same : (before now before' now' : RowMap) → ((q : ℕ) → change_to (get before q) (get now q) ≡ change_to (get before' q) (get now' q)) → net before now ≡ net before' now'
unfolding net
net-same before now before' now' same =
    let all = filter_map (change_at before now) (keys before ++ keys now) in
    let all' = filter_map (change_at before' now') (keys before' ++ keys now') in
    ap (λ m. map change_row (entries m))
    (same_map nat_cmp_total nat_cmp-IsAntisymmetric (from_entries {R = nat_cmp} all) (from_entries {R = nat_cmp} all')
    (λ q. get-from_entries nat_cmp_total all q ∙ find_net before now q ∙ same q ∙ sym (find_net before' now' q) ∙ sym (get-from_entries nat_cmp_total all' q)))

pub unchanged : (value : Option ℤ) → change_to value value ≡ None
unchanged None = refl
unchanged (Some v) = ap (λ b. cond b None (Some (Some v))) ((Decides-int_eq v v).1 refl)

same_int : (v w : ℤ) → int_eq v w ≡ true → v ≡ w
same_int v w h = (Decides-int_eq v w).0 h

same_option : (before now : Option ℤ) (b : Bool) → option_eq int_eq before now ≡ b → unwrap_or (cond b None (Some now)) before ≡ now
same_option before now false is = refl
same_option None None true is = refl
same_option None (Some w) true is = absurd (false≢true is)
same_option (Some v) None true is = absurd (false≢true is)
same_option (Some v) (Some w) true is = ap Some (same_int v w is)

-- the changes from one map to another lead there
pub changed-net : (before now : RowMap) → changed before (net before now) ≡ now
unfolding net
changed-net before now =
    let all = from_entries {R = nat_cmp} (filter_map (change_at before now) (keys before ++ keys now)) in
    same_map nat_cmp_total nat_cmp-IsAntisymmetric (changed before (map change_row (entries all))) now
    (λ q.
    ap (λ m. get m q) (changed-rows before (entries all))
    ∙ set_all-at before (entries all) q (entries_sorted all)
    ∙ ap (λ c. unwrap_or c (get before q)) (sym (get-entries all q) ∙ get-from_entries nat_cmp_total (filter_map (change_at before now) (keys before ++ keys now)) q ∙ find_net before now q)
    ∙ same_option (get before q) (get now q) (option_eq int_eq (get before q) (get now q)) refl)

-- ---- a map that is kept as the list of its entries

pub kept-at : {X : Type 0} (es : List (ℕ × X)) (q : ℕ) → get (from_entries {R = nat_cmp} es) q ≡ lookup (is_at (nat_cmp q)) es
kept-at es q = get-from_entries nat_cmp_total es q ∙ looked es
  where
    looked : {X : Type 0} (es : List (ℕ × X)) → find nat_cmp q es ≡ lookup (is_at (nat_cmp q)) es
    looked [] = refl
    looked (e ∷ es) = ap (cond (is_at (nat_cmp q) e.0) (Some e.1)) (looked es)

-- an update of the entries at a key
abbrev pub Updated : {X : Type 0} → List (ℕ × X) → List (ℕ × X) → ℕ → Option X → Type 0
Updated es fs k w = (q : ℕ) → lookup (is_at (nat_cmp q)) fs ≡ cond (is_at (nat_cmp k) q) w (lookup (is_at (nat_cmp q)) es)

pub same_key : (k q : ℕ) → is_at (nat_cmp k) q ≡ (q == k)
same_key k q = unsigned_tied k q ∙ nat_eq_equiv.symm k q

pub kept_set : (es fs : List (ℕ × ℤ)) (k : ℕ) (value : Option ℤ) → Updated es fs k value → from_entries {R = nat_cmp} fs ≡ set_row (from_entries es) k value
kept_set es fs k value updated =
    same_map nat_cmp_total nat_cmp-IsAntisymmetric (from_entries {R = nat_cmp} fs) (set_row (from_entries es) k value)
    (λ q.
    kept-at fs q ∙ updated q ∙ ap (λ b. cond b value (lookup (is_at (nat_cmp q)) es)) (same_key k q)
    ∙ ap (cond (q == k) value) (sym (kept-at es q))
    ∙ sym (set_row-at (from_entries es) k value q))

both : (a b : Bool) → T a → T b → T (a && b)
both true b p q = q
both false b p q = p

rises : (k : ℕ) (es : List (ℕ × ℤ)) → AllByRecursion (λ y. nat_cmp k y ≡ Ordering.Less) (keys_of es) → T (below_all nat_cmp k es)
rises k [] h = tt
rises k (e ∷ es) h = both (is_lt (nat_cmp k e.0)) (below_all nat_cmp k es) (subst (λ r. T (is_lt r)) (sym h.0) tt) (rises k es h.1)

pub rising : (es : List (ℕ × ℤ)) → IsStrictlySortedBy nat_cmp (keys_of es) → T (is_sorted nat_cmp es)
unfolding IsStrictlySortedBy
rising [] h = tt
rising (e ∷ es) h = both (below_all nat_cmp e.0 es) (is_sorted nat_cmp es) (rises e.0 es h.0) (rising es h.1)

-- entries in order are the map's
pub kept-entries : (es : List (ℕ × ℤ)) → IsStrictlySortedBy nat_cmp (keys_of es) → entries (from_entries {R = nat_cmp} es) ≡ es
kept-entries es sorted =
    let rise = rising es sorted in
    ap entries (same_map nat_cmp_total nat_cmp-IsAntisymmetric (from_entries {R = nat_cmp} es) (from_sorted {R = nat_cmp} es)
    (λ q. get-from_entries nat_cmp_total es q ∙ sym (get-from_sorted nat_cmp es q rise)))
    ∙ entries-from_sorted nat_cmp es rise

abbrev pub value_row : ℕ × ℤ → RowValue
value_row e = record { row = record { 0 = e.0 }; value = e.1 }

-- ---- the first values, one more at a time

pub take_same : (xs : List ℤ) (i q : ℕ) → q ≢ i → slice_get (take i xs) q ≡ slice_get (take (suc i) xs) q
take_same [] zero q differs = refl
take_same [] (suc i) q differs = refl
take_same (x ∷ xs) zero zero differs = absurd (differs refl)
take_same (x ∷ xs) zero (suc q) differs = refl
take_same (x ∷ xs) (suc i) zero differs = refl
take_same (x ∷ xs) (suc i) (suc q) differs = take_same xs i q (λ e. differs (ap suc e))

pub take_here : (xs : List ℤ) (i : ℕ) → slice_get xs i ≡ slice_get (take (suc i) xs) i
take_here [] i = refl
take_here (x ∷ xs) zero = refl
take_here (x ∷ xs) (suc i) = take_here xs i

more_at : (values : List ℤ) (i q : ℕ) (v : ℤ) → slice_get values i ≡ Some v → cond (q == i) (Some v) (slice_get (take i values) q) ≡ slice_get (take (i + 1) values) q
more_at values i q v is = let next : suc i ≡ i + 1 = omega arith in elim (cases_eq q i) [
  | inl same ↦ ap (λ b. cond b (Some v) (slice_get (take i values) q)) (eq-eqb q i same) ∙ sym is ∙ take_here values i ∙ ap (slice_get (take (suc i) values)) (sym same) ∙ ap (λ n. slice_get (take n values) q) next
  | inr differs ↦ ap (λ b. cond b (Some v) (slice_get (take i values) q)) (ne_eqb q i differs) ∙ take_same values i q differs ∙ ap (λ n. slice_get (take n values) q) next
]

pub first_rows-more : (values : List ℤ) (i : ℕ) (value : Option ℤ) → i < length values → value ≡ slice_get values i → set_row (first_rows (take i values)) i value ≡ first_rows (take (i + 1) values)
first_rows-more values i None within is = absurd (missing values i within (sym is))
  where
    missing : (values : List ℤ) (i : ℕ) → i < length values → slice_get values i ≡ None → ⊥
    missing [] i within is = omega arith
    missing (x ∷ xs) zero within is = cc
    missing (x ∷ xs) (suc i) within is = missing xs i (omega arith) is
first_rows-more values i (Some v) within is =
    same_map nat_cmp_total nat_cmp-IsAntisymmetric (insert (first_rows (take i values)) i v) (first_rows (take (i + 1) values))
    (λ q.
    set_row-at (first_rows (take i values)) i (Some v) q
    ∙ ap (cond (q == i) (Some v)) (first_rows-at (take i values) q)
    ∙ more_at values i q v (sym is)
    ∙ sym (first_rows-at (take (i + 1) values) q))
