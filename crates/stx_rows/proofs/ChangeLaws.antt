-- The changes of an undo list are the net changes.
use Rattle.std.proofs.Common.{◌≡◌, ℕ, ℤ, Bool, true, false, ◌&&◌, cond, List, [], ◌∷◌, Option, Some, None, filter_map, map, refl, sym, ap, ◌∙◌, subst, eqb-true}
use Rattle.std.specs.Prelude.{T}
use Rattle.std.specs.Bool.{nat_eq}
use Rattle.std.specs.Option.{option_eq, option_map, unwrap_or}
use Rattle.std.specs.List.{cons_option, AllByRecursion}
use Rattle.std.specs.List.Sorted.{IsStrictlySortedBy}
use Rattle.std.specs.Map.{lookup, keys_of}
use Rattle.std.specs.Ordering.{nat_cmp, int_eq, is_lt}
use Rattle.std.specs.declared.cmp.Ordering.{Ordering}
use Rattle.std.specs.BTreeMap.{BTreeMap, is_at}
use Rattle.std.specs.FinMap.{find, is_sorted, get as finite_get}
use Rattle.std.specs.Cmp.{unsigned_tied}
use Rattle.std.specs.FinMap.Entries.{below_all}
use Rattle.std.proofs.lemmas.Bool.Decides.{Decides-int_eq}
use Rattle.indexmap.specs.IndexMap.{IndexMap, get}
use Rattle.stx_base.specs.Alone.{RowMap, net}
use Rattle.stx_journal.proofs.RowChanges.{change_to, net_is, none_below}
use Rattle.stx_rows.specs.declared.undo.First.{First}
use Rattle.stx_rows.specs.inner.Undoing.{Older, FirstsAre, change_of, change_row, value_of, AreValues, WereValues}
use Rattle.stx_rows.proofs.UndoLaws.{find-first}

abbrev pub change_now : {S : Type 0} → IndexMap ℕ (Option ℤ) S → ℕ × First → Option Older
change_now slots e = change_of e.0 e.1.value (value_of (get nat_eq slots e.0))

both : (a b : Bool) → T a → T b → T (a && b)
both true b p q = q
both false b p q = p

module _ {S : Type 0} (slots : IndexMap ℕ (Option ℤ) S) where
  below_changes : (k : ℕ) (es : List (ℕ × First)) → AllByRecursion (λ y. nat_cmp k y ≡ Ordering.Less) (keys_of es) → T (below_all nat_cmp k (filter_map (change_now slots) es))
  below_changes k [] h = tt
  below_changes k (e ∷ es) h = by_test (option_eq int_eq e.1.value (value_of (get nat_eq slots e.0))) (below_changes k es h.1)
    where
      by_test : (b : Bool) → T (below_all nat_cmp k (filter_map (change_now slots) es)) → T (below_all nat_cmp k (cons_option (cond b None (Some (e.0, value_of (get nat_eq slots e.0)))) (filter_map (change_now slots) es)))
      by_test true rest = rest
      by_test false rest = both (is_lt (nat_cmp k e.0)) (below_all nat_cmp k (filter_map (change_now slots) es)) (subst (λ r. T (is_lt r)) (sym h.0) tt) rest

  pub changes_rise : (es : List (ℕ × First)) → IsStrictlySortedBy nat_cmp (keys_of es) → T (is_sorted nat_cmp (filter_map (change_now slots) es))
  unfolding IsStrictlySortedBy
  changes_rise [] h = tt
  changes_rise (e ∷ es) h = by_test (option_eq int_eq e.1.value (value_of (get nat_eq slots e.0))) (changes_rise es h.1)
    where
      by_test : (b : Bool) → T (is_sorted nat_cmp (filter_map (change_now slots) es)) → T (is_sorted nat_cmp (cons_option (cond b None (Some (e.0, value_of (get nat_eq slots e.0)))) (filter_map (change_now slots) es)))
      by_test true rest = rest
      by_test false rest = both (below_all nat_cmp e.0 (filter_map (change_now slots) es)) (is_sorted nat_cmp (filter_map (change_now slots) es)) (below_changes e.0 es h.0) rest

  abbrev pub changed_first : ℕ → Option First → Option (Option ℤ)
  changed_first q None = None
  changed_first q (Some f) = change_to f.value (value_of (get nat_eq slots q))

  pub find_changes : (q : ℕ) (es : List (ℕ × First)) → IsStrictlySortedBy nat_cmp (keys_of es) → find nat_cmp q (filter_map (change_now slots) es) ≡ changed_first q (lookup (is_at (nat_cmp q)) es)
  unfolding IsStrictlySortedBy
  find_changes q [] h = refl
  find_changes q (e ∷ es) h = by_test (is_at (nat_cmp q) e.0) refl (option_eq int_eq e.1.value (value_of (get nat_eq slots e.0))) refl (find_changes q es h.1)
    where
      rest : List Older
      rest = filter_map (change_now slots) es

      here : is_at (nat_cmp q) e.0 ≡ true → q ≡ e.0
      here is = eqb-true q e.0 (sym (unsigned_tied q e.0) ∙ is)

      by_test : (tied : Bool) → is_at (nat_cmp q) e.0 ≡ tied → (b : Bool) → option_eq int_eq e.1.value (value_of (get nat_eq slots e.0)) ≡ b
          → find nat_cmp q rest ≡ changed_first q (lookup (is_at (nat_cmp q)) es)
          → find nat_cmp q (cons_option (cond b None (Some (e.0, value_of (get nat_eq slots e.0)))) rest) ≡ changed_first q (cond tied (Some e.1) (lookup (is_at (nat_cmp q)) es))
      by_test false is true same more = more
      by_test false is false same more = ap (λ t. cond t (Some (value_of (get nat_eq slots e.0))) (find nat_cmp q rest)) is ∙ more
      by_test true is true same more =
          ap (λ k. find nat_cmp k rest) (here is) ∙ none_below e.0 rest (below_changes e.0 es h.0)
          ∙ sym (ap (λ k. change_to e.1.value (value_of (get nat_eq slots k))) (here is) ∙ ap (λ t. cond t None (Some (value_of (get nat_eq slots e.0)))) same)
      by_test true is false same more =
          ap (λ t. cond t (Some (value_of (get nat_eq slots e.0))) (find nat_cmp q rest)) is
          ∙ sym (ap (λ k. change_to e.1.value (value_of (get nat_eq slots k))) (here is) ∙ ap (λ t. cond t None (Some (value_of (get nat_eq slots e.0)))) same)

  unchanged : (v : Option ℤ) → change_to v v ≡ None
  unchanged None = refl
  unchanged (Some v) = ap (λ t. cond t None (Some (Some v))) ((Decides-int_eq v v).1 refl)

  first_changed : (q : ℕ) (o : Option First) (before now : Option ℤ) → before ≡ unwrap_or (option_map (λ f. f.value) o) now → now ≡ value_of (get nat_eq slots q) → changed_first q o ≡ change_to before now
  first_changed q None before now was is = sym (ap (λ v. change_to v now) was ∙ unchanged now)
  first_changed q (Some f) before now was is = λ i. change_to (sym was i) (sym is i)

  pub changes_are_net : (first : BTreeMap ℕ First) (older : List Older) (before now : RowMap) → IsStrictlySortedBy nat_cmp (keys_of first.entries) → FirstsAre first older
      → AreValues slots now → WereValues older before now → net before now ≡ map change_row (filter_map (change_now slots) first.entries)
  changes_are_net first older before now sorted firsts are were =
      net_is before now (filter_map (change_now slots) first.entries) (changes_rise first.entries sorted)
      (λ q.
      find_changes q first.entries sorted
      ∙ first_changed q (lookup (is_at (nat_cmp q)) first.entries) (finite_get before q) (finite_get now q)
      (were q ∙ ap (λ o. unwrap_or o (finite_get now q)) (find-first 0 q older ∙ ap (option_map (λ f. f.value)) (sym (firsts q))))
      (are q))
