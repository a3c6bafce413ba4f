-- Laws of the search for what is reached from a method: what is found is reached, and at its end all that is reached is found.
use Rattle.std.proofs.Common.{◌≡◌, ℕ, zero, suc, ◌+◌, ◌<◌, ◌≤◌, Bool, true, false, ◌||◌, cond, List, [], ◌∷◌, ◌++◌, length, refl, sym, ◌∙◌, ap, subst, arith, fold, get_or, ⊎_elim, eq-eqb, ◌==◌, ◌⊎◌, inl, inr}
use Rattle.std.proofs.lemmas.Bool.{or_cases, or_left, or_right, cases_lt}
use Rattle.std.proofs.lemmas.List.{get_or_append_left, get_or_default, append-nil, append_assoc}
use Rattle.std.proofs.lemmas.List.Folds.{Any-from_list_any, list_any_at}
use Rattle.stx_scenario.specs.declared.numbers.MethodNo.{MethodNo}
use Rattle.stx_base.specs.Weight.{has_method, Way}
use Rattle.stx_base.proofs.WayLaws.{same_method, Leads, leads_once, leads_more}
use Rattle.stx_graph.specs.inner.Rows.{with_method, row_at, next_in}
use Rattle.stx_graph.specs.inner.Cycles.{AreReached}
use Rattle.stx_graph.proofs.RowLaws.{joins_methods}

-- what is found after so many turns: each method of a turn has all its methods found
pub record Searches (rows : List (List MethodNo)) (start : MethodNo) (order : List MethodNo) (at : ℕ) : Type 0 where
  pub sound : (m : MethodNo) → has_method order m ≡ true → Leads (next_in rows) start m
  pub first : (m : MethodNo) → has_method (row_at rows start.0) m ≡ true → has_method order m ≡ true
  pub closed :
      (k : ℕ) (d m : MethodNo) → k < at → k < length order → has_method (row_at rows (get_or order k d).0) m ≡ true → has_method order m ≡ true

extends : (ms ns : List MethodNo) → (extra : List MethodNo) × (fold with_method ms ns ≡ ms ++ extra)
extends ms [] = ([], sym (append-nil ms))
extends ms (n ∷ ns) = step (has_method ms n) (extends ms ns) (extends (ms ++ n ∷ []) ns)
  where
    step :
        (b : Bool) → (extra : List MethodNo) × (fold with_method ms ns ≡ ms ++ extra)
        → (extra : List MethodNo) × (fold with_method (ms ++ n ∷ []) ns ≡ (ms ++ n ∷ []) ++ extra)
        → (extra : List MethodNo) × (fold with_method (cond b ms (ms ++ n ∷ [])) ns ≡ ms ++ extra)
    step true known new = known
    step false known new = (n ∷ new.0, new.1 ∙ append_assoc ms (n ∷ []) new.0)

pub has_at : (order : List MethodNo) (k : ℕ) (d : MethodNo) → k < length order → has_method order (get_or order k d) ≡ true
has_at order k d h = list_any_at (λ m. m.0 == (get_or order k d).0) order k d h (eq-eqb (get_or order k d).0 (get_or order k d).0 refl)

pub search_starts :
    (rows : List (List MethodNo)) (start : MethodNo) (order : List MethodNo) → order ≡ fold with_method [] (row_at rows start.0)
    → Searches rows start order 0
search_starts rows start order e = record {
  sound = λ m h. leads_once (next_in rows) start m (sym (has m) ∙ h);
  first = λ m h. has m ∙ h;
  closed = λ k d m none. absurd (omega arith);
}
  where
    has : (m : MethodNo) → has_method order m ≡ has_method (row_at rows start.0) m
    has m = ap (λ order. has_method order m) e ∙ joins_methods [] (row_at rows start.0) m

pub search_goes_on :
    (rows : List (List MethodNo)) (start : MethodNo) (order after : List MethodNo) (at : ℕ) (method : MethodNo) → Searches rows start order at
    → at < length order → method ≡ get_or order at method → after ≡ fold with_method order (row_at rows method.0)
    → Searches rows start after (at + 1)
search_goes_on rows start order after at method so_far below here e = record {
  sound = λ m h.
      ⊎_elim (so_far.sound m) (λ new. leads_more (next_in rows) start method m (so_far.sound method found) new) (or_cases _ _ (sym (has m) ∙ h));
  first = λ m h. has m ∙ or_left _ _ (so_far.first m h);
  closed = λ k d m turn within h. at_turn k d m turn h (cases_lt k at);
}
  where
    has : (m : MethodNo) → has_method after m ≡ (has_method order m || has_method (row_at rows method.0) m)
    has m = ap (λ order. has_method order m) e ∙ joins_methods order (row_at rows method.0) m

    found : has_method order method ≡ true
    found = ap (has_method order) here ∙ has_at order at method below

    same_at : (k : ℕ) (d : MethodNo) → k < length order → get_or after k d ≡ get_or order k d
    same_at k d h =
        let more = extends order (row_at rows method.0) in
        ap (λ after. get_or after k d) (e ∙ more.1) ∙ get_or_append_left order more.0 d k h

    at_turn :
        (k : ℕ) (d m : MethodNo) → k < at + 1 → has_method (row_at rows (get_or after k d).0) m ≡ true → (k < at) ⊎ (at ≤ k)
        → has_method after m ≡ true
    at_turn k d m turn h (inl earlier) =
        let known = subst (λ n. has_method (row_at rows n.0) m ≡ true) (same_at k d (omega arith)) h in
        has m ∙ or_left _ _ (so_far.closed k d m earlier (omega arith) known)
    at_turn k d m turn h (inr now) =
        let last : k ≡ at = omega arith in
        let new = subst (λ n. has_method (row_at rows n.0) m ≡ true)
        (same_at k d (omega arith) ∙ ap (λ k. get_or order k d) last ∙ get_or_default order at d method below ∙ sym here) h in
        has m ∙ or_right _ _ new

pub search_ends :
    (rows : List (List MethodNo)) (start : MethodNo) (order : List MethodNo) (at : ℕ) → Searches rows start order at → length order ≤ at
    → AreReached (next_in rows) start order
search_ends rows start order at all end = record {
  sound = all.sound;
  whole = λ m steps way. goes steps way.0 m (all.first way.0 way.1) way.2;
}
  where
    goes : (steps : ℕ) (n m : MethodNo) → has_method order n ≡ true → Way (next_in rows) steps n m → has_method order m ≡ true
    goes zero n m here way = ap (has_method order) (sym way) ∙ here
    goes (suc steps) n m here way =
        let place = Any-from_list_any (λ k. k.0 == n.0) order here in
        let is = same_method place.1 n place.4 in
        let at_place = place.3 ∙ is in
        let led = subst (λ k. has_method (row_at rows k.0) way.0 ≡ true) (sym at_place) way.1 in
        goes steps way.0 m (all.closed place.0 place.1 way.0 (omega (arith, place.2)) place.2 led) way.2

-- the row that a turn reads
pub row_read :
    (items rows : List (List MethodNo)) (n : ℕ) (row slice : List MethodNo) → items ≡ rows → n < length rows → row ≡ get_or items n row
    → slice ≡ row → slice ≡ row_at rows n
row_read items rows n row slice same below here read =
    read ∙ here ∙ ap (λ xs. get_or xs n row) same ∙ get_or_default rows n row [] below
