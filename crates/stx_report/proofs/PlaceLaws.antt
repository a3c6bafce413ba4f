-- How the places of each client grow by one more entry.
use Rattle.std.proofs.Common.{◌≡◌, ◌≢◌, ℕ, ◌+◌, ◌<◌, ◌≤◌, Bool, true, false, cond, ◌==◌, List, [], ◌∷◌, ◌++◌, length, take, replicate, get_or, Some, refl, sym, ap, ◌∙◌, arith, append-nil, eq-eqb, ne_eqb, ◌⊎◌, inl, inr}
use Rattle.std.proofs.lemmas.Bool.{cases_eq}
use Rattle.std.proofs.lemmas.List.{take_more, length-take-le, length-set, length-replicate, get_or-set_same, get_or-set_other, get_or-replicate, take_all}
use Rattle.std.proofs.lemmas.Option.{get_or_from_slice_get, slice_get-get_or}
use Rattle.stx_base.specs.Report.{places_of}
use Rattle.stx_report.specs.inner.Places.{AreEach, AreHandedOut, placed}

-- the place of one entry, where the client made it
abbrev place_if : Bool → ℕ → List ℕ
place_if true n = n ∷ []
place_if false n = []

places_of-push : (c n k m : ℕ) (makers : List ℕ) → n + length makers ≡ k → places_of c n (makers ++ m ∷ []) ≡ places_of c n makers ++ place_if (m == c) k
places_of-push c n k m [] at = by (m == c) (omega (arith, at))
  where
    by : (mine : Bool) → n ≡ k → cond mine (n ∷ []) [] ≡ place_if mine k
    by true here = ap (λ p. p ∷ []) here
    by false here = refl
places_of-push c n k m (maker ∷ makers) at = by (maker == c) (places_of-push c (n + 1) k m makers (omega (arith, at)))
  where
    by : (mine : Bool) → places_of c (n + 1) (makers ++ m ∷ []) ≡ places_of c (n + 1) makers ++ place_if (m == c) k
        → cond mine (n ∷ places_of c (n + 1) (makers ++ m ∷ [])) (places_of c (n + 1) (makers ++ m ∷ []))
        ≡ cond mine (n ∷ places_of c (n + 1) makers) (places_of c (n + 1) makers) ++ place_if (m == c) k
    by true more = ap (λ places. n ∷ places) more
    by false more = more

places_of-more : (c : ℕ) (makers : List ℕ) (i d : ℕ) → i < length makers
    → places_of c 1 (take (i + 1) makers) ≡ places_of c 1 (take i makers) ++ place_if (get_or makers i d == c) (i + 1)
places_of-more c makers i d within =
    let long : 1 + length (take i makers) ≡ i + 1 = omega (arith, length-take-le i makers (omega (arith, within))) in
    ap (places_of c 1) (take_more makers i d within) ∙ places_of-push c 1 (i + 1) (get_or makers i d) (take i makers) long

-- one more entry
pub handed_more : (makers : List ℕ) (i d clients : ℕ) (places next : List (List ℕ)) → i < length makers
    → next ≡ placed places (get_or makers i d) (i + 1)
    → AreHandedOut (take i makers) clients places → AreHandedOut (take (i + 1) makers) clients next
handed_more makers i d clients places next within grown so_far = record {
  count = ap length grown ∙ length-set places maker (get_or places maker [] ++ (i + 1) ∷ []) ∙ so_far.count;
  each = λ c below. slice_get-get_or next c [] (omega (arith, below, ap length grown, length-set places maker (get_or places maker [] ++ (i + 1) ∷ []), so_far.count))
      ∙ ap Some (ap (λ p. get_or p c []) grown ∙ at c below (cases_eq c maker) ∙ sym (places_of-more c makers i d within));
}
  where
    maker : ℕ
    maker = get_or makers i d

    before : (c : ℕ) → c < clients → get_or places c [] ≡ places_of c 1 (take i makers)
    before c below = get_or_from_slice_get places c (places_of c 1 (take i makers)) [] (so_far.each c below)

    at : (c : ℕ) → c < clients → (c ≡ maker) ⊎ (c ≢ maker)
        → get_or (placed places maker (i + 1)) c [] ≡ places_of c 1 (take i makers) ++ place_if (maker == c) (i + 1)
    at c below (inl is) =
        let here : maker < length places = omega (arith, below, is, so_far.count) in
        ap (λ j. get_or (placed places maker (i + 1)) j []) is
        ∙ get_or-set_same places maker (get_or places maker [] ++ (i + 1) ∷ []) [] here
        ∙ ap (λ j. get_or places j [] ++ (i + 1) ∷ []) (sym is)
        ∙ ap (λ own. own ++ (i + 1) ∷ []) (before c below)
        ∙ ap (λ mine. places_of c 1 (take i makers) ++ place_if mine (i + 1)) (sym (eq-eqb maker c (sym is)))
    at c below (inr apart) =
        get_or-set_other places maker c (get_or places maker [] ++ (i + 1) ∷ []) [] apart
        ∙ before c below
        ∙ sym (append-nil (places_of c 1 (take i makers)))
        ∙ ap (λ mine. places_of c 1 (take i makers) ++ place_if mine (i + 1)) (sym (ne_eqb maker c (λ e. apart (sym e))))

-- at first nobody has a place
pub handed_none : (makers : List ℕ) (clients : ℕ) (places : List (List ℕ)) → places ≡ replicate clients [] → AreHandedOut (take 0 makers) clients places
handed_none makers clients places are = record {
  count = ap length are ∙ length-replicate clients [];
  each = λ c below. slice_get-get_or places c [] (omega (arith, below, ap length are, length-replicate {A = List ℕ} clients []))
      ∙ ap Some (ap (λ p. get_or p c []) are ∙ get_or-replicate clients c [] [] below);
}

pub handed_all : (makers : List ℕ) (i clients : ℕ) (places : List (List ℕ)) → length makers ≤ i → AreHandedOut (take i makers) clients places → AreHandedOut makers clients places
handed_all makers i clients places past all = rw (take_all i makers past) at all

-- what is read for a client is its list
pub each_at : (of_client : ℕ → List ℕ) (clients : ℕ) (places : List (List ℕ)) (c : ℕ) (own d : List ℕ)
    → AreEach of_client clients places → c < clients → own ≡ get_or places c d → own ≡ of_client c
each_at of_client clients places c own d are below read = read ∙ get_or_from_slice_get places c (of_client c) d (are.each c below)
