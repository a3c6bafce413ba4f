-- An undo list and its levels.
use Rattle.std.proofs.Common.{◌≡◌, ℕ, ℤ, zero, suc, ◌+◌, ◌<◌, ◌≤◌, Bool, true, false, ◌&&◌, ◌==◌, cond, List, [], ◌∷◌, ◌++◌, Option, Some, None, length, take, drop, reverse, refl, sym, ap, ◌∙◌, length-append, length-take, arith, eq-eqb, ne_eqb}
use Rattle.std.specs.Option.{option_map, unwrap_or}
use Rattle.std.specs.Ordering.{nat_cmp}
use Rattle.std.specs.Cmp.{unsigned_tied}
use Rattle.std.specs.BTreeMap.{BTreeMap, get as tree_get}
use Rattle.std.specs.FinMap.{find}
use Rattle.std.proofs.lemmas.List.{take-append-drop, take-append-le, drop-append-le, reverse-append}
use Rattle.stx_rows.specs.declared.undo.First.{First}
use Rattle.stx_rows.specs.inner.Undoing.{Older, levels, AreMarks, last_mark, noted, joined, flat, PopsLast, first_from, or_first, FirstsAre, stands_at}

pub reverse-push : (xs : List ℕ) (x : ℕ) → reverse (xs ++ x ∷ []) ≡ x ∷ reverse xs
reverse-push xs x = reverse-append xs (x ∷ [])

-- ---- levels

pub levels-noted : (older : List Older) (marks : List ℕ) (e : Older) → AreMarks (length older) marks → levels (older ++ e ∷ []) marks ≡ noted (levels older marks) e
levels-noted older [] e are = refl
levels-noted older (mark ∷ marks) e are = λ i. drop-append-le mark older (e ∷ []) are.0 i ∷ levels (take-append-le mark older (e ∷ []) are.0 i) marks

pub marks-later : (before after : ℕ) (marks : List ℕ) → before ≤ after → AreMarks before marks → AreMarks after marks
marks-later before after [] le are = tt
marks-later before after (mark ∷ marks) le are = (omega (arith, are.0), are.1)

take-take : (n m : ℕ) (xs : List Older) → n ≤ m → m ≤ length xs → take n (take m xs) ≡ take n xs
take-take n m xs le within =
    let long : length (take m xs) ≡ m = omega (arith, length-take {A = Older}) in
    sym (take-append-le n (take m xs) (drop m xs) (omega arith)) ∙ ap (take n) (take-append-drop m xs)

drop-take : (n m : ℕ) (xs : List Older) → n ≤ m → m ≤ length xs → drop n (take m xs) ++ drop m xs ≡ drop n xs
drop-take n m xs le within =
    let long : length (take m xs) ≡ m = omega (arith, length-take {A = Older}) in
    sym (drop-append-le n (take m xs) (drop m xs) (omega arith)) ∙ ap (drop n) (take-append-drop m xs)

pub levels-joined : (older : List Older) (mark : ℕ) (marks : List ℕ) → AreMarks (length older) (mark ∷ marks) → levels older marks ≡ joined (levels older (mark ∷ marks))
levels-joined older mark [] are = ap (λ l. l ∷ []) (sym (take-append-drop mark older))
levels-joined older mark (next ∷ marks) are =
    let front : drop next older ≡ drop next (take mark older) ++ drop mark older = sym (drop-take next mark older (are.1).0 are.0) in
    let rest : take next older ≡ take next (take mark older) = sym (take-take next mark older (are.1).0 are.0) in
    λ i. front i ∷ levels (rest i) marks

pub flat-levels : (older : List Older) (marks : List ℕ) → flat (levels older marks) ≡ older
flat-levels older [] = refl
flat-levels older (mark ∷ marks) = ap (λ front. front ++ drop mark older) (flat-levels (take mark older) marks) ∙ take-append-drop mark older

-- ---- the last entry

drop_all : (n : ℕ) (xs : List Older) → length xs ≤ n → drop n xs ≡ []
drop_all zero [] h = refl
drop_all zero (x ∷ xs) h = absurd (omega arith)
drop_all (suc n) [] h = refl
drop_all (suc n) (x ∷ xs) h = drop_all n xs (omega arith)

pub pops-none : (older : List Older) (marks : List ℕ) → length older ≤ last_mark marks → PopsLast (levels older marks) None (levels older marks)
pops-none [] [] h = (refl, [], refl)
pops-none (e ∷ older) [] h = absurd (omega arith)
pops-none older (mark ∷ marks) h = (refl, levels (take mark older) marks, ap (λ l. l ∷ levels (take mark older) marks) (drop_all mark older h))

pub pops-some : (older : List Older) (e : Older) (marks : List ℕ) → AreMarks (length (older ++ e ∷ [])) marks → last_mark marks < length (older ++ e ∷ []) → PopsLast (levels (older ++ e ∷ []) marks) (Some e) (levels older marks)
pops-some older e [] are h = (older, [], refl, refl)
pops-some older e (mark ∷ marks) are h =
    let within : mark ≤ length older = omega (arith, length-append older (e ∷ [])) in
    (drop mark older, levels (take mark older) marks, (λ i. drop-append-le mark older (e ∷ []) within i ∷ levels (take-append-le mark older (e ∷ []) within i) marks), refl)

pub marks-kept : (older : List Older) (e : Older) (marks : List ℕ) → AreMarks (length (older ++ e ∷ [])) marks → last_mark marks < length (older ++ e ∷ []) → AreMarks (length older) marks
marks-kept older e [] are h = tt
marks-kept older e (mark ∷ marks) are h = (omega (arith, length-append older (e ∷ [])), are.1)

-- ---- where a row stands first

pub first_from-push : (n k : ℕ) (xs : List Older) (e : Older) → first_from n k (xs ++ e ∷ []) ≡ or_first (first_from n k xs) (cond (k == e.0) (Some (record { place = n + length xs; value = e.1 })) None)
first_from-push n k [] e = let same : n ≡ n + 0 = omega arith in ap (λ p. cond (k == e.0) (Some (record { place = p; value = e.1 })) None) same
first_from-push n k (x ∷ xs) e = by_test (k == x.0) (first_from-push (n + 1) k xs e)
  where
    by_test : (b : Bool) → first_from (n + 1) k (xs ++ e ∷ []) ≡ or_first (first_from (n + 1) k xs) (cond (k == e.0) (Some (record { place = (n + 1) + length xs; value = e.1 })) None) → cond b (Some (record { place = n; value = x.1 })) (first_from (n + 1) k (xs ++ e ∷ [])) ≡ or_first (cond b (Some (record { place = n; value = x.1 })) (first_from (n + 1) k xs)) (cond (k == e.0) (Some (record { place = n + length (x ∷ xs); value = e.1 })) None)
    by_test true rest = refl
    by_test false rest =
        let same : (n + 1) + length xs ≡ n + length (x ∷ xs) = omega arith in
        rest ∙ ap (λ p. or_first (first_from (n + 1) k xs) (cond (k == e.0) (Some (record { place = p; value = e.1 })) None)) same

pub first-within : (n k : ℕ) (xs : List Older) (f : First) → first_from n k xs ≡ Some f → f.place < n + length xs
first-within n k [] f is = cc
first-within n k (x ∷ xs) f is = by_test (k == x.0) is (λ h. first-within (n + 1) k xs f h)
  where
    by_test : (b : Bool) → cond b (Some (record { place = n; value = x.1 })) (first_from (n + 1) k xs) ≡ Some f → (first_from (n + 1) k xs ≡ Some f → f.place < (n + 1) + length xs) → f.place < n + length (x ∷ xs)
    by_test true h rest = let same : n ≡ f.place = ap (λ o. (unwrap_or o f).place) h in omega arith
    by_test false h rest = let less = rest h in omega arith

-- one entry more
pub firsts-more : (first now : BTreeMap ℕ First) (older : List Older) (row : ℕ) (value : Option ℤ) (here : First) → FirstsAre first older → here ≡ record { place = length older; value = value }
    → ((k : ℕ) → tree_get nat_cmp now k ≡ or_first (tree_get nat_cmp first k) (cond (k == row) (Some here) None)) → FirstsAre now (older ++ (row, value) ∷ [])
firsts-more first now older row value here are is put k =
    put k ∙ ap (λ o. or_first o (cond (k == row) (Some here) None)) (are k)
    ∙ ap (λ f. or_first (first_from 0 k older) (cond (k == row) (Some f) None)) (is ∙ ap (λ p. record { place = p; value = value }) from_none)
    ∙ sym (first_from-push 0 k older (row, value))
  where
    from_none : length older ≡ 0 + length older
    from_none = omega arith

-- one entry less
pub firsts-less : (first now : BTreeMap ℕ First) (older : List Older) (e : Older) → FirstsAre first (older ++ e ∷ [])
    → ((k : ℕ) → tree_get nat_cmp now k ≡ cond ((k == e.0) && stands_at (tree_get nat_cmp first k) (length older)) None (tree_get nat_cmp first k)) → FirstsAre now older
firsts-less first now older e are gone k =
    gone k
    ∙ ap (λ o. cond ((k == e.0) && stands_at o (length older)) None o) (are k ∙ first_from-push 0 k older e)
    ∙ less (first_from 0 k older) refl (k == e.0)
  where
    last : Option First
    last = Some (record { place = 0 + length older; value = e.1 })

    less : (o : Option First) → first_from 0 k older ≡ o → (b : Bool) → cond (b && stands_at (or_first o (cond b last None)) (length older)) None (or_first o (cond b last None)) ≡ o
    less None is false = refl
    less None is true = let here : 0 + length older ≡ length older = omega arith in ap (λ t. cond t None last) (eq-eqb (0 + length older) (length older) here)
    less (Some f) is false = refl
    less (Some f) is true = ap (λ t. cond t None (Some f)) (ne_eqb f.place (length older) (λ same. let low = first-within 0 k older f is in absurd (omega arith)))

-- the value that an undo list finds is that of the first place
pub find-first : (n k : ℕ) (older : List Older) → find nat_cmp k older ≡ option_map (λ f. f.value) (first_from n k older)
find-first n k [] = refl
find-first n k (e ∷ es) = ap (λ b. cond b (Some e.1) (find nat_cmp k es)) (unsigned_tied k e.0) ∙ by_test (k == e.0) (find-first (n + 1) k es)
  where
    by_test : (b : Bool) → find nat_cmp k es ≡ option_map (λ f. f.value) (first_from (n + 1) k es) → cond b (Some e.1) (find nat_cmp k es) ≡ option_map (λ f. f.value) (cond b (Some (record { place = n; value = e.1 })) (first_from (n + 1) k es))
    by_test true rest = refl
    by_test false rest = rest
