-- Items with their places, one more at a time.
use Rattle.std.proofs.Common.{◌≡◌, ℕ, ◌+◌, ◌<◌, Bool, cond, List, [], ◌∷◌, ◌++◌, length, take, get_or, filter, ap, ◌∙◌, arith}
use Rattle.std.specs.List.{enumerate_from}
use Rattle.std.proofs.lemmas.List.{take_more, length-take-le}
use Rattle.std.proofs.lemmas.List.Elements.{filter-append}

enumerate_from-append : {X : Type 0} (n : ℕ) (xs ys : List X) → enumerate_from n (xs ++ ys) ≡ enumerate_from n xs ++ enumerate_from (n + length xs) ys
enumerate_from-append n [] ys = ap (λ k. enumerate_from k ys) (omega arith)
enumerate_from-append n (x ∷ xs) ys =
    ap (λ l. (n, x) ∷ l) (enumerate_from-append (n + 1) xs ys ∙ ap (λ k. enumerate_from (n + 1) xs ++ enumerate_from k ys) (omega arith))

pub filter_numbered_more : {X : Type 0} (test : ℕ × X → Bool) (xs : List X) (i : ℕ) (d : X) → i < length xs
    → filter test (enumerate_from 0 (take (i + 1) xs)) ≡ filter test (enumerate_from 0 (take i xs)) ++ cond (test (i, get_or xs i d)) ((i, get_or xs i d) ∷ []) []
filter_numbered_more test xs i d h =
    let place : 0 + length (take i xs) ≡ i = omega (arith, length-take-le i xs (omega (arith, h))) in
    ap (λ l. filter test (enumerate_from 0 l)) (take_more xs i d h)
    ∙ ap (filter test) (enumerate_from-append 0 (take i xs) (get_or xs i d ∷ []))
    ∙ filter-append test (enumerate_from 0 (take i xs)) _
    ∙ ap (λ k. filter test (enumerate_from 0 (take i xs)) ++ filter test (enumerate_from k (get_or xs i d ∷ []))) place
