-- What a vector has after a call that was lent a slice of all of it.
use Rattle.std.proofs.Common.{◌≡◌, ℕ, ◌≤◌, List, ◌++◌, length, take, drop, ◌∙◌, arith}
use Rattle.std.proofs.lemmas.List.{take_all, take-append-le}

pub whole-write : {X : Type 0} (now was : List X) (n : ℕ) → length now ≡ n → take n (now ++ drop (length now) was) ≡ now
whole-write now was n long =
    let within : n ≤ length now = omega (arith, long) in
    let all : length now ≤ n = omega (arith, long) in
    take-append-le n now (drop (length now) was) within ∙ take_all n now all
