-- Lists whose items are numbered: longer by one, and at a place.
use Rattle.std.proofs.Common.{◌≡◌, ℕ, zero, suc, ◌+◌, ◌<◌, List, [], ◌∷◌, ◌++◌, length, get_or, Some, refl, sym, ap, subst, arith}
use Rattle.std.specs.Prelude.{slice_get}
use Rattle.stx_runner.specs.inner.Lists.{EachFrom, BothFrom}

none_more : (n : ℕ) → n + 0 ≡ n
none_more n = omega arith

one_more : (n c : ℕ) → n + suc c ≡ suc n + c
one_more n c = omega arith

from_none : (c : ℕ) → 0 + c ≡ c
from_none c = omega arith

module _ {X : Type 0} (P : ℕ → X → Type 0) where
  push_from : (n : ℕ) (xs : List X) (x : X) → EachFrom P n xs → P (n + length xs) x → EachFrom P n (xs ++ x ∷ [])
  push_from n [] x all last = (subst (λ k. P k x) (none_more n) last, tt)
  push_from n (y ∷ ys) x all last = (all.0, push_from (suc n) ys x all.1 (subst (λ k. P k x) (one_more n (length ys)) last))

  index_from : (n : ℕ) (xs : List X) (c : ℕ) (d : X) → EachFrom P n xs → c < length xs → P (n + c) (get_or xs c d)
  index_from n [] c d all inside = absurd (omega (arith, inside))
  index_from n (x ∷ xs) zero d all inside = subst (λ k. P k x) (sym (none_more n)) all.0
  index_from n (x ∷ xs) (suc c) d all inside = subst (λ k. P k (get_or xs c d)) (sym (one_more n c)) (index_from (suc n) xs c d all.1 (omega (arith, inside)))

  from_index : (n : ℕ) (xs : List X) → ((c : ℕ) (d : X) → c < length xs → P (n + c) (get_or xs c d)) → EachFrom P n xs
  from_index n [] each = tt
  from_index n (x ∷ xs) each = (
    subst (λ k. P k x) (none_more n) (each 0 x (omega arith)),
    from_index (suc n) xs (λ c d inside. subst (λ k. P k (get_or xs c d)) (one_more n c) (each (suc c) d (omega (arith, inside)))),
  )

  place_from : (n : ℕ) (xs : List X) (c : ℕ) (x : X) → EachFrom P n xs → slice_get xs c ≡ Some x → P (n + c) x
  place_from n [] c x all is = cc
  place_from n (y ∷ ys) zero x all is =
      let same : y ≡ x = cc in
      subst (P (n + 0)) same (subst (λ k. P k y) (sym (none_more n)) all.0)
  place_from n (y ∷ ys) (suc c) x all is = subst (λ k. P k x) (sym (one_more n c)) (place_from (suc n) ys c x all.1 is)

  from_place : (n : ℕ) (xs : List X) → ((c : ℕ) (x : X) → slice_get xs c ≡ Some x → P (n + c) x) → EachFrom P n xs
  from_place n [] each = tt
  from_place n (x ∷ xs) each = (
    subst (λ k. P k x) (none_more n) (each 0 x refl),
    from_place (suc n) xs (λ c y is. subst (λ k. P k y) (one_more n c) (each (suc c) y is)),
  )

  pub each_push : (xs : List X) (x : X) → EachFrom P 0 xs → P (length xs) x → EachFrom P 0 (xs ++ x ∷ [])
  each_push xs x all last = push_from 0 xs x all (subst (λ k. P k x) (sym (from_none (length xs))) last)

  pub each_index : (xs : List X) → EachFrom P 0 xs → (c : ℕ) (d : X) → c < length xs → P c (get_or xs c d)
  each_index xs all c d inside = subst (λ k. P k (get_or xs c d)) (from_none c) (index_from 0 xs c d all inside)

  pub each_from_index : (xs : List X) → ((c : ℕ) (d : X) → c < length xs → P c (get_or xs c d)) → EachFrom P 0 xs
  each_from_index xs each = from_index 0 xs (λ c d inside. subst (λ k. P k (get_or xs c d)) (sym (from_none c)) (each c d inside))

  pub each_place : (xs : List X) → EachFrom P 0 xs → (c : ℕ) (x : X) → slice_get xs c ≡ Some x → P c x
  each_place xs all c x is = subst (λ k. P k x) (from_none c) (place_from 0 xs c x all is)

  pub each_from_place : (xs : List X) → ((c : ℕ) (x : X) → slice_get xs c ≡ Some x → P c x) → EachFrom P 0 xs
  each_from_place xs each = from_place 0 xs (λ c x is. subst (λ k. P k x) (sym (from_none c)) (each c x is))

module _ {X Y : Type 0} (P : ℕ → X → Y → Type 0) where
  both_push_from : (n : ℕ) (xs : List X) (ys : List Y) (x : X) (y : Y) → BothFrom P n xs ys → P (n + length xs) x y → BothFrom P n (xs ++ x ∷ []) (ys ++ y ∷ [])
  both_push_from n [] [] x y all last = (subst (λ k. P k x y) (none_more n) last, tt)
  both_push_from n (v ∷ vs) (w ∷ ws) x y all last = (all.0, both_push_from (suc n) vs ws x y all.1 (subst (λ k. P k x y) (one_more n (length vs)) last))
  both_push_from n [] (w ∷ ws) x y all last = elim all [ ]
  both_push_from n (v ∷ vs) [] x y all last = elim all [ ]

  both_place_from : (n : ℕ) (xs : List X) (ys : List Y) (c : ℕ) (x : X) (y : Y) → BothFrom P n xs ys → slice_get xs c ≡ Some x → slice_get ys c ≡ Some y → P (n + c) x y
  both_place_from n [] ys c x y all is at = cc
  both_place_from n (v ∷ vs) [] c x y all is at = cc
  both_place_from n (v ∷ vs) (w ∷ ws) zero x y all is at =
      let same : v ≡ x = cc in
      let also : w ≡ y = cc in
      subst (λ k. P k x y) (sym (none_more n)) (subst (λ u. P n u y) same (subst (P n v) also all.0))
  both_place_from n (v ∷ vs) (w ∷ ws) (suc c) x y all is at = subst (λ k. P k x y) (sym (one_more n c)) (both_place_from (suc n) vs ws c x y all.1 is at)

  both_length_from : (n : ℕ) (xs : List X) (ys : List Y) → BothFrom P n xs ys → length xs ≡ length ys
  both_length_from n [] [] all = refl
  both_length_from n (v ∷ vs) (w ∷ ws) all = ap suc (both_length_from (suc n) vs ws all.1)
  both_length_from n [] (w ∷ ws) all = elim all [ ]
  both_length_from n (v ∷ vs) [] all = elim all [ ]

  pub both_push : (xs : List X) (ys : List Y) (x : X) (y : Y) → BothFrom P 0 xs ys → P (length xs) x y → BothFrom P 0 (xs ++ x ∷ []) (ys ++ y ∷ [])
  both_push xs ys x y all last = both_push_from 0 xs ys x y all (subst (λ k. P k x y) (sym (from_none (length xs))) last)

  pub both_place : (xs : List X) (ys : List Y) → BothFrom P 0 xs ys → (c : ℕ) (x : X) (y : Y) → slice_get xs c ≡ Some x → slice_get ys c ≡ Some y → P c x y
  both_place xs ys all c x y is at = subst (λ k. P k x y) (from_none c) (both_place_from 0 xs ys c x y all is at)

  pub both_length : (xs : List X) (ys : List Y) → BothFrom P 0 xs ys → length xs ≡ length ys
  both_length xs ys all = both_length_from 0 xs ys all
