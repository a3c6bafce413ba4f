-- Laws of tests on lists: whether some element passes, of a filtered, a mapped and a longer list.
use Rattle.std.proofs.Common.{◌≡◌, ℕ, Bool, true, false, ◌&&◌, ◌||◌, cond, List, [], ◌∷◌, map, refl, ◌∙◌, ⊎_elim, arith, filter}
use Rattle.std.specs.List.{list_any}
use Rattle.std.proofs.lemmas.Bool.{or_cases, or_left, or_right}
use Rattle.stx_base.specs.Pools.{contains}
use Rattle.stx_base.proofs.HistoryLaws.{contains-filter as contains_filtered}

pub any-filter : {X : Type 0} (p q : X → Bool) (xs : List X) → list_any q (filter p xs) ≡ list_any (λ x. p x && q x) xs
any-filter p q [] = refl
any-filter p q (x ∷ xs) = step (p x) (any-filter p q xs)
  where
    step :
        (b : Bool) → list_any q (filter p xs) ≡ list_any (λ y. p y && q y) xs
        → list_any q (cond b (x ∷ filter p xs) (filter p xs)) ≡ ((b && q x) || list_any (λ y. p y && q y) xs)
    step true h = rw h
    step false h = h

pub any-map : {X Y : Type 0} (p : Y → Bool) (f : X → Y) (xs : List X) → list_any p (map f xs) ≡ list_any (λ x. p (f x)) xs
any-map p f [] = refl
any-map p f (x ∷ xs) = rw (any-map p f xs)

pub any-same : {X : Type 0} (p q : X → Bool) → ((x : X) → p x ≡ q x) → (xs : List X) → list_any p xs ≡ list_any q xs
any-same p q same [] = refl
any-same p q same (x ∷ xs) = rw (same x, any-same p q same xs)

pub any_since :
    {X : Type 0} (p q : X → Bool) → ((x : X) → p x ≡ true → q x ≡ true) → (xs : List X) → list_any p xs ≡ true → list_any q xs ≡ true
any_since p q since [] h = h
any_since p q since (x ∷ xs) h =
    ⊎_elim (λ here. or_left _ _ (since x here)) (λ later. or_right _ _ (any_since p q since xs later)) (or_cases _ _ h)

pub contains-filter : (p : ℕ → Bool) (xs : List ℕ) (t : ℕ) → contains (filter p xs) t ≡ (p t && contains xs t)
contains-filter p xs t = contains_filtered p xs t ∙ grind arith
