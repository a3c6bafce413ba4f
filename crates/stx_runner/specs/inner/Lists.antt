-- Lists whose items are numbered from some number on.
use Rattle.std.specs.Prelude.{ℕ, suc, List, [], ◌∷◌, ⊤}

-- each item is as its number wants it
abbrev pub EachFrom : {X : Type 0} → (ℕ → X → Type 0) → ℕ → List X → Type 0
EachFrom P n [] = ⊤
EachFrom P n (x ∷ xs) = P n x × EachFrom P (suc n) xs

-- the same of the items of two lists, which are as long
abbrev pub BothFrom : {X Y : Type 0} → (ℕ → X → Y → Type 0) → ℕ → List X → List Y → Type 0
BothFrom P n [] [] = ⊤
BothFrom P n (x ∷ xs) (y ∷ ys) = P n x y × BothFrom P (suc n) xs ys
BothFrom P n _ _ = ⊥
