-- Lists of entries: whose they are, and how one begins another.
use Rattle.std.specs.Prelude.{◌≡◌, ◌==◌, ℕ, List, ◌++◌, filter}

-- the entries of a history that this number made, in their order
abbrev pub made_by : {E : Type 0} → (E → ℕ) → ℕ → List E → List E
made_by maker number history = filter (λ entry. maker entry == number) history

-- the history begins with what was seen
abbrev pub StartsWith : {E : Type 0} → List E → List E → Type 0
StartsWith {E} history seen = (rest : List E) × (history ≡ seen ++ rest)
