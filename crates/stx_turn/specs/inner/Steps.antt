-- What each kind of step leaves of a seat's view, and what it tells.
use Rattle.std.specs.Prelude.{◌≡◌, ◌≢◌, ℕ, ◌+◌, ◌*◌, ◌^◌, ◌<◌, List, [], ◌∷◌, ◌++◌, length, Option, Some, None, if◌then◌else◌, nat_lt}
use Rattle.atomic_table.specs.Table.{Step, Me, rest}
use Rattle.stx_turn.specs.declared.view.View.{View}
use Rattle.stx_turn.specs.Histories.{made_by, StartsWith}

-- the longer of two beginnings of one history
abbrev pub longer : {E : Type 0} → List E → List E → List E
longer xs ys = if nat_lt (length xs) (length ys) then ys else xs

module _ {E F : Type 0} where
  -- the seat has won its turn at this history, and has seen all of it
  abbrev pub winning : List E → View E F → View E F
  winning log v = record v { seen = log; turn = Some log }

  -- the seat has given the value back with this history, which its own call ends
  abbrev pub published : (E → ℕ) → List E → View E F → View E F
  published maker history v = record v { seen = history; mine = made_by maker v.number history; turn = None }

  -- the seat has given the value back as it was
  abbrev pub leaving : View E F → View E F
  leaving v = record v { turn = None }

  -- the first seat, after one more seat was split off
  abbrev pub counting : View E F → View E F
  counting v = record v { made = v.made + 1 }

  -- the seat that the first seat splits off
  abbrev pub newcomer : View E F → View E F
  newcomer v = record { number = v.made + 1; fixed = v.fixed; seen = v.seen; mine = []; turn = None; made = 0; ended = [] }

  -- the first seat, after another was joined in
  abbrev pub joined : View E F → View E F → View E F
  joined v w = record v { seen = longer v.seen w.seen; ended = v.ended ++ record { number = w.number; mine = w.mine; seen = w.seen } ∷ [] }

-- a turn that was won: the slot is out with the seat, with the value of the whole history
pub record IsWon {V E F : Type 0} (fixed : V → F) (entries : V → List E) (maker : E → ℕ) (legal : F → List E → Type 0) (before : Me (Option V) (View E F)) (found : ℕ) (after : Me (Option V) (View E F)) : Type 0 where
  pub value : V
  pub seat : after ≡ (winning (entries value) before.0, (0, Some value) ∷ before.1)
  pub count : found ≡ 2 * length (entries value)
  pub has : before.0.fixed ≡ Some (fixed value)
  pub is_legal : legal (fixed value) (entries value)
  pub begins : StartsWith (entries value) before.0.seen
  pub own : before.0.mine ≡ made_by maker before.0.number (entries value)

-- the turn is won exactly where the word was as expected, and else nothing changes
abbrev pub Wins : {V E F : Type 0} → (V → F) → (V → List E) → (E → ℕ) → (F → List E → Type 0) → Step (Option V) → Me (Option V) (View E F) → ℕ → Me (Option V) (View E F) → Type 0
Wins fixed entries maker legal step before found after =
    (found < 2 ^ 63)
    × (found ≡ step.first → IsWon fixed entries maker legal before found after)
    × (found ≢ step.first → after ≡ before)

-- the value is given back with its new entry
abbrev pub Publishes : {V E F : Type 0} → (V → List E) → (E → ℕ) → Step (Option V) → Me (Option V) (View E F) → ℕ → Me (Option V) (View E F) → Type 0
Publishes {V} entries maker step before found after =
    (value : V) → before.1 ≡ (0, Some value) ∷ [] → after ≡ (published maker (entries value) before.0, [])

-- the value is given back as it was
abbrev pub Leaves : {V E F : Type 0} → Step (Option V) → Me (Option V) (View E F) → ℕ → Me (Option V) (View E F) → Type 0
Leaves step before found after = after ≡ (leaving before.0, rest before.1)
