-- The rule of a cell: one word, one slot, and one history of all calls.
-- The word is twice the length of the history, and one more while a seat has its turn; the slot is then out with that seat.
use Rattle.std.specs.Prelude.{◌≡◌, ◌≢◌, ℕ, ◌+◌, ◌*◌, ◌<◌, ◌≤◌, ◌⊎◌, List, [], ◌∷◌, map, length, Option, Some, None, All, option_map}
use mathlib.Core.Option.{none, some}
use lib.ListN.{get_elem?}
use Rattle.atomic_table.specs.Table.{State}
use Rattle.stx_turn.specs.declared.view.View.{View}
use Rattle.stx_turn.specs.declared.view.Ended.{Ended}
use Rattle.stx_turn.specs.Histories.{made_by, StartsWith}

-- the view of the first seat of a new cell
abbrev pub first_view : {E F : Type 0} → F → View E F
first_view facts = record { number = 0; fixed = Some facts; seen = []; mine = []; turn = None; made = 0; ended = [] }

-- a view that another has taken in
abbrev pub spent : {E F : Type 0} → View E F
spent = record { number = 0; fixed = None; seen = []; mine = []; turn = None; made = 0; ended = [] }

-- the number of a view that isn't spent
abbrev pub live_number : {E F : Type 0} → View E F → Option ℕ
live_number v = option_map (λ facts. v.number) v.fixed

-- no view has a turn, but for the one of the seat `holder`
abbrev pub NoTurnBut : {E F : Type 0} → List (View E F) → (ℕ → Type 0) → Type 0
NoTurnBut {E} {F} views but = (id : ℕ) (v : View E F) → ¬ but id → get_elem? views id ≡ some v → v.turn ≡ None

-- the slot is home with the value of this history, and no view has a turn
pub record IsHome {V E F : Type 0} (fixed : V → F) (entries : V → List E) (facts : F) (log : List E) (word : ℕ) (s : State (Option V) (View E F)) : Type 0 where
  pub word_is : word ≡ 2 * length log
  pub value : V
  pub slot : s.homes ≡ some (Some value) ∷ []
  pub has : fixed value ≡ facts
  pub logs : entries value ≡ log
  pub free : NoTurnBut s.views (λ id. ⊥)

-- the slot is out with the one seat that has its turn
pub record IsOut {V E F : Type 0} (facts : F) (log : List E) (word : ℕ) (s : State (Option V) (View E F)) : Type 0 where
  pub word_is : word ≡ 2 * length log + 1
  pub slot : s.homes ≡ none ∷ []
  pub holder : ℕ
  pub view : View E F
  pub there : get_elem? s.views holder ≡ some view
  pub turn : view.turn ≡ Some log
  pub live : view.fixed ≡ Some facts
  pub others : NoTurnBut s.views (λ id. id ≡ holder)

-- what is true of a view that isn't spent
pub record Knows {E F : Type 0} (maker : E → ℕ) (facts : F) (log : List E) (made : ℕ) (ended : List (Ended E)) (v : View E F) : Type 0 where
  pub same : v.fixed ≡ Some facts
  pub begins : StartsWith log v.seen
  pub own : v.mine ≡ made_by maker v.number log
  pub within : v.number ≤ made
  pub first : v.number ≡ 0 → (v.made ≡ made) × (v.ended ≡ ended) × (v.turn ≡ None)

-- what is true of a seat that was joined in: its own entries are all that the history has of its number
pub record IsEnded {E : Type 0} (maker : E → ℕ) (log : List E) (made : ℕ) (numbers : List (Option ℕ)) (e : Ended E) : Type 0 where
  pub after_first : 0 < e.number
  pub within : e.number ≤ made
  pub own : e.mine ≡ made_by maker e.number log
  pub begins : StartsWith log e.seen
  pub gone : (id : ℕ) → get_elem? numbers id ≢ some (Some e.number)

-- no two views that aren't spent have one number
abbrev pub Apart : List (Option ℕ) → Type 0
Apart numbers = (i j n : ℕ) → get_elem? numbers i ≡ some (Some n) → get_elem? numbers j ≡ some (Some n) → i ≡ j

-- no number was joined in twice
abbrev pub OnceEach : {E : Type 0} → List (Ended E) → Type 0
OnceEach {E} ended = (i j : ℕ) (d e : Ended E) → get_elem? ended i ≡ some d → get_elem? ended j ≡ some e → d.number ≡ e.number → i ≡ j

-- no entry is of the first seat's number, or of one that no seat has
abbrev pub NoOther : {E : Type 0} → (E → ℕ) → ℕ → List E → Type 0
NoOther maker made log = (n : ℕ) → (n ≡ 0) ⊎ (made < n) → made_by maker n log ≡ []

-- what holds between any two steps of a cell with these fixed data
pub record Kept {V E F : Type 0} (fixed : V → F) (entries : V → List E) (maker : E → ℕ) (legal : F → List E → Type 0) (facts : F) (s : State (Option V) (View E F)) : Type 0 where
  pub log : List E
  pub made : ℕ
  pub ended : List (Ended E)
  pub word : ℕ
  pub one_word : s.words ≡ word ∷ []
  pub is_legal : legal facts log
  pub stage : IsHome fixed entries facts log word s ⊎ IsOut facts log word s
  pub each : (id : ℕ) (v : View E F) (f : F) → get_elem? s.views id ≡ some v → v.fixed ≡ Some f → Knows maker facts log made ended v
  pub apart : Apart (map live_number s.views)
  pub gone : All (IsEnded maker log made (map live_number s.views)) ended
  pub once : OnceEach ended
  pub no_other : NoOther maker made log
