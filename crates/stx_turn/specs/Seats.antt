-- A cell and its seats as callers see them, and what the calls of the cell promise.
use Rattle.std.specs.Prelude.{◌≡◌, ℕ, ◌<◌, ◌≤◌, List, [], ◌∷◌, ◌++◌, Option, Some, Bool, false, All, Any}
use Rattle.stx_turn.specs.declared.view.View.{View}
use Rattle.stx_turn.specs.Histories.{made_by, StartsWith}
use Rattle.stx_turn.specs.inner.Rule.{NoOther}
use Rattle.stx_turn.specs.inner.Steps.{longer}
pub use Rattle.atomic_table.specs.Seated.{TableId}
pub use Rattle.stx_turn.specs.declared.view.Ended.{Ended}

-- a cell: which one it is, and its value's fixed data
pub record CellView (F : Type 0) : Type 0 where
  pub id : TableId
  pub facts : Option F

-- a seat: its cell, its number, the history as far as it has seen it, and its own entries; of the first seat also how many were split off, and those that were joined in
pub record SeatView (E F : Type 0) : Type 0 where
  pub cell : CellView F
  pub number : ℕ
  pub seen : List E
  pub mine : List E
  pub made : ℕ
  pub ended : List (Ended E)

-- a seat of this table, by what the rule knows of it
abbrev pub seat_view : {E F : Type 0} → TableId → View E F → SeatView E F
seat_view id v = record { cell = record { id = id; facts = v.fixed }; number = v.number; seen = v.seen; mine = v.mine; made = v.made; ended = v.ended }

-- the first seat of a new cell
abbrev pub first_seat : {E F : Type 0} → CellView F → SeatView E F
first_seat cell = record { cell = cell; number = 0; seen = []; mine = []; made = 0; ended = [] }

-- a new seat of this number, which has seen what the first seat had
abbrev pub new_seat : {E F : Type 0} → SeatView E F → ℕ → SeatView E F
new_seat first number = record { cell = first.cell; number = number; seen = first.seen; mine = []; made = 0; ended = [] }

-- the first seat, after the seats up to this number were split off
abbrev pub after_split : {E F : Type 0} → SeatView E F → ℕ → SeatView E F
after_split first number = record first { made = number }

-- the first seat, after another was joined in
abbrev pub after_join : {E F : Type 0} → SeatView E F → SeatView E F → SeatView E F
after_join first seat = record first { seen = longer first.seen seat.seen; ended = first.ended ++ record { number = seat.number; mine = seat.mine; seen = seat.seen } ∷ [] }

-- the same seat of the same cell
pub record IsSameSeat {E F : Type 0} (before after : SeatView E F) : Type 0 where
  pub cell : after.cell ≡ before.cell
  pub number : after.number ≡ before.number
  pub made : after.made ≡ before.made
  pub ended : after.ended ≡ before.ended

-- the seat made one call. The history up to its entry is legal for the cell's data, begins with all that the seat had seen and ends with the entry;
-- the seat's own entries gained it once, and are all that this history has of its number
pub record Added {E F C A : Type 0} (maker : E → ℕ) (fits : E → C → A → Type 0) (legal : F → List E → Type 0) (before : SeatView E F) (call : C) (answer : A) (after : SeatView E F) : Type 0 where
  pub between : List E
  pub entry : E
  pub facts : F
  pub history : after.seen ≡ (before.seen ++ between) ++ entry ∷ []
  pub has : before.cell.facts ≡ Some facts
  pub is_legal : legal facts after.seen
  pub by : maker entry ≡ before.number
  pub fit : fits entry call answer
  pub gained : after.mine ≡ before.mine ++ entry ∷ []
  pub own : after.mine ≡ made_by maker before.number after.seen

-- the call wasn't made: the seat's own entries stay, and it may have seen more of the history
pub record NotMade {E F C : Type 0} (sure : C → Bool) (before : SeatView E F) (call : C) (after : SeatView E F) : Type 0 where
  pub mine : after.mine ≡ before.mine
  pub seen : StartsWith after.seen before.seen
  pub unsure : sure call ≡ false

-- each seat that was split off was joined in
abbrev pub AllJoined : {E F : Type 0} → SeatView E F → Type 0
AllJoined first = (n : ℕ) → 0 < n → n ≤ first.made → Any (λ e. e.number ≡ n) first.ended

-- what a seat that was joined in knew of this history: its own entries are all those of its number, and it had seen a beginning
pub record Knew {E : Type 0} (maker : E → ℕ) (history : List E) (e : Ended E) : Type 0 where
  pub own : e.mine ≡ made_by maker e.number history
  pub begins : StartsWith history e.seen

-- the value at the end has the cell's fixed data. Its entries are legal for them, begin with all that was seen,
-- are of each number the own entries of that number's seat, and have no other number
pub record IsWhole {V E F : Type 0} (fixed : V → F) (entries : V → List E) (maker : E → ℕ) (legal : F → List E → Type 0) (first : SeatView E F) (value : V) : Type 0 where
  pub same : first.cell.facts ≡ Some (fixed value)
  pub is_legal : legal (fixed value) (entries value)
  pub begins : StartsWith (entries value) first.seen
  pub own : All (Knew maker (entries value)) first.ended
  pub no_other : NoOther maker first.made (entries value)
