-- A seat of the table as the steps of a turn find it and leave it.
use Rattle.std.specs.Prelude.{◌≡◌, ◌≢◌, ℕ, ◌<◌, ◌^◌, List, [], ◌∷◌, ◌++◌, length, Option, Some, None}
use Rattle.atomic_table.specs.Seated.{TableId}
use Rattle.atomic_table.specs.Table.{Me}
use Rattle.atomic_table.specs.declared.shared.Seat.{Seat as Place}
use Rattle.stx_turn.specs.declared.view.View.{View}
use Rattle.stx_turn.specs.Histories.{made_by}
use Rattle.stx_turn.specs.inner.Steps.{published}

-- the seat of this number at this table
pub record IsSeatOf {S V : Type 0} (cell : TableId) (id : ℕ) (place : Place S V) : Type 0 where
  pub cell_is : place.table_id ≡ cell
  pub id_is : place.id ≡ id

-- a seat of this cell that isn't the first, holds nothing and has no turn
pub record IsAtRest {V E F : Type 0} (cell : TableId) (facts : F) (place : Place (Option V) (View E F)) : Type 0 where
  pub one_word : cell.words ≡ 1
  pub here : place.table_id ≡ cell
  pub live : place.me.0.fixed ≡ Some facts
  pub later : place.me.0.number ≢ 0
  pub free : place.me.0.turn ≡ None
  pub empty : place.me.1 ≡ []

-- a seat of this cell that isn't the first, on its turn: it has taken the value out of the slot
pub record IsOnTurn {V E F : Type 0} (cell : TableId) (facts : F) (place : Place (Option V) (View E F)) : Type 0 where
  pub one_word : cell.words ≡ 1
  pub here : place.table_id ≡ cell
  pub live : place.me.0.fixed ≡ Some facts
  pub later : place.me.0.number ≢ 0
  pub slot : place.me.1 ≡ (0, None) ∷ []

-- the value has one entry more than the history of the turn, and this seat made it
pub record Follows {V E F : Type 0} (entries : V → List E) (maker : E → ℕ) (v : View E F) (value : V) : Type 0 where
  pub log : List E
  pub entry : E
  pub turn : v.turn ≡ Some log
  pub grown : entries value ≡ log ++ entry ∷ []
  pub by : maker entry ≡ v.number

-- a seat of this cell that isn't the first and has won its turn: the slot is out with it, with the value of the history that it has seen
pub record HasTurn {V E F : Type 0} (fixed : V → F) (entries : V → List E) (maker : E → ℕ) (legal : F → List E → Type 0) (cell : TableId) (facts : F) (place : Place (Option V) (View E F)) : Type 0 where
  pub one_word : cell.words ≡ 1
  pub here : place.table_id ≡ cell
  pub live : place.me.0.fixed ≡ Some facts
  pub later : place.me.0.number ≢ 0
  pub value : V
  pub slot : place.me.1 ≡ (0, Some value) ∷ []
  pub has : fixed value ≡ facts
  pub logs : entries value ≡ place.me.0.seen
  pub turn : place.me.0.turn ≡ Some place.me.0.seen
  pub is_legal : legal facts place.me.0.seen
  pub own : place.me.0.mine ≡ made_by maker place.me.0.number place.me.0.seen

-- a call was made on the turn, and its entry ends the history that the seat had seen
pub record IsCalled {E F S C A : Type 0} (maker : E → ℕ) (fits : E → C → A → Type 0) (legal : F → List E → Type 0) (facts : F) (before : Me S (View E F)) (call : C) (answer : A) (after : Me S (View E F)) : Type 0 where
  pub entry : E
  pub seat : after ≡ (published maker (before.0.seen ++ entry ∷ []) before.0, [])
  pub by : maker entry ≡ before.0.number
  pub fit : fits entry call answer
  pub is_legal : legal facts (before.0.seen ++ entry ∷ [])

-- a seat between two calls: it holds nothing, has no turn, and this is its number and how much of the history it has seen
pub record IsIdle {S E F : Type 0} (number count : ℕ) (me : Me S (View E F)) : Type 0 where
  pub number_is : number ≡ me.0.number
  pub count_is : count ≡ length me.0.seen
  pub short : count < 2 ^ 62
  pub free : me.0.turn ≡ None
  pub empty : me.1 ≡ []
