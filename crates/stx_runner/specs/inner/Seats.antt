-- The first seats of the two cells: how many seats were split off, and which were taken in.
use Rattle.std.specs.Prelude.{◌≡◌, ◌≢◌, ℕ, List, ◌++◌, map}
use Rattle.stx_base.specs.declared.history.PoolEntry.{PoolEntry}
use Rattle.stx_base.specs.declared.history.StoreEntry.{StoreEntry}
use Rattle.stx_runner.specs.declared.running.FirstSeats.{FirstSeats}
use Rattle.stx_shared.specs.declared.asking.Cells.{Cells}
use Rattle.stx_shared.specs.declared.asking.SharedBackend.{SharedBackend}
use Rattle.stx_shared.specs.Asking.{IsAt}
use Rattle.stx_turn.specs.declared.view.Ended.{Ended}
use Rattle.stx_turn.specs.Seats.{SeatView, first_seat, after_split}

-- the first seats of these cells, after so many were split off and before any was taken in
pub record HaveSplit (cells : Cells) (count : ℕ) (first : FirstSeats) : Type 0 where
  pub pool : first.pool ≡ after_split (first_seat cells.pool) count
  pub store : first.store ≡ after_split (first_seat cells.store) count

-- a backend whose seats can be taken in
pub record IsJoinable (cells : Cells) (backend : SharedBackend) : Type 0 where
  pub at : IsAt backend cells
  pub pool : backend.pool.number ≢ 0
  pub store : backend.store.number ≢ 0

-- what a seat knows when it is taken in
abbrev pub ended_of : {E F : Type 0} → SeatView E F → Ended E
ended_of seat = record { number = seat.number; mine = seat.mine; seen = seat.seen }

abbrev pub pool_ended : List SharedBackend → List (Ended PoolEntry)
pool_ended backends = map (λ backend. ended_of backend.pool) backends

abbrev pub store_ended : List SharedBackend → List (Ended StoreEntry)
store_ended backends = map (λ backend. ended_of backend.store) backends

-- a first seat after these were taken in
pub record HasJoined {E F : Type 0} (before : SeatView E F) (ended : List (Ended E)) (after : SeatView E F) : Type 0 where
  pub cell : after.cell ≡ before.cell
  pub number : after.number ≡ before.number
  pub made : after.made ≡ before.made
  pub all : after.ended ≡ before.ended ++ ended

pub record HaveJoined (before : FirstSeats) (backends : List SharedBackend) (after : FirstSeats) : Type 0 where
  pub pool : HasJoined before.pool (pool_ended backends) after.pool
  pub store : HasJoined before.store (store_ended backends) after.store
