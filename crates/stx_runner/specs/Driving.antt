-- What a run on two cells starts from, and what it leaves.
use Rattle.std.specs.Prelude.{◌≡◌, ℕ, suc, List, [], length, Some, slice_get}
use Rattle.stx_scenario.specs.declared.scenario.Scenario.{Scenario}
use Rattle.stx_base.specs.declared.call.Want.{Want}
use Rattle.stx_base.specs.declared.line.Line.{Line}
use Rattle.stx_base.specs.Histories.{pool_notes, store_notes}
use Rattle.stx_base.specs.Stores.{store_facts}
use Rattle.stx_model.specs.Meanings.{Result, state_of, stop_of}
use Rattle.stx_model.specs.Reads.{ReadsAll}
use Rattle.stx_model.specs.Script.{script}
use Rattle.stx_shared.specs.declared.asking.Cells.{Cells}
use Rattle.stx_shared.specs.declared.asking.SharedBackend.{SharedBackend}
use Rattle.stx_shared.specs.Asking.{IsAt}

-- the cells are those of this scenario's pool and store
pub record AreCellsOf (S : Scenario) (cells : Cells) : Type 0 where
  pub pool : cells.pool.facts ≡ Some S.settings.pool
  pub store : cells.store.facts ≡ Some (store_facts S)

-- both seats are those of client c
pub record HasSeatsOf (c : ℕ) (backend : SharedBackend) : Type 0 where
  pub number : backend.number ≡ c
  pub pool : backend.pool.number ≡ suc c
  pub store : backend.store.number ≡ suc c

-- the backend of client c on these cells, through which no call was made yet
pub record IsFresh (cells : Cells) (c : ℕ) (backend : SharedBackend) : Type 0 where
  pub at : IsAt backend cells
  pub seats : HasSeatsOf c backend
  pub pool : backend.pool.mine ≡ []
  pub store : backend.store.mine ≡ []

-- one for each client, in the order of their numbers
pub record AreFresh (S : Scenario) (cells : Cells) (backends : List SharedBackend) : Type 0 where
  pub count : length backends ≡ length S.clients
  pub each : (c : ℕ) (backend : SharedBackend) → slice_get backends c ≡ Some backend → IsFresh cells c backend

-- the script of client c over the own calls of a backend's two seats
abbrev pub script_by : Scenario → ℕ → SharedBackend → Result
script_by S c backend = script S c (pool_notes backend.pool.mine) (store_notes backend.store.mine)

-- this script is done and has read every note, and its lines are what was said
pub record IsPlayed (S : Scenario) (c : ℕ) (said : List Line) (backend : SharedBackend) : Type 0 where
  pub seats : HasSeatsOf c backend
  pub done : stop_of (script_by S c backend) ≡ Some Want.Done
  pub read : ReadsAll S c (pool_notes backend.pool.mine) (store_notes backend.store.mine)
  pub lines : said ≡ (state_of (script_by S c backend)).lines

-- each client has made all of its calls on these cells and no others, through its own seats, and its lines are those of
-- its script over the answers
pub record IsDriven (S : Scenario) (cells : Cells) (lines : List (List Line)) (backends : List SharedBackend) : Type 0 where
  pub traces : length lines ≡ length S.clients
  pub count : length backends ≡ length S.clients
  pub at : (c : ℕ) (backend : SharedBackend) → slice_get backends c ≡ Some backend → IsAt backend cells
  pub each : (c : ℕ) (said : List Line) (backend : SharedBackend) → slice_get lines c ≡ Some said → slice_get backends c ≡ Some backend → IsPlayed S c said backend
