-- A client tied to its seats.
use Rattle.std.specs.Prelude.{◌≡◌, ◌≢◌, ℕ, suc, ◌+◌, ◌-◌, ◌<◌, false, List, [], length, slice_index_or, Option, Some, None}
use Rattle.stx_scenario.specs.declared.memory.NoMemory.{NoMemory}
use Rattle.stx_scenario.specs.declared.scenario.Scenario.{Scenario}
use Rattle.stx_base.specs.declared.call.Want.{Want}
use Rattle.stx_base.specs.declared.line.Line.{Line}
use Rattle.stx_base.specs.Histories.{pool_notes, store_notes}
use Rattle.stx_base.specs.Legal.{PoolLegal, StoreLegal}
use Rattle.stx_base.specs.Limits.{most_clients}
use Rattle.stx_base.specs.Stores.{store_facts}
use Rattle.stx_client.specs.View.{ClientView, script_of, HasReadAll}
use Rattle.stx_model.specs.Meanings.{stop_of}
use Rattle.stx_model.specs.Playable.{IsPlayable}
use Rattle.stx_model.specs.Played.{most_calls}
use Rattle.stx_runner.specs.Driving.{HasSeatsOf, IsPlayed}
use Rattle.stx_shared.specs.declared.asking.Cells.{Cells}
use Rattle.stx_shared.specs.declared.asking.SharedBackend.{SharedBackend}
use Rattle.stx_shared.specs.Asking.{IsAt}
use Rattle.stx_shared.specs.Logs.{pool_maker, store_maker}
use Rattle.stx_turn.specs.Histories.{made_by}

-- these are all entries of this number in a history that the facts allow
pub record AreOwn {E F : Type 0} (maker : E → ℕ) (legal : F → List E → Type 0) (facts : F) (number : ℕ) (mine : List E) : Type 0 where
  pub history : List E
  pub is_legal : legal facts history
  pub own : mine ≡ made_by maker number history

-- ---- a client and its backend

-- the seats are the client's, in cells of its scenario
pub record IsPaired (client : ClientView) (backend : SharedBackend) : Type 0 where
  pub playable : IsPlayable client.scenario
  pub below : client.number < length client.scenario.clients
  pub seats : HasSeatsOf client.number backend
  pub pool : backend.pool.cell.facts ≡ Some client.scenario.settings.pool
  pub store : backend.store.cell.facts ≡ Some (store_facts client.scenario)

-- the client has taken in the notes of its seats' own calls and has read them, and no call is out
pub record IsGoing (client : ClientView) (backend : SharedBackend) : Type 0 where
  pub unfailed : client.failed ≡ false
  pub none_out : client.out ≡ None
  pub pool : client.pool ≡ pool_notes backend.pool.mine
  pub store : client.store ≡ store_notes backend.store.mine
  pub read : HasReadAll client
  pub pool_own : AreOwn pool_maker (PoolLegal most_clients) client.scenario.settings.pool (suc client.number) backend.pool.mine
  pub store_own : AreOwn store_maker (StoreLegal most_clients) (store_facts client.scenario) (suc client.number) backend.store.mine

pub record IsReady (client : ClientView) (backend : SharedBackend) : Type 0 where
  pub paired : IsPaired client backend
  pub going : IsGoing client backend

pub record IsSameClient (before after : ClientView) : Type 0 where
  pub scenario : after.scenario ≡ before.scenario
  pub number : after.number ≡ before.number

abbrev pub count_notes : ClientView → ℕ
count_notes client = length client.pool + length client.store

-- ---- slots

pub record SlotView : Type 0 where
  pub client : ClientView
  pub backend : SharedBackend
  pub calls : ℕ
  pub refused : Option NoMemory

-- what the fields keep
pub record IsTied (client : ClientView) (backend : SharedBackend) (calls : ℕ) (refused : Option NoMemory) : Type 0 where
  pub paired : IsPaired client backend
  pub going : refused ≡ None → IsGoing client backend
  pub counted : refused ≡ None → calls ≡ count_notes client

-- a backend that no call was made through, for a client of this scenario
pub record IsNewSlot (S : Scenario) (backend : SharedBackend) : Type 0 where
  pub playable : IsPlayable S
  pub below : backend.number < length S.clients
  pub seats : HasSeatsOf backend.number backend
  pub pool : backend.pool.cell.facts ≡ Some S.settings.pool
  pub store : backend.store.cell.facts ≡ Some (store_facts S)
  pub pool_mine : backend.pool.mine ≡ []
  pub store_mine : backend.store.mine ≡ []

-- the slot of client c
pub record IsSlot (S : Scenario) (c : ℕ) (slot : SlotView) : Type 0 where
  pub scenario : slot.client.scenario ≡ S
  pub number : slot.client.number ≡ c

-- the slot of client c, with seats in these cells
pub record IsSlotAt (S : Scenario) (cells : Cells) (c : ℕ) (slot : SlotView) : Type 0 where
  pub slot_of : IsSlot S c slot
  pub at : IsAt slot.backend cells

-- one for each client, in the order of their numbers
pub record AreSlots (S : Scenario) (cells : Cells) (slots : List SlotView) : Type 0 where
  pub count : length slots ≡ length S.clients
  pub each : (c : ℕ) (d : SlotView) → c < length slots → IsSlotAt S cells c (slice_index_or slots c d)

-- what work on a slot keeps: the client, and the cells of its seats
pub record Keeps (before after : SlotView) : Type 0 where
  pub client : IsSameClient before.client after.client
  pub pool : after.backend.pool.cell ≡ before.backend.pool.cell
  pub store : after.backend.store.cell ≡ before.backend.store.cell

-- the client is done, or memory ran out
abbrev pub IsOver : SlotView → Type 0
IsOver slot = slot.refused ≡ None → stop_of (script_of slot.client) ≡ Some Want.Done

-- the client wants another call
pub record IsUnderWay (slot : SlotView) : Type 0 where
  pub going : slot.refused ≡ None
  pub more : stop_of (script_of slot.client) ≢ Some Want.Done

-- no more than so many calls are left to make; none once memory ran out
abbrev pub left_unless : Option NoMemory → ℕ → ℕ
left_unless (Some refused) n = 0
left_unless None n = n

abbrev pub calls_left : SlotView → ℕ
calls_left slot = left_unless slot.refused (suc (most_calls slot.client.scenario) - slot.calls)

-- client c has made all of its calls, through seats in these cells
pub record IsPlayedAt (S : Scenario) (cells : Cells) (c : ℕ) (said : List Line) (backend : SharedBackend) : Type 0 where
  pub played : IsPlayed S c said backend
  pub at : IsAt backend cells
