-- The parts of a play, one call, one turn, and what the fields keep true.
use Rattle.std.specs.Prelude.{◌≡◌, ℕ, ◌+◌, ◌<◌, ◌≤◌, Bool, false, List, [], length, map, Some, None, IsTrue}
use Rattle.std.specs.List.{range_with_len, All}
use Rattle.stx_scenario.specs.declared.scenario.Scenario.{Scenario}
use Rattle.stx_base.specs.declared.call.Want.{Want}
use Rattle.stx_base.specs.declared.call.Call.{Call}
use Rattle.stx_base.specs.declared.call.Reply.{Reply}
use Rattle.stx_base.specs.Histories.{pool_notes_of, store_notes_of}
use Rattle.stx_base.specs.Legal.{PoolLegal, StoreLegal}
use Rattle.stx_model.specs.Playable.{IsPlayable}
use Rattle.stx_model.specs.Reads.{ReadsAll}
pub use Rattle.stx_model.specs.Played.{count_entries}
use Rattle.stx_model.specs.Played.{Turns, turn, most_calls}
use Rattle.stx_model.specs.Meanings.{stop_of}
use Rattle.stx_base.specs.Notes.{pool_call_want, store_call_want}
use Rattle.stx_base.specs.Pools.{pool_proper}
use Rattle.stx_base.specs.Stores.{store_proper, store_facts}
use Rattle.stx_client.specs.View.{ClientView, script_of, has_told}
use Rattle.stx_pool.specs.Pool.{Pool, PoolCallAnswered}
use Rattle.stx_store.specs.Store.{Store, StoreCallAnswered}
use Rattle.stx_play.specs.Play.{PlayView}

-- the histories have one entry more, and are still within what the scenario's weight allows
pub record HasOneMore (old new : PlayView) : Type 0 where
  pub one_more : count_entries new.so_far ≡ count_entries old.so_far + 1
  pub within : count_entries new.so_far ≤ most_calls old.scenario

-- ---- its parts

-- the histories of a pool and a store
abbrev pub turns_of : Pool → Store → Turns
turns_of pool store = record { pool = pool.entries; store = store.entries }

-- a client that has taken in its own notes and said their lines, with no call out
abbrev pub client_so_far : Scenario → Turns → ℕ → ClientView
client_so_far S so_far c = has_told (record {
  scenario = S;
  number = c;
  pool = pool_notes_of so_far.pool c;
  store = store_notes_of so_far.store c;
  out = None;
  failed = false;
  said = [];
})

-- pool and store are those of the scenario, with legal histories
pub record AreCores (S : Scenario) (pool : Pool) (store : Store) : Type 0 where
  pub size : pool.size ≡ S.settings.pool
  pub facts : store.facts ≡ store_facts S
  pub pool_legal : PoolLegal (length S.clients) S.settings.pool pool.entries
  pub store_legal : StoreLegal (length S.clients) (store_facts S) store.entries

abbrev pub HasRead : Scenario → Turns → ℕ → Type 0
HasRead S so_far c = ReadsAll S c (pool_notes_of so_far.pool c) (store_notes_of so_far.store c)

-- and each client has taken in just its own notes, and read them
pub record IsGoing (S : Scenario) (pool : Pool) (store : Store) (views : List ClientView) : Type 0 where
  pub cores : AreCores S pool store
  pub clients : views ≡ map (client_so_far S (turns_of pool store)) (range_with_len 0 (length S.clients))
  pub reads : (c : ℕ) → c < length S.clients → HasRead S (turns_of pool store) c

-- what the fields keep
pub record KeepsPlay (S : Scenario) (failed : Bool) (pool : Pool) (store : Store) (views : List ClientView) : Type 0 where
  pub playable : IsPlayable S
  pub going : failed ≡ false → IsGoing S pool store views

-- ---- a call

-- the call is proper after its client's own entries
abbrev pub IsCallProper : Pool → Store → ℕ → Call → Type 0
IsCallProper pool store c (Call.Pool call) = IsTrue (pool_proper (pool_notes_of pool.entries c) (pool_call_want call))
IsCallProper pool store c (Call.Store call) = IsTrue (store_proper (store_notes_of store.entries c) (store_call_want call))

-- the pool or the store has answered it, and the other is as it was
abbrev pub IsCallAnswered : Pool → Store → Pool → Store → ℕ → Call → Reply → Type 0
IsCallAnswered pool store new_pool new_store c (Call.Pool call) (Reply.Pool answer) = PoolCallAnswered pool new_pool c call answer × (new_store ≡ store)
IsCallAnswered pool store new_pool new_store c (Call.Store call) (Reply.Store answer) = StoreCallAnswered store new_store c call answer × (new_pool ≡ pool)
IsCallAnswered _ _ _ _ _ _ _ = ⊥

-- ---- a turn

-- before it: the client of this number has taken in just its own notes, and has read them
pub record IsReady (S : Scenario) (client : ClientView) (c : ℕ) (pool : Pool) (store : Store) : Type 0 where
  pub playable : IsPlayable S
  pub below : c < length S.clients
  pub cores : AreCores S pool store
  pub own : client ≡ client_so_far S (turns_of pool store) c
  pub read : HasRead S (turns_of pool store) c

-- after it: the histories have gained the reply to what the client wanted, and it has taken that in
pub record HasTurned (S : Scenario) (c : ℕ) (pool : Pool) (store : Store) (new_pool : Pool) (new_store : Store) (client : ClientView) : Type 0 where
  pub turned : turns_of new_pool new_store ≡ turn S (turns_of pool store) c
  pub cores : AreCores S new_pool new_store
  pub own : client ≡ client_so_far S (turns_of new_pool new_store) c
  pub read : HasRead S (turns_of new_pool new_store) c
  pub one_more : length new_pool.entries + length new_store.entries ≡ length pool.entries + length store.entries + 1
  pub others : (d : ℕ) → (d ≡ c → ⊥) → client_so_far S (turns_of new_pool new_store) d ≡ client_so_far S (turns_of pool store) d

-- each client below this count has read all of no notes
abbrev pub HaveReadNothing : Scenario → ℕ → Type 0
HaveReadNothing S count = (c : ℕ) → c < count → ReadsAll S c [] []

-- ---- the end

-- a client has made all of its calls
abbrev pub HasEnded : ClientView → Type 0
HasEnded client = (client.failed ≡ false) × (stop_of (script_of client) ≡ Some Want.Done)

abbrev pub EachEnded : List ClientView → Type 0
EachEnded views = All HasEnded views
