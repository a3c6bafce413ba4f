-- Playing on one thread: the turns of a schedule, and then each client to its end, in the order of their numbers.
use Rattle.std.specs.Prelude.{◌≡◌, ℕ, zero, suc, ◌+◌, ◌*◌, List, [], ◌∷◌, ◌++◌, map, length, Option, Some, None}
use Rattle.std.specs.List.{fold, range_with_len}
use Rattle.stx_scenario.specs.declared.scenario.Scenario.{Scenario}
use Rattle.stx_base.specs.declared.call.Want.{Want}
use Rattle.stx_base.specs.declared.history.PoolNote.{PoolNote}
use Rattle.stx_base.specs.declared.history.PoolEntry.{PoolEntry}
use Rattle.stx_base.specs.declared.history.StoreNote.{StoreNote}
use Rattle.stx_base.specs.declared.history.StoreEntry.{StoreEntry}
use Rattle.stx_base.specs.declared.line.Line.{Line}
use Rattle.stx_base.specs.declared.outcome.Outcome.{Outcome}
use Rattle.stx_base.specs.Limits.{notes_a_unit}
use Rattle.stx_base.specs.Histories.{pool_notes_of, store_notes_of}
use Rattle.stx_base.specs.Pools.{pool_reply}
use Rattle.stx_base.specs.Stores.{store_reply, store_facts}
use Rattle.stx_base.specs.Weight.{weight}
use Rattle.stx_model.specs.Meanings.{Result, state_of, stop_of}
use Rattle.stx_model.specs.Script.{script}

-- the histories so far
pub record Turns : Type 0 where
  pub pool : List PoolEntry
  pub store : List StoreEntry

-- how many entries they have together
abbrev pub count_entries : Turns → ℕ
count_entries so_far = length so_far.pool + length so_far.store

abbrev pub no_turns : Turns
no_turns = record { pool = []; store = [] }

-- the script of client c over its own notes so far
abbrev pub script_so_far : Scenario → Turns → ℕ → Result
script_so_far S so_far c = script S c (pool_notes_of so_far.pool c) (store_notes_of so_far.store c)

-- the call that client c wants next
abbrev pub want_so_far : Scenario → Turns → ℕ → Option Want
want_so_far S so_far c = stop_of (script_so_far S so_far c)

-- client c has made all of its calls
abbrev pub IsClientDone : Scenario → Turns → ℕ → Type 0
IsClientDone S so_far c = want_so_far S so_far c ≡ Some Want.Done

abbrev pub with_pool : Turns → ℕ → Option PoolNote → Turns
with_pool so_far c (Some note) = record { pool = so_far.pool ++ record { client = c; note = note } ∷ []; store = so_far.store }
with_pool so_far c None = so_far

abbrev pub with_store : Turns → ℕ → Option StoreNote → Turns
with_store so_far c (Some note) = record { pool = so_far.pool; store = so_far.store ++ record { client = c; note = note } ∷ [] }
with_store so_far c None = so_far

-- the entry with the reply to a want; nothing where the client is done
abbrev pub replied : Scenario → Turns → ℕ → Option Want → Turns
replied S so_far c (Some Want.Take) = with_pool so_far c (pool_reply S.settings.pool so_far.pool Want.Take)
replied S so_far c (Some (Want.Give n)) = with_pool so_far c (pool_reply S.settings.pool so_far.pool (Want.Give n))
replied S so_far c (Some want) = with_store so_far c (store_reply (store_facts S) so_far.store want)
replied S so_far c None = so_far

-- a turn of client c
unfoldable pub turn : Scenario → Turns → ℕ → Turns
turn S so_far c = replied S so_far c (want_so_far S so_far c)

-- so many turns of one client
unfoldable pub turns : Scenario → ℕ → ℕ → Turns → Turns
turns S c zero so_far = so_far
turns S c (suc n) so_far = turns S c n (turn S so_far c)

-- the most shared calls that all clients together make
abbrev pub most_calls : Scenario → ℕ
most_calls S = notes_a_unit * weight S

-- a client to its end: a turn of a client that is done does nothing
abbrev pub run_out : Scenario → Turns → ℕ → Turns
run_out S so_far c = turns S c (most_calls S) so_far

-- the histories of a schedule
abbrev pub played_turns : Scenario → List ℕ → Turns
played_turns S schedule = fold (run_out S) (fold (turn S) no_turns schedule) (range_with_len 0 (length S.clients))

abbrev pub lines_so_far : Scenario → Turns → ℕ → List Line
lines_so_far S so_far c = (state_of (script_so_far S so_far c)).lines

abbrev pub outcome_of : Scenario → Turns → Outcome
outcome_of S so_far = record {
  lines = map (lines_so_far S so_far) (range_with_len 0 (length S.clients));
  pool = so_far.pool;
  store = so_far.store;
}

-- what a schedule plays
unfoldable pub played : Scenario → List ℕ → Outcome
played S schedule = outcome_of S (played_turns S schedule)
