-- What the histories of the pool and the store are to a turn cell: who made an entry, which call it notes, and which calls
-- are proper. Client c has the seat c + 1.
use Rattle.std.specs.Prelude.{◌≡◌, ℕ, suc, ◌<◌, Bool, List, Some, IsTrue}
use Rattle.stx_base.specs.declared.call.PoolAnswer.{PoolAnswer}
use Rattle.stx_base.specs.declared.call.PoolCall.{PoolCall}
use Rattle.stx_base.specs.declared.call.Reply.{Reply}
use Rattle.stx_base.specs.declared.call.StoreAnswer.{StoreAnswer}
use Rattle.stx_base.specs.declared.call.StoreCall.{StoreCall}
use Rattle.stx_base.specs.declared.history.PoolEntry.{PoolEntry}
use Rattle.stx_base.specs.declared.history.StoreEntry.{StoreEntry}
use Rattle.stx_base.specs.Histories.{pool_notes, store_notes}
use Rattle.stx_base.specs.Limits.{most_clients}
use Rattle.stx_base.specs.Notes.{pool_call_want, store_call_want, pool_note, store_note, is_reply_to}
use Rattle.stx_base.specs.Pools.{pool_proper}
use Rattle.stx_base.specs.Stores.{store_proper}

-- the number of the seat that made an entry
abbrev pub pool_maker : PoolEntry → ℕ
pool_maker entry = suc entry.client

abbrev pub store_maker : StoreEntry → ℕ
store_maker entry = suc entry.client

-- the entry notes this call with this answer, which is one to such a call
pub record NotesPoolCall (entry : PoolEntry) (call : PoolCall) (answer : PoolAnswer) : Type 0 where
  pub note : pool_note (pool_call_want call) answer ≡ Some entry.note
  pub suits : IsTrue (is_reply_to (pool_call_want call) (Reply.Pool answer))

pub record NotesStoreCall (entry : StoreEntry) (call : StoreCall) (answer : StoreAnswer) : Type 0 where
  pub note : store_note (store_call_want call) answer ≡ Some entry.note
  pub suits : IsTrue (is_reply_to (store_call_want call) (Reply.Store answer))

-- the seat is the client's, and its call is proper
pub record IsSeatCall (who : ℕ) (is_proper : Bool) : Type 0 where
  pub client : ℕ
  pub who_is : who ≡ suc client
  pub below : client < most_clients
  pub proper : IsTrue is_proper

-- the call is proper for the client of this seat, after the entries that it made
abbrev pub IsPoolCallProper : ℕ → List PoolEntry → PoolCall → Type 0
IsPoolCallProper who mine call = IsSeatCall who (pool_proper (pool_notes mine) (pool_call_want call))

abbrev pub IsStoreCallProper : ℕ → List StoreEntry → StoreCall → Type 0
IsStoreCallProper who mine call = IsSeatCall who (store_proper (store_notes mine) (store_call_want call))
