-- A pool as contracts see it, and what a call that it answers leaves.
use Rattle.std.specs.Prelude.{◌≡◌, ℕ, List, [], ◌∷◌, ◌++◌, Some}
use Rattle.stx_base.specs.declared.call.Want.{Want}
use Rattle.stx_base.specs.declared.call.PoolCall.{PoolCall}
use Rattle.stx_base.specs.declared.call.PoolAnswer.{PoolAnswer}
use Rattle.stx_base.specs.declared.history.PoolNote.{PoolNote}
use Rattle.stx_base.specs.declared.history.PoolEntry.{PoolEntry}
use Rattle.stx_base.specs.Notes.{pool_call_want, pool_note}
use Rattle.stx_base.specs.Pools.{pool_reply}

-- a pool of the connections 1 to `size`, with its history
pub record Pool : Type 0 where
  pub size : ℕ
  pub entries : List PoolEntry

-- a pool that no call was made on
abbrev pub new_pool : ℕ → Pool
new_pool size = record { size = size; entries = [] }

-- the pool after one entry more
abbrev pub with_pool_entry : Pool → ℕ → PoolNote → Pool
with_pool_entry pool client note = record { size = pool.size; entries = pool.entries ++ record { client = client; note = note } ∷ [] }

-- the note is the reply to the client's call, and the pool has kept it
pub record PoolReplies (old new : Pool) (client : ℕ) (want : Want) (note : PoolNote) : Type 0 where
  pub reply : pool_reply old.size old.entries want ≡ Some note
  pub kept : new ≡ with_pool_entry old client note

-- the answer and the call together are the note that the pool replies, and the pool has kept it
pub record PoolCallAnswered (old new : Pool) (client : ℕ) (call : PoolCall) (answer : PoolAnswer) : Type 0 where
  pub note : PoolNote
  pub made : pool_note (pool_call_want call) answer ≡ Some note
  pub replies : PoolReplies old new client (pool_call_want call) note
