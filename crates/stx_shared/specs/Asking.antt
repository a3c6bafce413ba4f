-- A client's seats, and what a call through them leaves.
use Rattle.std.specs.Prelude.{◌≡◌}
use Rattle.stx_base.specs.declared.call.Call.{Call}
use Rattle.stx_base.specs.declared.call.Reply.{Reply}
use Rattle.stx_base.specs.Legal.{PoolLegal, StoreLegal}
use Rattle.stx_base.specs.Limits.{most_clients}
use Rattle.stx_base.specs.Notes.{pool_call_is_sure, store_call_is_sure}
use Rattle.stx_shared.specs.declared.asking.Cells.{Cells}
use Rattle.stx_shared.specs.declared.asking.SharedBackend.{SharedBackend}
use Rattle.stx_shared.specs.Logs.{pool_maker, store_maker, NotesPoolCall, NotesStoreCall, IsPoolCallProper, IsStoreCallProper}
use Rattle.stx_turn.specs.Seats.{IsSameSeat, Added, NotMade}

-- both seats are seats of these cells
pub record IsAt (backend : SharedBackend) (cells : Cells) : Type 0 where
  pub pool : backend.pool.cell ≡ cells.pool
  pub store : backend.store.cell ≡ cells.store

-- the call is proper after the own calls of the seat that it uses
abbrev pub IsProperCall : SharedBackend → Call → Type 0
IsProperCall backend (Call.Pool call) = IsPoolCallProper backend.pool.number backend.pool.mine call
IsProperCall backend (Call.Store call) = IsStoreCallProper backend.store.number backend.store.mine call

-- the same client, with the same seats of the same cells
pub record IsSameBackend (before after : SharedBackend) : Type 0 where
  pub number : after.number ≡ before.number
  pub pool : IsSameSeat before.pool after.pool
  pub store : IsSameSeat before.store after.store

-- the call was made in one step of the cell that it is for: that seat has one entry more, the reply is its answer, and
-- the other seat is as it was
abbrev pub Asked : SharedBackend → Call → Reply → SharedBackend → Type 0
Asked before (Call.Pool call) (Reply.Pool answer) after =
    Added pool_maker NotesPoolCall (PoolLegal most_clients) before.pool call answer after.pool × (after.store ≡ before.store)
Asked before (Call.Store call) (Reply.Store answer) after =
    Added store_maker NotesStoreCall (StoreLegal most_clients) before.store call answer after.store × (after.pool ≡ before.pool)
Asked _ _ _ _ = ⊥

-- the call wasn't made: the seats have no entry more, and it wasn't one that is sure
abbrev pub NotAsked : SharedBackend → Call → SharedBackend → Type 0
NotAsked before (Call.Pool call) after = NotMade pool_call_is_sure before.pool call after.pool × (after.store ≡ before.store)
NotAsked before (Call.Store call) after = NotMade store_call_is_sure before.store call after.store × (after.pool ≡ before.pool)
