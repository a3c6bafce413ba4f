-- The calls that a script wants are proper, kind by kind, where it has read all of its notes.
use Rattle.std.proofs.Common.{◌≡◌, ℕ, List, Some}
use Rattle.std.specs.Prelude.{IsTrue}
use Rattle.stx_scenario.specs.declared.scenario.Scenario.{Scenario}
use Rattle.stx_base.specs.declared.call.PoolCall.{PoolCall}
use Rattle.stx_base.specs.declared.call.StoreCall.{StoreCall}
use Rattle.stx_base.specs.declared.call.Want.{Want}
use Rattle.stx_base.specs.declared.history.PoolNote.{PoolNote}
use Rattle.stx_base.specs.declared.history.StoreNote.{StoreNote}
use Rattle.stx_base.specs.Notes.{pool_call_want, store_call_want}
use Rattle.stx_base.specs.Pools.{pool_proper}
use Rattle.stx_base.specs.Stores.{store_proper}
use Rattle.stx_base.specs.Valid.{IsInOrder}
use Rattle.stx_model.specs.Meanings.{state_of, stop_of}
use Rattle.stx_model.specs.Reads.{BeginsFresh, IsProperAfter, ReadsAll, TakesFresh}
use Rattle.stx_model.specs.Script.{script}
use Rattle.stx_model.proofs.PlayedLaw.{stops_at}
use Rattle.stx_model.proofs.ProperLaws.{wants_proper}

module _ (S : Scenario) (order : IsInOrder S) (c : ℕ) (pool : List PoolNote) (store : List StoreNote) (read : ReadsAll S c pool store) where
  abbrev Wants : Want → Type 0
  Wants w = stop_of (script S c pool store) ≡ Some w

  proper_after : (w : Want) → Wants w → IsProperAfter pool store w
  proper_after w is =
      wants_proper S order c pool store w (state_of (script S c pool store)) (stops_at (script S c pool store) w is) read.pool_read read.store_read

  pub proper_pool : TakesFresh pool → (call : PoolCall) → Wants (pool_call_want call) → IsTrue (pool_proper pool (pool_call_want call))
  proper_pool fresh PoolCall.Take is = proper_after Want.Take is fresh
  proper_pool fresh (PoolCall.Give n) is = proper_after (Want.Give n) is fresh

  pub proper_store : BeginsFresh store → (call : StoreCall) → Wants (store_call_want call) → IsTrue (store_proper store (store_call_want call))
  proper_store fresh StoreCall.Begin is = proper_after Want.Begin is fresh
  proper_store fresh (StoreCall.Access t a) is = proper_after (Want.Access t a) is fresh
  proper_store fresh (StoreCall.Point t) is = proper_after (Want.Point t) is fresh
  proper_store fresh (StoreCall.BackTo t) is = proper_after (Want.BackTo t) is fresh
  proper_store fresh (StoreCall.Release t) is = proper_after (Want.Release t) is fresh
  proper_store fresh (StoreCall.Commit t) is = proper_after (Want.Commit t) is fresh
  proper_store fresh (StoreCall.Rollback t) is = proper_after (Want.Rollback t) is fresh
  proper_store fresh (StoreCall.Auto a) is = proper_after (Want.Auto a) is fresh
