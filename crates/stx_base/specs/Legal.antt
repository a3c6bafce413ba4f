-- Legal histories: each call is proper after its client's own earlier ones, and each answer is the reply to it.
use Rattle.std.specs.Prelude.{◌≡◌, ℕ, ◌<◌, List, [], ◌∷◌, ◌++◌, Some, IsTrue, ⊤}
use Rattle.stx_base.specs.declared.facts.StoreFacts.{StoreFacts}
use Rattle.stx_base.specs.declared.history.PoolEntry.{PoolEntry}
use Rattle.stx_base.specs.declared.history.StoreEntry.{StoreEntry}
use Rattle.stx_base.specs.Histories.{pool_notes_of, store_notes_of}
use Rattle.stx_base.specs.Pools.{pool_reply, pool_want, pool_proper}
use Rattle.stx_base.specs.Stores.{store_reply, store_want, store_proper}

-- each entry fits after those before it
abbrev pub LegalFrom : {E : Type 0} → (List E → E → Type 0) → List E → List E → Type 0
LegalFrom Fits before [] = ⊤
LegalFrom Fits before (e ∷ es) = Fits before e × LegalFrom Fits (before ++ e ∷ []) es

-- an entry of the pool fits after those before it
pub record PoolFits (clients size : ℕ) (before : List PoolEntry) (entry : PoolEntry) : Type 0 where
  pub client : entry.client < clients
  pub proper : IsTrue (pool_proper (pool_notes_of before entry.client) (pool_want entry.note))
  pub reply : pool_reply size before (pool_want entry.note) ≡ Some entry.note

-- a history of a pool of this size, of clients below a count
abbrev pub PoolLegal : ℕ → ℕ → List PoolEntry → Type 0
PoolLegal clients size history = LegalFrom (PoolFits clients size) [] history

-- an entry of the store fits after those before it
pub record StoreFits (clients : ℕ) (facts : StoreFacts) (before : List StoreEntry) (entry : StoreEntry) : Type 0 where
  pub client : entry.client < clients
  pub proper : IsTrue (store_proper (store_notes_of before entry.client) (store_want entry.note))
  pub reply : store_reply facts before (store_want entry.note) ≡ Some entry.note

-- a history of a store that is made with these, of clients below a count
abbrev pub StoreLegal : ℕ → StoreFacts → List StoreEntry → Type 0
StoreLegal clients facts history = LegalFrom (StoreFits clients facts) [] history
