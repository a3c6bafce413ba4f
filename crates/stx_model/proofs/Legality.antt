-- When a worked history is legal: its clients and calls pass a test that computes, and the replies along it are its notes.
use Rattle.std.proofs.Common.{◌≡◌, ℕ, ◌<◌, ◌&&◌, Bool, true, List, [], ◌∷◌, ◌++◌, map, Some}
use Rattle.std.proofs.Math.Dec.{ltb}
use Rattle.std.proofs.lemmas.Bool.{and_parts, ltb-true}
use Rattle.stx_base.specs.declared.facts.StoreFacts.{StoreFacts}
use Rattle.stx_base.specs.declared.history.PoolEntry.{PoolEntry}
use Rattle.stx_base.specs.declared.history.StoreEntry.{StoreEntry}
use Rattle.stx_base.specs.Histories.{pool_notes_of, store_notes_of}
use Rattle.stx_base.specs.Pools.{pool_reply, pool_want, pool_proper}
use Rattle.stx_base.specs.Stores.{store_reply, store_want, store_proper}
use Rattle.stx_base.specs.Legal.{LegalFrom, PoolFits, PoolLegal, StoreFits, StoreLegal}

-- each entry passes after those before it
abbrev pub pass : {E : Type 0} → (List E → E → Bool) → List E → List E → Bool
pass test before [] = true
pass test before (e ∷ es) = test before e && pass test (before ++ e ∷ []) es

-- the reply to each entry's call, after the entries before it
abbrev pub replies : {E R : Type 0} → (List E → E → R) → List E → List E → List R
replies reply before [] = []
replies reply before (e ∷ es) = reply before e ∷ replies reply (before ++ e ∷ []) es

-- an entry fits where its client is below the count, its call is proper, and the reply is what it notes
pub legal_if : {E R : Type 0} (clients : ℕ) (client : E → ℕ) (proper : List E → E → Bool) (reply : List E → E → R) (noted : E → R)
    (Fits : List E → E → Type 0)
    → ((before : List E) (e : E) → client e < clients → proper before e ≡ true → reply before e ≡ noted e → Fits before e)
    → (before H : List E) → pass (λ earlier e. ltb (client e) clients && proper earlier e) before H ≡ true
    → replies reply before H ≡ map noted H → LegalFrom Fits before H
legal_if clients client proper reply noted Fits fits before [] passed replied = tt
legal_if clients client proper reply noted Fits fits before (e ∷ es) passed replied =
    let parts = and_parts (ltb (client e) clients && proper before e) _ passed in
    let own = and_parts (ltb (client e) clients) _ parts.0 in
    let first : reply before e ≡ noted e = cc in
    let later : replies reply (before ++ e ∷ []) es ≡ map noted es = cc in (
      fits before e (ltb-true (client e) clients own.0) own.1 first,
      legal_if clients client proper reply noted Fits fits (before ++ e ∷ []) es parts.1 later,
    )

-- the pool's histories and the store's, where the tests compute and the replies are the notes
pub pool_legal : (clients size : ℕ) (H : List PoolEntry)
    → pass (λ before e. ltb e.client clients && pool_proper (pool_notes_of before e.client) (pool_want e.note)) [] H ≡ true
    → replies (λ before e. pool_reply size before (pool_want e.note)) [] H ≡ map (λ e. Some e.note) H → PoolLegal clients size H
pool_legal clients size H = legal_if clients (λ e. e.client) _ _ (λ e. Some e.note) (PoolFits clients size)
    (λ before e below proper reply. record { client = below; proper = proper; reply = reply }) [] H

pub store_legal : (clients : ℕ) (facts : StoreFacts) (H : List StoreEntry)
    → pass (λ before e. ltb e.client clients && store_proper (store_notes_of before e.client) (store_want e.note)) [] H ≡ true
    → replies (λ before e. store_reply facts before (store_want e.note)) [] H ≡ map (λ e. Some e.note) H → StoreLegal clients facts H
store_legal clients facts H = legal_if clients (λ e. e.client) _ _ (λ e. Some e.note) (StoreFits clients facts)
    (λ before e below proper reply. record { client = below; proper = proper; reply = reply }) [] H
