-- A history is the list of entries that the pool or the store keeps, in the order in which it made its turns.
-- A note is an entry without its client. Places in a history are counted from 1.
use Rattle.std.specs.Prelude.{ℕ, zero, suc, ◌+◌, Bool, List, map, length, nat_lt, ◌==◌}
use Rattle.std.specs.List.{filter}
use Rattle.stx_base.specs.declared.history.PoolNote.{PoolNote}
use Rattle.stx_base.specs.declared.history.PoolEntry.{PoolEntry}
use Rattle.stx_base.specs.declared.history.StoreNote.{StoreNote}
use Rattle.stx_base.specs.declared.history.StoreEntry.{StoreEntry}
use Rattle.stx_base.specs.Limits.{most_notes}

-- the notes of all clients, in order
abbrev pub pool_notes : List PoolEntry → List PoolNote
pool_notes history = map (λ e. e.note) history

abbrev pub store_notes : List StoreEntry → List StoreNote
store_notes history = map (λ e. e.note) history

-- the notes of one client, in order
abbrev pub pool_notes_of : List PoolEntry → ℕ → List PoolNote
pool_notes_of history client = pool_notes (filter (λ e. e.client == client) history)

abbrev pub store_notes_of : List StoreEntry → ℕ → List StoreNote
store_notes_of history client = store_notes (filter (λ e. e.client == client) history)

-- a client keeps fewer notes than this in each history
abbrev pub has_room : {N : Type 0} → List N → Bool
has_room notes = nat_lt (length notes) most_notes

-- the sum over the numbers below a bound, such as the clients
abbrev pub sum_below : ℕ → (ℕ → ℕ) → ℕ
sum_below zero f = 0
sum_below (suc n) f = sum_below n f + f n
