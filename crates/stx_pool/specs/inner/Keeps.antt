-- What the fields of a pool keep true.
use Rattle.std.specs.Prelude.{◌≡◌, ℕ, ◌+◌, ◌<◌, ◌≤◌, Bool, false, List, length, slice_index_or}
use Rattle.stx_base.specs.declared.history.PoolEntry.{PoolEntry}
use Rattle.stx_base.specs.Limits.{most_clients, most_connections}
use Rattle.stx_base.specs.Histories.{pool_notes}
use Rattle.stx_base.specs.Pools.{contains, out}
use Rattle.stx_base.specs.Legal.{PoolLegal}

-- the flags say which connections are out in a legal history, and there is room to give each of these back
pub record KeepsPool (flags : List Bool) (entries : List PoolEntry) (spare : ℕ) : Type 0 where
  pub few : length flags ≤ most_connections
  pub legal : PoolLegal most_clients (length flags) entries
  pub tells : (k : ℕ) → k < length flags → slice_index_or flags k false ≡ contains (out (pool_notes entries)) (k + 1)
  pub room : length (out (pool_notes entries)) ≤ spare
