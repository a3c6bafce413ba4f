-- The table as it is kept: the locks, and of each transaction the rows that it has locked, among others.
use Rattle.std.specs.Prelude.{◌≡◌, ℕ, Bool, true, false, ◌==◌, List, [], map, Option, Some, None}
use Rattle.std.specs.List.{list_any}
use Rattle.std.specs.Bool.{nat_eq}
use Rattle.std.specs.Global.{Vec}
use Rattle.std.specs.Map.{lookup}
use Rattle.std.specs.FinMap as finite
use Rattle.stx_locks.specs.declared.lock.Lock.{Lock}
use Rattle.stx_locks.specs.Locks.{LockMap}

abbrev pub holders_in : List (ℕ × Lock) → LockMap
holders_in locks = finite.from_entries (map (λ e. (e.0, e.1.holder)) locks)

abbrev pub is_held_by : Option Lock → ℕ → Bool
is_held_by None t = false
is_held_by (Some lock) t = lock.holder == t

-- the rows that were listed, if any
abbrev pub rows_of : Option (Vec ℕ) → List ℕ
rows_of None = []
rows_of (Some rows) = rows.items

-- what a transaction holds is listed as its own
abbrev pub ListsHeld : List (ℕ × Lock) → List (ℕ × Vec ℕ) → Type 0
ListsHeld locks taken = (k t : ℕ) → is_held_by (lookup (nat_eq k) locks) t ≡ true → list_any (nat_eq k) (rows_of (lookup (nat_eq t) taken)) ≡ true
