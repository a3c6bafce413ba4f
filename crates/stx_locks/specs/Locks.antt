-- The locks: a map from the rows that are held to the transactions that hold them.
use Rattle.std.specs.Prelude.{ℕ, ◌==◌, Option, Some, None, if◌then◌else◌}
use Rattle.std.specs.Ordering.{nat_cmp}
use Rattle.std.specs.FinMap as finite
use Rattle.stx_locks.specs.declared.table.Ask.{Ask}

abbrev pub LockMap : Type 0
LockMap = finite.FinMap nat_cmp ℕ

-- what a transaction is answered that asks for a row which this one holds, if one does
abbrev pub asked : Option ℕ → ℕ → Ask
asked None t = Ask.Granted
asked (Some holder) t = if holder == t then Ask.Granted else Ask.Busy holder

-- who holds it then
abbrev pub after_asked : Option ℕ → ℕ → Option ℕ
after_asked None t = Some t
after_asked (Some holder) t = Some holder

-- who holds a row after a transaction's end
abbrev pub unless_held_by : ℕ → Option ℕ → Option ℕ
unless_held_by t None = None
unless_held_by t (Some holder) = if holder == t then None else Some holder
