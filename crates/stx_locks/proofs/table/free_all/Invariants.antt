-- The rows so far are freed.
use Rattle.std.proofs.Common.{◌≡◌, ℕ, ◌&&◌, cond, None, take}
use Rattle.std.specs.Bool.{nat_eq}
use Rattle.std.specs.List.{list_any}
use Rattle.indexmap.specs.IndexMap.{get}
use Rattle.stx_locks.specs.inner.Taken.{is_held_by}
use Rattle.stx_locks.proofs.table.free_all.Given as goal

abbrev pub invariant-loop-row : goal.invariant-loop-row
invariant-loop-row l = (k : ℕ) → get nat_eq l.locks k ≡ cond (list_any (nat_eq k) (take l.row-index l.rows) && is_held_by (get nat_eq l.fn.locks k) l.tx) None (get nat_eq l.fn.locks k)
