-- What was popped is put back, and what is left of the level isn't.
use Rattle.std.proofs.Common.{◌≡◌, ℕ, true, List, length}
use Rattle.std.specs.Bool.{nat_eq}
use Rattle.std.specs.Option.{unwrap_or, is_some}
use Rattle.std.specs.Ordering.{nat_cmp}
use Rattle.std.specs.FinMap.{find}
use Rattle.indexmap.specs.IndexMap.{get}
use Rattle.stx_rows.specs.inner.Undoing.{Older, value_of, innermost_level}
use Rattle.stx_rows.proofs.RowsLaws.{extended}
use Rattle.stx_rows.proofs.rows.put_back.Given as goal

abbrev pub invariant-loop-row : goal.invariant-loop-row
invariant-loop-row l =
    (popped : List Older)
    × (l.fn.undo ≡ extended l.undo popped)
    × ((k : ℕ) → value_of (get nat_eq l.slots k) ≡ unwrap_or (find nat_cmp k popped) (value_of (get nat_eq l.fn.slots k)))
    × ((k : ℕ) → is_some (get nat_eq l.fn.slots k) ≡ true → is_some (get nat_eq l.slots k) ≡ true)

abbrev pub decreases-loop-row : goal.decreases-loop-row
decreases-loop-row l = length (innermost_level l.undo)
