-- The values so far.
use Rattle.std.proofs.Common.{◌≡◌, ℕ, take, slice_get}
use Rattle.std.specs.Bool.{nat_eq}
use Rattle.indexmap.specs.IndexMap.{get}
use Rattle.stx_rows.specs.inner.Undoing.{value_of}
use Rattle.stx_rows.proofs.rows.first_slots.Given as goal

abbrev pub invariant-loop-place : goal.invariant-loop-place
invariant-loop-place l = (k : ℕ) → value_of (get nat_eq l.slots k) ≡ slice_get (take l.place l.values) k
