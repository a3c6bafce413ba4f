-- The changes of the rows so far.
use Rattle.std.proofs.Common.{◌≡◌, ◌≤◌, length, map, filter_map, vec_len, vec_capacity}
use Rattle.std.specs.BTreeMap.{btree_map_len}
use Rattle.std.specs.Map.Iter.{deref_pair}
use Rattle.stx_rows.specs.inner.Undoing.{change_row}
use Rattle.stx_rows.proofs.ChangeLaws.{change_now}
use Rattle.stx_rows.proofs.undo.Undo.changes.Given as goal

abbrev pub invariant-loop-row : goal.invariant-loop-row
invariant-loop-row l = record {
  made : l.changes.items ≡ map change_row (filter_map (change_now l.slots) (map deref_pair l.yielded));
  few : vec_len l.changes ≤ length l.yielded;
  room : btree_map_len l.self-inside.first ≤ vec_capacity l.changes;
}
