-- So many empty lists as there were turns.
use Rattle.std.proofs.Common.{◌≡◌, [], replicate}
use Rattle.stx_report.proofs.places.no_places.Given as goal

abbrev pub invariant-loop-client : goal.invariant-loop-client
invariant-loop-client l = l.places.items ≡ replicate l._client []
