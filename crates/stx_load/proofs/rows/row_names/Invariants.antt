-- The accounts so far have their names.
use Rattle.std.proofs.Common.{◌≡◌, map}
use Rattle.std.specs.List.{range_with_len}
use Rattle.stx_load.specs.Generated.{account_name}
use Rattle.stx_load.proofs.rows.row_names.Given as goal

abbrev pub invariant-loop-account : goal.invariant-loop-account
invariant-loop-account l = l.names ≡ map account_name (range_with_len 0 l.account)
