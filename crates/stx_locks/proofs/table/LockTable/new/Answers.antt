-- Nothing is held at first.
use Rattle.std.proofs.Common.{ap, ◌∙◌}
use Rattle.std.specs.Bool.{nat_eq}
use Rattle.std.specs.Map.{lookup}
use Rattle.stx_locks.proofs.TableLaws.{holder_in, holder-at}
use Rattle.stx_locks.proofs.table.LockTable.new.Goals as goal

pub returns : goal.returns
returns c k = holder-at c.new.result.entries k ∙ ap (λ es. holder_in (lookup (nat_eq k) es)) c.new.ensures.empty
