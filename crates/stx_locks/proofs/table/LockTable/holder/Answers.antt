-- Who holds a row is what the look-up finds.
use Rattle.std.proofs.Common.{sym, ap, ◌∙◌}
use Rattle.std.specs.FinMap.{get as holder_of}
use Rattle.stx_locks.proofs.TableLaws.{holder_in, holder-at}
use Rattle.stx_locks.proofs.table.LockTable.holder.Goals as goal

pub returns-in-Some : goal.returns-in-Some
returns-in-Some c = ap holder_in c.in-Some.ensures ∙ sym (holder-at c.self.inside.locks.entries c.args.row.0) ∙ ap (λ m. holder_of m c.args.row.0) c.self.view_is

pub returns-in-None : goal.returns-in-None
returns-in-None c = ap holder_in c.in-None.ensures ∙ sym (holder-at c.self.inside.locks.entries c.args.row.0) ∙ ap (λ m. holder_of m c.args.row.0) c.self.view_is
