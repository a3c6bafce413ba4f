-- A row that is held stays so, and one that is free is taken.
use Rattle.std.proofs.Common.{◌==◌, cond, sym, ap, ◌∙◌}
use Rattle.std.specs.FinMap.{get as holder_of}
use Rattle.stx_locks.specs.Locks.{asked, after_asked}
use Rattle.stx_locks.specs.inner.Taken.{holders_in}
use Rattle.stx_locks.proofs.TableLaws.{holder_in, holder-at, locked-at, held_stays, taken_free}
use Rattle.stx_locks.proofs.table.LockTable.ask.Goals as goal

pub returns-in-Some-clause-answer : goal.returns-in-Some-clause-answer
returns-in-Some-clause-answer c =
    c.asked.ensures
    ∙ ap (λ o. asked (holder_in o) c.args.tx) c.in-Some.ensures
    ∙ ap (λ o. asked o c.args.tx) (sym (holder-at c.self.inside.locks.entries c.args.row.0) ∙ ap (λ m. holder_of m c.args.row.0) c.self.view_is)

pub returns-in-Some-clause-ok : goal.returns-in-Some-clause-ok
returns-in-Some-clause-ok c k =
    held_stays c.args.self.now c.args.row.0 k c.args.tx c.in-Some.lock.holder
    (sym (ap (λ m. holder_of m c.args.row.0) c.self.view_is) ∙ holder-at c.self.inside.locks.entries c.args.row.0 ∙ ap holder_in (sym c.in-Some.ensures))

pub returns-clause-answer : goal.returns-clause-answer
returns-clause-answer c =
    ap (λ o. asked (holder_in o) c.args.tx) c.in_default.ensures
    ∙ ap (λ o. asked o c.args.tx) (sym (holder-at c.self.inside.locks.entries c.args.row.0) ∙ ap (λ m. holder_of m c.args.row.0) c.self.view_is)

pub returns-clause-ok : goal.returns-clause-ok
returns-clause-ok c k =
    locked-at c.self.inside.locks.entries c.insert.new.self.entries c.args.row.0 c.args.tx k (sym c.in_default.ensures) (c.in_ok-insert.ensures.updates.0 k)
    ∙ taken_free (holders_in c.self.inside.locks.entries) c.args.row.0 k c.args.tx
    (holder-at c.self.inside.locks.entries c.args.row.0 ∙ ap holder_in (sym c.in_default.ensures))
    ∙ ap (λ m. cond (k == c.args.row.0) (after_asked (holder_of m k) c.args.tx) (holder_of m k)) c.self.view_is
