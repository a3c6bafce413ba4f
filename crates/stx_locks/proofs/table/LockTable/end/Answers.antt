-- All that the transaction holds is listed, and freed.
use Rattle.std.proofs.Common.{ap, ◌∙◌, None, cond, ◌&&◌}
use Rattle.std.specs.Bool.{nat_eq}
use Rattle.std.specs.List.{list_any}
use Rattle.std.specs.Map.{lookup}
use Rattle.std.specs.FinMap.{get as holder_of}
use Rattle.stx_locks.specs.Locks.{unless_held_by}
use Rattle.stx_locks.specs.inner.Taken.{rows_of, is_held_by}
use Rattle.stx_locks.proofs.TableLaws.{ended-at, lists_others, nothing_held-at}
use Rattle.stx_locks.proofs.table.LockTable.end.Goals as goal

pub invariant_of-self : goal.invariant_of-self
invariant_of-self c =
    lists_others c.self.inside.locks.entries c.free_all.new.locks.entries c.self.inside.taken.entries c.swap_remove.new.self.entries c.in-Some.rows c.args.tx
    c.self.invariant c.in-Some.ensures.value
    (λ k. c.free_all.ensures k ∙ ap (λ rows. cond (list_any (nat_eq k) rows && is_held_by (lookup (nat_eq k) c.self.inside.locks.entries) c.args.tx) None (lookup (nat_eq k) c.self.inside.locks.entries)) c.deref.ensures.value)
    (λ u. c.in-Some.ensures.updates.0 u)

pub returns-in-Some : goal.returns-in-Some
returns-in-Some c k =
    ended-at c.self.inside.locks.entries c.free_all.new.locks.entries c.in-Some.rows.items c.args.tx k
    (λ held. ap (λ o. list_any (nat_eq k) (rows_of o)) c.in-Some.ensures.value ∙ c.self.invariant k c.args.tx held)
    (c.free_all.ensures k ∙ ap (λ rows. cond (list_any (nat_eq k) rows && is_held_by (lookup (nat_eq k) c.self.inside.locks.entries) c.args.tx) None (lookup (nat_eq k) c.self.inside.locks.entries)) c.deref.ensures.value)
    ∙ ap (λ m. unless_held_by c.args.tx (holder_of m k)) c.self.view_is

pub returns-in_default : goal.returns-in_default
returns-in_default c k =
    nothing_held-at c.self.inside.locks.entries c.args.tx k (λ held. ap (λ o. list_any (nat_eq k) (rows_of o)) c.in_default.ensures.value ∙ c.self.invariant k c.args.tx held)
    ∙ ap (λ m. unless_held_by c.args.tx (holder_of m k)) c.self.view_is
