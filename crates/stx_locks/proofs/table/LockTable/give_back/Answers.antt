-- One row is freed.
use Rattle.std.proofs.Common.{cond, None, refl, ap, ◌∙◌}
use Rattle.std.specs.Bool.{nat_eq}
use Rattle.std.specs.FinMap.{get as holder_of}
use Rattle.std.proofs.lemmas.Cmp.{nat_eq_equiv}
use Rattle.stx_locks.specs.inner.Taken.{holders_in}
use Rattle.stx_locks.proofs.TableLaws.{freed-at, freed-fewer, lists_still}
use Rattle.stx_locks.proofs.table.LockTable.give_back.Goals as goal

pub invariant_of-self : goal.invariant_of-self
invariant_of-self c =
    lists_still c.self.inside.locks.entries c.swap_remove.new.self.entries c.self.inside.taken.entries c.self.inside.taken.entries c.self.invariant
    (λ k t. freed-fewer (nat_eq c.args.row.0 k) _ _ t (c.swap_remove.ensures.updates.0 k)) (λ u. refl)

pub returns : goal.returns
returns c k =
    freed-at c.self.inside.locks.entries c.swap_remove.new.self.entries (nat_eq c.args.row.0 k) k (c.swap_remove.ensures.updates.0 k)
    ∙ ap (λ b. cond b None (holder_of (holders_in c.self.inside.locks.entries) k)) (nat_eq_equiv.symm c.args.row.0 k)
    ∙ ap (λ m. cond (nat_eq k c.args.row.0) None (holder_of m k)) c.self.view_is
