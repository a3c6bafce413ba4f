-- The older values are put back, and the locks freed.
use Rattle.std.proofs.Common.{IsTrue, refl, sym, subst}
use Rattle.stx_base.specs.declared.call.Want.{Want}
use Rattle.stx_base.specs.declared.history.StoreNote.{StoreNote}
use Rattle.stx_base.specs.Histories.{store_notes_of}
use Rattle.stx_base.specs.Stores.{store_proper}
use Rattle.stx_store.proofs.OwedLaws.{entry}
use Rattle.stx_store.proofs.CoreLaws.{proper_in, fits-rollback, owed-one, core-undone}
use Rattle.stx_store.proofs.store.StoreCore.rollback.Goals as goal

pub keep_owed-requires-clause-some : goal.keep_owed-requires-clause-some
keep_owed-requires-clause-some c = owed-one c.self.inside.facts c.self.inside.entries.items c.self.inside.owed _ _ c.self.inside.begun c.self.inside.locks c.self.inside.rows c.self.inside.journal c.self.invariant (entry c.args.client (StoreNote.Rollback c.number-tx.result)) (fits-rollback c.self.inside.facts c.self.inside.entries.items c.self.inside.owed _ _ c.self.inside.begun c.self.inside.locks c.self.inside.rows c.self.inside.journal c.self.invariant c.args.client c.number-tx.result c.requires.client (subst (λ t. IsTrue (store_proper (store_notes_of c.self.inside.entries.items c.args.client) (Want.Rollback t))) (sym c.number-tx.ensures) (proper_in c.self.inside.facts c.self.inside.entries.items _ c.args.client (Want.Rollback c.args.session) c.self.view_is c.requires.proper))) refl

pub invariant_of-self : goal.invariant_of-self
invariant_of-self c =
    core-undone c.self.inside.facts c.self.inside.entries.items c.self.inside.owed _ _ c.self.inside.begun c.self.inside.locks c.self.inside.rows c.self.inside.journal c.self.invariant c.args.client c.number-tx.result (fits-rollback c.self.inside.facts c.self.inside.entries.items c.self.inside.owed _ _ c.self.inside.begun c.self.inside.locks c.self.inside.rows c.self.inside.journal c.self.invariant c.args.client c.number-tx.result c.requires.client (subst (λ t. IsTrue (store_proper (store_notes_of c.self.inside.entries.items c.args.client) (Want.Rollback t))) (sym c.number-tx.ensures) (proper_in c.self.inside.facts c.self.inside.entries.items _ c.args.client (Want.Rollback c.args.session) c.self.view_is c.requires.proper))) _ _ _ _ c.end.new.self c.undo.new.self c.keep_owed.ensures.items c.keep_owed.ensures.owed c.keep_owed.ensures.len c.keep_owed.ensures.capacity c.end.ensures c.undo.ensures.values c.undo.ensures.older
