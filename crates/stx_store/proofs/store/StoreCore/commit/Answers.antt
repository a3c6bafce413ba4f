-- The changes are listed, and the locks freed.
use Rattle.std.proofs.Common.{◌+◌, ◌≤◌, IsTrue, length, refl, sym, ap, subst, arith}
use Rattle.stx_base.specs.declared.call.Want.{Want}
use Rattle.stx_base.specs.declared.history.StoreNote.{StoreNote}
use Rattle.stx_base.specs.Histories.{store_notes_of}
use Rattle.stx_base.specs.Stores.{store_proper}
use Rattle.stx_store.specs.Store.{StoreReplies}
use Rattle.stx_store.proofs.OwedLaws.{entry}
use Rattle.stx_store.proofs.FitLaws.{store_of}
use Rattle.stx_store.proofs.CoreLaws.{proper_in, replies, fits-commit, stack_there, owed-one, core-committed}
use Rattle.stx_store.proofs.store.StoreCore.commit.Goals as goal

pub changes-changes-requires : goal.changes-changes-requires
changes-changes-requires c = stack_there c.self.inside.facts c.self.inside.entries.items c.self.inside.owed _ _ c.self.inside.begun c.self.inside.locks c.self.inside.rows c.self.inside.journal c.self.invariant c.args.client c.number-tx.result 0 (subst (λ t. IsTrue (store_proper (store_notes_of c.self.inside.entries.items c.args.client) (Want.Commit t))) (sym c.number-tx.ensures) (proper_in c.self.inside.facts c.self.inside.entries.items _ c.args.client (Want.Commit c.args.session) c.self.view_is c.requires.proper))

pub append-requires : goal.append-requires
append-requires c =
    let one : 1 ≤ c.self.inside.owed = owed-one c.self.inside.facts c.self.inside.entries.items c.self.inside.owed _ _ c.self.inside.begun c.self.inside.locks c.self.inside.rows c.self.inside.journal c.self.invariant (entry c.args.client (StoreNote.Commit c.number-tx.result (length c.list.result.now + 1))) (fits-commit c.self.inside.facts c.self.inside.entries.items c.self.inside.owed _ _ c.self.inside.begun c.self.inside.locks c.self.inside.rows c.self.inside.journal c.self.invariant c.args.client c.number-tx.result (length c.list.result.now + 1) c.requires.client (subst (λ t. IsTrue (store_proper (store_notes_of c.self.inside.entries.items c.args.client) (Want.Commit t))) (sym c.number-tx.ensures) (proper_in c.self.inside.facts c.self.inside.entries.items _ c.args.client (Want.Commit c.args.session) c.self.view_is c.requires.proper)) (ap (λ l. length l + 1) c.list.ensures)) refl in
    omega (arith, c.self.invariant.state.room)

pub keep_owed-requires-clause-some : goal.keep_owed-requires-clause-some
keep_owed-requires-clause-some c = owed-one c.self.inside.facts c.self.inside.entries.items c.self.inside.owed _ _ c.self.inside.begun c.self.inside.locks c.self.inside.rows c.self.inside.journal c.self.invariant (entry c.args.client (StoreNote.Commit c.number-tx.result (length c.list.result.now + 1))) (fits-commit c.self.inside.facts c.self.inside.entries.items c.self.inside.owed _ _ c.self.inside.begun c.self.inside.locks c.self.inside.rows c.self.inside.journal c.self.invariant c.args.client c.number-tx.result (length c.list.result.now + 1) c.requires.client (subst (λ t. IsTrue (store_proper (store_notes_of c.self.inside.entries.items c.args.client) (Want.Commit t))) (sym c.number-tx.ensures) (proper_in c.self.inside.facts c.self.inside.entries.items _ c.args.client (Want.Commit c.args.session) c.self.view_is c.requires.proper)) (ap (λ l. length l + 1) c.list.ensures)) refl

pub invariant_of-self : goal.invariant_of-self
invariant_of-self c =
    core-committed c.self.inside.facts c.self.inside.entries.items c.self.inside.owed _ _ c.self.inside.begun c.self.inside.locks c.self.inside.rows c.self.inside.journal c.self.invariant c.args.client c.number-tx.result (length c.list.result.now + 1) c.changes-changes.result (fits-commit c.self.inside.facts c.self.inside.entries.items c.self.inside.owed _ _ c.self.inside.begun c.self.inside.locks c.self.inside.rows c.self.inside.journal c.self.invariant c.args.client c.number-tx.result (length c.list.result.now + 1) c.requires.client (subst (λ t. IsTrue (store_proper (store_notes_of c.self.inside.entries.items c.args.client) (Want.Commit t))) (sym c.number-tx.ensures) (proper_in c.self.inside.facts c.self.inside.entries.items _ c.args.client (Want.Commit c.args.session) c.self.view_is c.requires.proper)) (ap (λ l. length l + 1) c.list.ensures)) _ _ _ _ c.end.new.self c.changes-changes.new.self c.append.new.self
    c.keep_owed.ensures.items c.keep_owed.ensures.owed c.keep_owed.ensures.len c.keep_owed.ensures.capacity c.end.ensures c.changes-changes.ensures.values c.changes-changes.ensures.older (ap (λ l. length l + 1) c.list.ensures) c.changes-changes.ensures.changes
    c.append.ensures.list c.append.ensures.spare

pub returns : goal.returns
returns c =
    subst (λ t. StoreReplies c.args.self.now (store_of c.self.inside.facts c.keep_owed.new.entries.items) c.args.client (Want.Commit t) (StoreNote.Commit t (length c.list.result.now + 1))) c.number-tx.ensures
    (replies c.self.inside.facts c.self.inside.entries.items c.keep_owed.new.entries.items _ c.args.client (StoreNote.Commit c.number-tx.result (length c.list.result.now + 1)) c.self.view_is (fits-commit c.self.inside.facts c.self.inside.entries.items c.self.inside.owed _ _ c.self.inside.begun c.self.inside.locks c.self.inside.rows c.self.inside.journal c.self.invariant c.args.client c.number-tx.result (length c.list.result.now + 1) c.requires.client (subst (λ t. IsTrue (store_proper (store_notes_of c.self.inside.entries.items c.args.client) (Want.Commit t))) (sym c.number-tx.ensures) (proper_in c.self.inside.facts c.self.inside.entries.items _ c.args.client (Want.Commit c.args.session) c.self.view_is c.requires.proper)) (ap (λ l. length l + 1) c.list.ensures)) c.keep_owed.ensures.items)
