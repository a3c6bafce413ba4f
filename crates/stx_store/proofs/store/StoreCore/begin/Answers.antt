-- The next number.
use Rattle.std.proofs.Common.{◌+◌, [], ◌∷◌, ◌++◌, refl, sym, ap, ◌∙◌, subst, arith}
use Rattle.stx_base.specs.declared.call.Want.{Want}
use Rattle.stx_base.specs.declared.history.StoreNote.{StoreNote}
use Rattle.stx_base.specs.declared.history.StoreEntry.{StoreEntry}
use Rattle.stx_store.specs.Store.{StoreReplies}
use Rattle.stx_store.proofs.OwedLaws.{entry}
use Rattle.stx_store.proofs.FitLaws.{store_of}
use Rattle.stx_store.proofs.CoreLaws.{proper_in, replies, few, fits-begin, core-begun}
use Rattle.stx_store.proofs.store.StoreCore.begin.Goals as goal

pub overflow_add-number : goal.overflow_add-number
overflow_add-number c = let fits = few c.self.inside.facts c.self.inside.entries.items c.self.inside.owed _ _ c.self.inside.begun c.self.inside.locks c.self.inside.rows c.self.inside.journal c.self.invariant in omega (arith, fits)

pub invariant_of-self-2 : goal.invariant_of-self-2
invariant_of-self-2 c =
    let e : StoreEntry = entry c.args.client (StoreNote.Begin (c.self.inside.begun + 1)) in
    let ok = c.in_ok-owed.ensures.ok in
    core-begun c.self.inside.facts c.self.inside.entries.items c.self.inside.owed _ _ c.self.inside.begun c.self.inside.locks c.self.inside.rows c.self.inside.journal c.self.invariant c.args.client (c.self.inside.begun + 1) (fits-begin c.self.inside.facts c.self.inside.entries.items c.self.inside.owed _ _ c.self.inside.begun c.self.inside.locks c.self.inside.rows c.self.inside.journal c.self.invariant c.args.client (c.self.inside.begun + 1) c.requires.client (proper_in c.self.inside.facts c.self.inside.entries.items _ c.args.client (Want.Begin) c.self.view_is c.requires.proper) refl) _ c.in_ok-owed.owed _ _ (c.self.inside.begun + 1) c.begin.new.self c.room_for.new.journal
    (c.push_reserved.ensures.items ∙ ap (λ es. es ++ e ∷ []) c.room_for.ensures.same) ok.0 (omega (arith, ok.1, c.push_reserved.ensures.len, c.push_reserved.ensures.capacity)) refl
    c.begin.ensures.values c.in_ok-begin.ensures.ok c.room_for.ensures.list (omega (arith, ok.2))

pub returns-clause-ok : goal.returns-clause-ok
returns-clause-ok c =
    let e : StoreEntry = entry c.args.client (StoreNote.Begin (c.self.inside.begun + 1)) in
    subst (λ u. StoreReplies c.args.self.now (store_of c.self.inside.facts c.push_reserved.new.self.items) c.args.client Want.Begin (StoreNote.Begin u)) (sym c.issue.ensures)
    (replies c.self.inside.facts c.self.inside.entries.items c.push_reserved.new.self.items _ c.args.client (StoreNote.Begin (c.self.inside.begun + 1)) c.self.view_is (fits-begin c.self.inside.facts c.self.inside.entries.items c.self.inside.owed _ _ c.self.inside.begun c.self.inside.locks c.self.inside.rows c.self.inside.journal c.self.invariant c.args.client (c.self.inside.begun + 1) c.requires.client (proper_in c.self.inside.facts c.self.inside.entries.items _ c.args.client (Want.Begin) c.self.view_is c.requires.proper) refl)
    (c.push_reserved.ensures.items ∙ ap (λ es. es ++ e ∷ []) c.room_for.ensures.same))
