-- One savepoint more.
use Rattle.std.proofs.Common.{[], ◌∷◌, ◌++◌, ap, ◌∙◌, arith}
use Rattle.stx_base.specs.declared.call.Want.{Want}
use Rattle.stx_base.specs.declared.history.StoreNote.{StoreNote}
use Rattle.stx_store.proofs.OwedLaws.{entry}
use Rattle.stx_store.proofs.CoreLaws.{proper_in, fits-point, core-pointed}
use Rattle.stx_store.proofs.store.StoreCore.point.Goals as goal

pub invariant_of-self-2 : goal.invariant_of-self-2
invariant_of-self-2 c =
    let ok = c.in_ok-owed.ensures.ok in
    core-pointed c.self.inside.facts c.self.inside.entries.items c.self.inside.owed _ _ c.self.inside.begun c.self.inside.locks c.self.inside.rows c.self.inside.journal c.self.invariant c.args.client c.args.tx (fits-point c.self.inside.facts c.self.inside.entries.items c.self.inside.owed _ _ c.self.inside.begun c.self.inside.locks c.self.inside.rows c.self.inside.journal c.self.invariant c.args.client c.args.tx c.requires.client (proper_in c.self.inside.facts c.self.inside.entries.items _ c.args.client (Want.Point c.args.tx) c.self.view_is c.requires.proper)) _ c.in_ok-owed.owed _ _ c.point.new.self c.room_for.new.journal
    (c.push_reserved.ensures.items ∙ ap (λ es. es ++ entry c.args.client (StoreNote.Point c.args.tx) ∷ []) c.room_for.ensures.same) ok.0 (omega (arith, ok.1, c.push_reserved.ensures.len, c.push_reserved.ensures.capacity)) c.point.ensures.values c.in_ok-point.ensures.ok c.room_for.ensures.list (omega (arith, ok.2))
