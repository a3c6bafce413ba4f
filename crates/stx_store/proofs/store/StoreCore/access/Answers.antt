-- What the locks and the rows answer.
use Rattle.std.proofs.Common.{[], ◌∷◌, ◌++◌, ap, ◌∙◌, arith}
use Rattle.stx_base.specs.declared.call.Want.{Want}
use Rattle.stx_base.specs.declared.history.StoreNote.{StoreNote}
use Rattle.stx_store.proofs.OwedLaws.{entry}
use Rattle.stx_store.proofs.CoreLaws.{proper_in, replies, fits-access, core-accessed}
use Rattle.stx_store.proofs.store.StoreCore.access.Goals as goal

pub invariant_of-self-2 : goal.invariant_of-self-2
invariant_of-self-2 c =
    let ok = c.in_ok-self-inside.ensures.ok in
    core-accessed c.self.inside.facts c.self.inside.entries.items c.self.inside.owed _ _ c.self.inside.begun c.self.inside.locks c.self.inside.rows c.self.inside.journal c.self.invariant c.args.client c.args.tx c.args.access c.in_ok-answer.answer (fits-access c.self.inside.facts c.self.inside.entries.items c.self.inside.owed _ _ c.self.inside.begun c.self.inside.locks c.self.inside.rows c.self.inside.journal c.self.invariant c.args.client c.args.tx c.args.access c.in_ok-answer.answer c.requires.client (proper_in c.self.inside.facts c.self.inside.entries.items _ c.args.client (Want.Access c.args.tx c.args.access) c.self.view_is c.requires.proper) c.in_ok-answer.ensures.ok.answer_is) _ c.in_ok-self-inside.field-0 _ _ c.make_access.new.locks c.make_access.new.rows c.room_for.new.journal
    (c.push_reserved.ensures.items ∙ ap (λ es. es ++ entry c.args.client (StoreNote.Access c.args.tx c.args.access c.in_ok-answer.answer) ∷ []) c.room_for.ensures.same) ok.0 (omega (arith, ok.1, c.push_reserved.ensures.len, c.push_reserved.ensures.capacity)) c.in_ok-answer.ensures.ok c.room_for.ensures.list (omega (arith, ok.2))

pub returns-clause-ok : goal.returns-clause-ok
returns-clause-ok c =
    replies c.self.inside.facts c.self.inside.entries.items c.push_reserved.new.self.items _ c.args.client (StoreNote.Access c.args.tx c.args.access c.in_ok-answer.answer) c.self.view_is (fits-access c.self.inside.facts c.self.inside.entries.items c.self.inside.owed _ _ c.self.inside.begun c.self.inside.locks c.self.inside.rows c.self.inside.journal c.self.invariant c.args.client c.args.tx c.args.access c.in_ok-answer.answer c.requires.client (proper_in c.self.inside.facts c.self.inside.entries.items _ c.args.client (Want.Access c.args.tx c.args.access) c.self.view_is c.requires.proper) c.in_ok-answer.ensures.ok.answer_is)
    (c.push_reserved.ensures.items ∙ ap (λ es. es ++ entry c.args.client (StoreNote.Access c.args.tx c.args.access c.in_ok-answer.answer) ∷ []) c.room_for.ensures.same)
