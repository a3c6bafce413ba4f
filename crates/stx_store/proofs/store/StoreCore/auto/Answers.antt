-- A row that is held is busy, and one that isn't is committed at once.
use Rattle.std.proofs.Common.{◌+◌, [], ◌∷◌, ◌++◌, length, None, refl, sym, ap, ◌∙◌, arith}
use Rattle.stx_base.specs.declared.call.Want.{Want}
use Rattle.stx_base.specs.declared.history.Answer.{Answer}
use Rattle.stx_base.specs.declared.history.StoreNote.{StoreNote}
use Rattle.stx_base.specs.Stores.{is_busy}
use Rattle.stx_base.specs.Alone.{row_of}
use Rattle.std.specs.FinMap.{get}
use Rattle.stx_store.specs.inner.Cells.{found_at}
use Rattle.stx_store.proofs.OwedLaws.{entry}
use Rattle.stx_store.proofs.CoreLaws.{proper_in, replies, fits-auto_busy, fits-auto, found-free, core-auto_busy, core-auto}
use Rattle.stx_store.proofs.store.StoreCore.auto.Goals as goal

pub invariant_of-self-in-Some : goal.invariant_of-self-in-Some
invariant_of-self-in-Some c =
    let ok = c.in_ok-self-inside.ensures.ok in
    core-auto_busy c.self.inside.facts c.self.inside.entries.items c.self.inside.owed _ _ c.self.inside.begun c.self.inside.locks c.self.inside.rows c.self.inside.journal c.self.invariant c.args.client c.args.access (Answer.Busy c.in-Some.other) (fits-auto_busy c.self.inside.facts c.self.inside.entries.items c.self.inside.owed _ _ c.self.inside.begun c.self.inside.locks c.self.inside.rows c.self.inside.journal c.self.invariant c.args.client c.args.access c.in-Some.other c.requires.client (proper_in c.self.inside.facts c.self.inside.entries.items _ c.args.client (Want.Auto c.args.access) c.self.view_is c.requires.proper) (ap (get c.self.inside.locks) (sym c.row_named-row.ensures) ∙ sym c.in-Some.ensures)) refl _ c.in_ok-self-inside.field-0 _ _ c.room_for.new.journal
    (c.push_reserved.ensures.items ∙ ap (λ es. es ++ entry c.args.client (StoreNote.Auto c.args.access (Answer.Busy c.in-Some.other)) ∷ []) c.room_for.ensures.same) ok.0 (omega (arith, ok.1, c.push_reserved.ensures.len, c.push_reserved.ensures.capacity)) c.room_for.ensures.list (omega (arith, ok.2))

pub returns-in-Some-clause-ok : goal.returns-in-Some-clause-ok
returns-in-Some-clause-ok c =
    replies c.self.inside.facts c.self.inside.entries.items c.push_reserved.new.self.items _ c.args.client (StoreNote.Auto c.args.access (Answer.Busy c.in-Some.other)) c.self.view_is (fits-auto_busy c.self.inside.facts c.self.inside.entries.items c.self.inside.owed _ _ c.self.inside.begun c.self.inside.locks c.self.inside.rows c.self.inside.journal c.self.invariant c.args.client c.args.access c.in-Some.other c.requires.client (proper_in c.self.inside.facts c.self.inside.entries.items _ c.args.client (Want.Auto c.args.access) c.self.view_is c.requires.proper) (ap (get c.self.inside.locks) (sym c.row_named-row.ensures) ∙ sym c.in-Some.ensures))
    (c.push_reserved.ensures.items ∙ ap (λ es. es ++ entry c.args.client (StoreNote.Auto c.args.access (Answer.Busy c.in-Some.other)) ∷ []) c.room_for.ensures.same)

pub invariant_of-self-2 : goal.invariant_of-self-2
invariant_of-self-2 c =
    let ok = c.in_ok-self-inside.ensures.ok in
    core-auto c.self.inside.facts c.self.inside.entries.items c.self.inside.owed _ _ c.self.inside.begun c.self.inside.locks c.self.inside.rows c.self.inside.journal c.self.invariant c.args.client c.args.access c.answer_at-answer.result (length c.list.result.now + 1) c.in_ok-changes.changes (fits-auto c.self.inside.facts c.self.inside.entries.items c.self.inside.owed _ _ c.self.inside.begun c.self.inside.locks c.self.inside.rows c.self.inside.journal c.self.invariant c.args.client c.args.access c.answer_at-answer.result c.requires.client (proper_in c.self.inside.facts c.self.inside.entries.items _ c.args.client (Want.Auto c.args.access) c.self.view_is c.requires.proper) (ap (get c.self.inside.locks) (sym c.row_named-row.ensures) ∙ sym c.in_default.ensures) (c.answer_at-answer.ensures ∙ ap (λ v. found_at v c.args.access) (c.read.ensures ∙ ap (get c.self.inside.rows.values) c.row_named-row.ensures)))
    (ap is_busy (c.answer_at-answer.ensures ∙ ap (λ v. found_at v c.args.access) (c.read.ensures ∙ ap (get c.self.inside.rows.values) c.row_named-row.ensures)) ∙ found-free (get c.self.inside.rows.values (row_of c.args.access)) c.args.access) (ap (get c.self.inside.locks) (sym c.row_named-row.ensures) ∙ sym c.in_default.ensures)
    _ c.in_ok-self-inside.field-0 _ _ c.put.new.rows c.append.new.self
    (c.push_reserved-2.ensures.items ∙ ap (λ es. es ++ entry c.args.client (StoreNote.Auto c.args.access c.answer_at-answer.result) ∷ []) c.room_for.ensures.same) ok.0 (omega (arith, ok.1, c.push_reserved-2.ensures.len, c.push_reserved-2.ensures.capacity)) c.in_ok-changes.ensures.values c.put.ensures.older
    (ap (λ l. length l + 1) (c.list.ensures ∙ c.room_for.ensures.list)) c.in_ok-changes.ensures.changes
    (c.append.ensures.list ∙ ap (λ l. l ++ record { number = (length c.list.result.now + 1); client = c.args.client; tx = None; changes = c.in_ok-changes.changes } ∷ []) c.room_for.ensures.list) (omega (arith, ok.2, c.append.ensures.spare))

pub returns-clause-ok : goal.returns-clause-ok
returns-clause-ok c =
    replies c.self.inside.facts c.self.inside.entries.items c.push_reserved-2.new.self.items _ c.args.client (StoreNote.Auto c.args.access c.answer_at-answer.result) c.self.view_is (fits-auto c.self.inside.facts c.self.inside.entries.items c.self.inside.owed _ _ c.self.inside.begun c.self.inside.locks c.self.inside.rows c.self.inside.journal c.self.invariant c.args.client c.args.access c.answer_at-answer.result c.requires.client (proper_in c.self.inside.facts c.self.inside.entries.items _ c.args.client (Want.Auto c.args.access) c.self.view_is c.requires.proper) (ap (get c.self.inside.locks) (sym c.row_named-row.ensures) ∙ sym c.in_default.ensures) (c.answer_at-answer.ensures ∙ ap (λ v. found_at v c.args.access) (c.read.ensures ∙ ap (get c.self.inside.rows.values) c.row_named-row.ensures)))
    (c.push_reserved-2.ensures.items ∙ ap (λ es. es ++ entry c.args.client (StoreNote.Auto c.args.access c.answer_at-answer.result) ∷ []) c.room_for.ensures.same)
