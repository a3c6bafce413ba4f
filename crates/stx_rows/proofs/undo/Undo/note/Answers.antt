-- One entry more.
use Rattle.std.proofs.Common.{◌≡◌, ◌∷◌, ◌++◌, [], length, reverse, sym, ap, ◌∙◌, subst, arith, length-append}
use Rattle.stx_rows.specs.inner.Undoing.{AreMarks, FirstsAre, levels_of, noted}
use Rattle.stx_rows.proofs.UndoLaws.{levels-noted, marks-later, firsts-more}
use Rattle.stx_rows.proofs.undo.Undo.note.Goals as goal

pub invariant_of-self-2 : goal.invariant_of-self-2
invariant_of-self-2 c =
    let same : c.push_reserved.new.self.items ≡ c.self.inside.older.items ++ (c.args.row, c.args.value) ∷ [] = c.push_reserved.ensures.items ∙ ap (λ es. es ++ (c.args.row, c.args.value) ∷ []) c.in_ok-reserve.ensures.items in
    let place : c.len.result ≡ length c.self.inside.older.items = c.len.ensures ∙ c.reserve.new.self.ok.0 ∙ ap length c.in_ok-reserve.ensures.items in
    record {
      marked = subst (λ es. AreMarks (length es) (reverse c.self.inside.marks.items)) (sym same)
          (marks-later (length c.self.inside.older.items) (length (c.self.inside.older.items ++ (c.args.row, c.args.value) ∷ [])) (reverse c.self.inside.marks.items)
          (omega (arith, length-append c.self.inside.older.items ((c.args.row, c.args.value) ∷ []))) c.self.invariant.marked);
      firsts = subst (FirstsAre c.note_first.new.first) (sym same)
          (firsts-more c.self.inside.first c.note_first.new.first c.self.inside.older.items c.args.row c.args.value (record { place = c.len.result; value = c.args.value })
          c.self.invariant.firsts (ap (λ p. record { place = p; value = c.args.value }) place) c.in_ok-note_first.ensures.ok);
      none = c.note_first.ensures.none ∙ c.self.invariant.none;
      fits = c.note_first.ensures.room c.self.invariant.none c.self.invariant.fits;
    }

pub returns-clause-ok : goal.returns-clause-ok
returns-clause-ok c =
    let same : c.push_reserved.new.self.items ≡ c.self.inside.older.items ++ (c.args.row, c.args.value) ∷ [] = c.push_reserved.ensures.items ∙ ap (λ es. es ++ (c.args.row, c.args.value) ∷ []) c.in_ok-reserve.ensures.items in
    ap (λ es. levels_of es c.self.inside.marks.items) same
    ∙ levels-noted c.self.inside.older.items (reverse c.self.inside.marks.items) (c.args.row, c.args.value) c.self.invariant.marked
    ∙ ap (λ ls. noted ls (c.args.row, c.args.value)) c.self.view_is
