-- The innermost level joins the one below.
use Rattle.std.proofs.Common.{◌≡◌, ℕ, List, [], ◌∷◌, ◌++◌, Option, Some, None, length, reverse, append-nil, refl, sym, ap, ◌∙◌, subst, arith}
use Rattle.std.specs.Option.{option_to_list}
use Rattle.stx_rows.specs.inner.Undoing.{Older, levels, levels_of, AreMarks, joined}
use Rattle.stx_rows.proofs.UndoLaws.{reverse-push, levels-joined, marks-later}
use Rattle.stx_rows.proofs.undo.Undo.forget.Goals as goal

marks_kept : (end : ℕ) (old new : List ℕ) (mark : Option ℕ) → old ≡ new ++ option_to_list mark → AreMarks end (reverse old) → AreMarks end (reverse new)
marks_kept end old new None is are = subst (λ ms. AreMarks end (reverse ms)) (is ∙ append-nil new) are
marks_kept end old new (Some mark) is are =
    let parts : AreMarks end (mark ∷ reverse new) = subst (AreMarks end) (ap reverse is ∙ reverse-push new mark) are in
    marks-later mark end (reverse new) parts.0 parts.1

one_level : (older : List Older) → joined (older ∷ []) ≡ older ∷ []
one_level older = refl

joins : (older : List Older) (old new : List ℕ) (mark : Option ℕ) → (mark ≡ None → old ≡ []) → old ≡ new ++ option_to_list mark → AreMarks (length older) (reverse old) → levels_of older new ≡ joined (levels_of older old)
joins older old new None none is are =
    let new_none : new ≡ [] = sym (is ∙ append-nil new) ∙ none refl in
    ap (levels_of older) new_none ∙ sym (ap (λ ms. joined (levels_of older ms)) (none refl))
joins older old new (Some mark) none is are =
    let same : reverse old ≡ mark ∷ reverse new = ap reverse is ∙ reverse-push new mark in
    levels-joined older mark (reverse new) (subst (AreMarks (length older)) same are) ∙ ap (λ ms. joined (levels older ms)) (sym same)

empty_items : (xs : List ℕ) → length xs ≡ 0 → xs ≡ []
empty_items [] h = refl
empty_items (x ∷ xs) h = absurd (omega arith)

pub invariant_of-self : goal.invariant_of-self
invariant_of-self c = record {
  marked = marks_kept (length c.self.inside.older.items) c.self.inside.marks.items c.pop.new.self.items c.pop.result c.pop.ensures.items c.self.invariant.marked;
  firsts = c.self.invariant.firsts;
  none = c.self.invariant.none;
  fits = c.self.invariant.fits;
}

pub returns : goal.returns
returns c = joins c.self.inside.older.items c.self.inside.marks.items c.pop.new.self.items c.pop.result (λ none. empty_items c.self.inside.marks.items (let counted = rw none at c.pop.ensures.cases in omega (arith, counted.0, c.self.inside.marks.ok.0))) c.pop.ensures.items c.self.invariant.marked ∙ ap joined c.self.view_is
