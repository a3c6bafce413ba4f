-- All levels are one.
use Rattle.std.proofs.Common.{◌∷◌, [], reverse, sym, ap, ◌∙◌}
use Rattle.stx_rows.specs.inner.Undoing.{levels_of, flat}
use Rattle.stx_rows.proofs.UndoLaws.{flat-levels}
use Rattle.stx_rows.proofs.undo.Undo.forget_all.Goals as goal

pub returns : goal.returns
returns c =
    ap (levels_of c.self.inside.older.items) c.clear.ensures.items
    ∙ ap (λ l. l ∷ []) (sym (flat-levels c.self.inside.older.items (reverse c.self.inside.marks.items)) ∙ ap flat c.self.view_is)
