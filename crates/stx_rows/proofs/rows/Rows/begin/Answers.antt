-- One empty level.
use Rattle.std.proofs.Common.{◌==◌, cond, [], ◌∷◌, Some, map, ap, ◌∙◌}
use Rattle.std.specs.FinMap.{get, from_entries, empty}
use Rattle.stx_rows.proofs.RowsLaws.{edited-by, edited-stack}
use Rattle.stx_rows.proofs.rows.Rows.begin.Goals as goal

pub returns-clause-ok : goal.returns-clause-ok
returns-clause-ok c t =
    edited-stack c.self.inside.undo.entries c.insert.new.self.entries c.args.tx (Some c.new.result) (Some (empty ∷ [])) (edited-by c.self.inside.undo.entries c.insert.new.self.entries c.args.tx (Some c.new.result) (c.in_ok-insert.ensures.updates.0))
    (ap (λ levels. Some (map from_entries levels)) c.new.ensures) t
    ∙ ap (λ v. cond (t == c.args.tx) (Some (empty ∷ [])) (get v.older t)) c.self.view_is
