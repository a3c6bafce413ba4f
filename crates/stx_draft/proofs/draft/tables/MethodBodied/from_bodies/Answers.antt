-- Part by part.
use Rattle.std.proofs.Common.{◌∙◌, ap, codes}
use Rattle.toml.specs.View.{table_view}
use Rattle.stx_names.specs.Numbers.{number_of}
use Rattle.stx_draft.specs.Draft.{sentences_at}
use Rattle.stx_draft.proofs.GrowthLaws.{method_lasts}
use Rattle.stx_draft.proofs.draft.tables.MethodBodied.from_bodies.Goals as goal

pub returns-clause-stated : goal.returns-clause-stated
returns-clause-stated c =
    method_lasts c.args.names.now c.body_at.new.names (sentences_at (codes "body") (table_view c.args.table.now)) c.in_ok-body_at.ensures.names (table_view c.args.table.now) c.in_ok-new.field-0 (c.in_ok-new.ensures ∙ c.text_at.ensures)
    c.bean_no.result.0 c.in_ok-tx_at.field-0 c.in_ok-body_at.field-0 (c.bean_no.ensures ∙ ap (number_of c.args.names.now.beans) c.text_at-bean.ensures) c.in_ok-tx_at.ensures
    (rw (← c.text_at-bean.ensures) c.in_ok-body_at.ensures.body)
