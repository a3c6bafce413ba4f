-- Part by part.
use Rattle.std.proofs.Common.{◌∙◌, ap, codes, unwrap_or, FitsSigned, w32, rules}
use Rattle.std.proofs.lemmas.Int.{to_z-of_z}
use Rattle.toml.specs.View.{table_view}
use Rattle.stx_scenario.specs.declared.scenario.Phase.{Phase}
use Rattle.stx_names.specs.Numbers.{number_of}
use Rattle.stx_names.specs.Words.{phase_in}
use Rattle.stx_draft.specs.Draft.{sentences_at}
use Rattle.stx_draft.proofs.GrowthLaws.{listener_lasts}
use Rattle.stx_draft.proofs.draft.tables.ListenerBodied.from_bodies.Goals as goal

pub returns-clause-stated : goal.returns-clause-stated
returns-clause-stated c =
    let fits : FitsSigned w32 c.order_at.result = search rules in
    rw to_z-of_z
    (listener_lasts c.args.names.now c.body_at.new.names (sentences_at (codes "body") (table_view c.args.table.now)) c.in_ok-body_at.ensures.names (table_view c.args.table.now) c.in_ok-new.field-0 (c.in_ok-new.ensures ∙ c.text_at-2.ensures)
    c.event_no.result.0 c.unwrap_or.result c.order_at.result c.flag_at.result c.in_ok-body_at.field-0 (c.event_no.ensures ∙ ap (number_of c.args.names.now.events) c.text_at-3.ensures)
    (c.unwrap_or.ensures ∙ ap (λ phase. unwrap_or phase Phase.AfterCommit) (c.phase_in-phase.ensures ∙ ap phase_in c.text_at.ensures)) c.order_at.ensures c.flag_at.ensures c.in_ok-body_at.ensures.body)
