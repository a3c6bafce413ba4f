-- Part by part.
use Rattle.std.proofs.Common.{◌∙◌, FitsSigned, w32, rules, List, None, codes}
use Rattle.std.proofs.lemmas.Int.{to_z-of_z}
use Rattle.toml.specs.View.{table_view}
use Rattle.stx_scenario.specs.declared.scenario.Stmt.{Stmt}
use Rattle.stx_names.specs.declared.numbered.Numbered.{Numbered}
use Rattle.stx_draft.specs.Draft.{body_at, sentences_at}
use Rattle.stx_draft.proofs.GrowthLaws.{sync_lasts, lasts_on}
use Rattle.stx_draft.proofs.draft.tables.SyncDeclBodied.from_bodies.Goals as goal

pub returns-clause-stated : goal.returns-clause-stated
returns-clause-stated c =
    let fits : FitsSigned w32 c.order_at.result = search rules in
    let table = table_view c.args.table.now in
    let n1 = c.body_at.new.names in
    let n2 = c.body_at-2.new.names in
    let n3 = c.body_at-3.new.names in
    let n4 = c.body_at-4.new.names in
    let s2 = sentences_at (codes "before_completion") table in
    let s3 = sentences_at (codes "after_commit") table in
    let s4 = sentences_at (codes "after_completion") table in
    let g2 = c.in_ok-body_at-2.ensures.names in
    let g3 = c.in_ok-body_at-3.ensures.names in
    let g4 = c.in_ok-body_at-4.ensures.names in
    let b1 = c.in_ok-body_at.field-0 in
    let b2 = c.in_ok-body_at-2.field-0 in
    let b3 = c.in_ok-body_at-3.field-0 in
    let m1 : Numbered → List Stmt = λ N. body_at N None (codes "before_commit") table in
    let m2 : Numbered → List Stmt = λ N. body_at N None (codes "before_completion") table in
    let m3 : Numbered → List Stmt = λ N. body_at N None (codes "after_commit") table in
    rw to_z-of_z
    (sync_lasts n4 table c.in_ok-new.field-0 c.order_at.result b1 b2 b3 c.in_ok-body_at-4.field-0 (c.in_ok-new.ensures ∙ c.text_at.ensures) c.order_at.ensures
    (lasts_on m1 n3 n4 s4 b1 g4 (lasts_on m1 n2 n3 s3 b1 g3 (lasts_on m1 n1 n2 s2 b1 g2 c.in_ok-body_at.ensures.body)))
    (lasts_on m2 n3 n4 s4 b2 g4 (lasts_on m2 n2 n3 s3 b2 g3 c.in_ok-body_at-2.ensures.body))
    (lasts_on m3 n3 n4 s4 b3 g4 c.in_ok-body_at-3.ensures.body)
    c.in_ok-body_at-4.ensures.body)
