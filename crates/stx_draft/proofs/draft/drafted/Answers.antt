-- Part by part, by the names with all rows.
use Rattle.std.proofs.Common.{◌≡◌, ◌∙◌, ap}
use Rattle.toml.specs.View.{table_view}
use Rattle.stx_draft.specs.Draft.{all_names, sentences_of}
use Rattle.stx_draft.specs.inner.Growing.{grown}
use Rattle.stx_draft.proofs.DraftLaws.{drafted_so}
use Rattle.stx_draft.proofs.draft.drafted.Goals as goal

pub returns-clause-drafted : goal.returns-clause-drafted
returns-clause-drafted c =
    let root = table_view c.args.root.now in
    let bodies = c.in_ok-bodies.ensures in
    let listed = c.in_ok-listed.ensures in
    let names : c.bodies_in.new.names ≡ all_names root = bodies.names ∙ ap (λ N. grown N (sentences_of root)) c.in_ok-names.ensures in
    drafted_so root c.bodies_in.new.names _ _ _ _ _ _ _ _ _ _ _
    names c.settings_of-settings.ensures listed.events listed.schedule listed.row_names listed.values
    listed.classes c.in_ok-beans.ensures bodies.methods bodies.syncs bodies.listeners c.in_ok-clients.ensures

pub returns-clause-few_rows : goal.returns-clause-few_rows
returns-clause-few_rows c = c.in_ok-listed.ensures.few_rows
