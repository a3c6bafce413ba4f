-- What the tables state lasts while others are read.
use Rattle.std.proofs.Common.{List, map, codes}
use Rattle.std.specs.List.{flat_map}
use Rattle.toml.specs.View.{table_view}
use Rattle.stx_scenario.specs.declared.scenario.Method.{Method}
use Rattle.stx_names.specs.declared.numbered.Numbered.{Numbered}
use Rattle.stx_draft.specs.Draft.{method_in_table, listener_in, sentences_at, callback_sentences}
use Rattle.stx_draft.specs.Parts.{tables_at}
use Rattle.stx_draft.proofs.GrowthLaws.{lasts_on, lasts_now}
use Rattle.stx_draft.proofs.draft.bodies_in.Goals as goal

pub returns-clause-methods : goal.returns-clause-methods
returns-clause-methods c =
    let root = table_view c.args.root.now in
    let n1 = c.bodied_of_array.new.names in
    let n2 = c.bodied_of_array-2.new.names in
    let n3 = c.bodied_of_array-3.new.names in
    let made : Numbered → List Method = λ N. map (method_in_table N) (tables_at (codes "methods") root) in
    let stated = c.in_ok-methods.methods in
    lasts_now made n3 stated
    (lasts_on made n2 n3 (flat_map (sentences_at (codes "body")) (tables_at (codes "listeners") root)) stated c.in_ok-listeners.ensures.names
    (lasts_on made n1 n2 (flat_map callback_sentences (tables_at (codes "syncs") root)) stated c.in_ok-syncs.ensures.names c.in_ok-methods.ensures.stated))

pub returns-clause-listeners : goal.returns-clause-listeners
returns-clause-listeners c =
    lasts_now (λ N. map (listener_in N) (tables_at (codes "listeners") (table_view c.args.root.now))) c.bodied_of_array-3.new.names c.in_ok-listeners.listeners c.in_ok-listeners.ensures.stated
