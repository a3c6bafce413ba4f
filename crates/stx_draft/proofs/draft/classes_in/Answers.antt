-- The built-in classes, and what each table states.
use Rattle.std.proofs.Common.{◌++◌, ◌∙◌, ap, map}
use Rattle.toml.specs.View.{table_view}
use Rattle.stx_scenario.specs.BuiltIn.{built_in}
use Rattle.stx_draft.specs.Draft.{class_in}
use Rattle.stx_draft.proofs.PartLaws.{mapped_so}
use Rattle.stx_draft.proofs.draft.classes_in.Goals as goal

pub returns : goal.returns
returns c =
    c.in_ok-classes.ensures
    ∙ ap (λ before. before ++ map (λ table. class_in c.args.names.now (table_view table.now)) c.as_slice.result.now) c.in_ok-before.ensures.classes
    ∙ ap (λ declared. built_in ++ declared) (mapped_so (λ table. table_view table.now) (class_in c.args.names.now) c.as_slice.result.now _
    (ap (map (λ table. table_view table.now)) c.as_slice.ensures.value ∙ c.in_ok-tables.ensures))
