use Rattle.std.proofs.Common.{◌∙◌, Ok, length, take, sym, ap, subst}
use Rattle.toml.specs.View.{table_view}
use Rattle.stx_scenario.specs.declared.scenario.Scenario.{Scenario}
use Rattle.stx_scenario.specs.BuiltIn.{built_in}
use Rattle.stx_base.specs.Valid.{IsFew}
use Rattle.stx_judge.specs.Judge.{IsValid}
use Rattle.stx_judge.specs.Stages.{PlacesQuiet, looked_up}
use Rattle.stx_draft.proofs.DocumentLaws.{none_twice}
use Rattle.stx_draft.specs.Draft.{drafted}
use Rattle.stx_read.specs.Reading.{answer}
use Rattle.stx_read.proofs.QuietDrafts.{quiet_draft}
use Rattle.stx_read.proofs.ReadLaws.{begins_built_in, valid_draft, remaining_looked_up, read_whole}
use Rattle.stx_read.proofs.read.read_scenario.Goals as goal

pub drafted-requires : goal.drafted-requires
drafted-requires c = none_twice (table_view c.in-Ok.root) (sym c.in_ok-fault.ensures ∙ c.in_default.is)

pub looked_up_fault-requires-clause-built_in : goal.looked_up_fault-requires-clause-built_in
looked_up_fault-requires-clause-built_in c =
    ap (λ (S : Scenario). take (length built_in) S.classes) c.in_ok-scenario.ensures.drafted ∙ begins_built_in (table_view c.in-Ok.root)

pub looked_up_fault-requires-clause-places : goal.looked_up_fault-requires-clause-places
looked_up_fault-requires-clause-places c =
    subst PlacesQuiet (sym c.in_ok-scenario.ensures.drafted) (quiet_draft (table_view c.in-Ok.root) (sym c.in_ok-fault.ensures ∙ c.in_default.is))

pub returns-clause-ok : goal.returns-clause-ok
returns-clause-ok c =
    let root = table_view c.in-Ok.root in
    let stated = c.in_ok-scenario.ensures.drafted in
    read_whole c.args.bytes.now root c.in_ok-fault-2.field-0 c.in-Ok.ensures.ok (sym c.in_ok-fault.ensures ∙ c.in_default.is) (c.in_ok-fault-2.ensures ∙ ap looked_up stated)
    ∙ ap (λ looked. answer looked (drafted root)) c.in-None.is ∙ ap (λ S. Ok S) (sym stated)

pub returns-in-Some-2-clause-refused : goal.returns-in-Some-2-clause-refused
returns-in-Some-2-clause-refused c = λ other.
    let root = table_view c.in-Ok.root in
    let stated = c.in_ok-scenario.ensures.drafted in
    read_whole c.args.bytes.now root c.in_ok-fault-2.field-0 c.in-Ok.ensures.ok (sym c.in_ok-fault.ensures ∙ c.in_default.is) (c.in_ok-fault-2.ensures ∙ ap looked_up stated)
    ∙ ap (λ looked. answer looked (drafted root)) c.in-Some-2.is

pub returns-clause-valid : goal.returns-clause-valid
returns-clause-valid c =
    let root = table_view c.in-Ok.root in
    let stated = c.in_ok-scenario.ensures.drafted in
    let few = subst (λ (S : Scenario). IsFew (length S.row_names)) stated c.in_ok-scenario.ensures.few_rows in
    let none = remaining_looked_up root (sym c.in_ok-fault.ensures ∙ c.in_default.is) ∙ ap looked_up (sym stated) ∙ sym c.in_ok-fault-2.ensures ∙ c.in-None.is in
    subst IsValid (sym stated) (valid_draft root few none)
