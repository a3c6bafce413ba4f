-- What is read is valid.
use Rattle.std.proofs.Common.{◌≡◌, ℕ, List, [], ◌∷◌, Option, Some, None, codes, length, map, take, refl, sym, ◌∙◌}
use Rattle.toml.specs.Data.{Members}
use Rattle.stx_scenario.specs.BuiltIn.{built_in}
use Rattle.stx_refusals.specs.declared.fault.ReadFault.{ReadFault}
use Rattle.stx_refusals.specs.declared.fault.Stage.TheVariants.{UnknownRef}
use Rattle.stx_refusals.specs.Faults.{first_at, first_some}
use Rattle.stx_draft.specs.Document.{document_of, refused_in}
use Rattle.stx_draft.proofs.DocumentLaws.{none_twice}
use Rattle.stx_draft.specs.Parts.{tables_at}
use Rattle.stx_draft.specs.Draft.{all_names, class_in, drafted}
use Rattle.stx_base.specs.Valid.{IsFew}
use Rattle.stx_judge.specs.Judge.{IsValid, judged, scenario_faults}
use Rattle.stx_judge.specs.Stages.{place_refusal, looked_up}
use Rattle.stx_read.specs.Reading.{answer, remaining, scenario_of}
use Rattle.stx_read.proofs.QuietDrafts.{quiet_draft}
use Rattle.stx_read.proofs.NoDuplicates.{drafts_differ}
use Rattle.stx_draft.proofs.DraftLaws.{take-first}
use Rattle.stx_read.proofs.ShapeLaws.{shaped, few_parts}
use Rattle.stx_judge.proofs.JudgeLaws.{valid_groups, refused_reference, passed_references, passed_places}
use Rattle.stx_judge.proofs.OrderLaws.{accepted_places, quiet_places}
use Rattle.stx_refusals.proofs.QuietLaws.{some_none}

pub begins_built_in : (root : Members) → take (length built_in) (drafted root).classes ≡ built_in
unfolding drafted
begins_built_in root = take-first built_in (map (class_in (all_names root)) (tables_at (codes "classes") root))

pub valid_draft : (root : Members) → IsFew (length (drafted root).row_names) → remaining (drafted root) ≡ None → IsValid (drafted root)
valid_draft root rows none =
    let accepted = (some_none (judged (drafted root)) [] (some_none (first_at UnknownRef (scenario_faults (drafted root))) _ none).1).0 in
    let places = accepted_places (drafted root) (valid_groups (drafted root) accepted).0 in
    record { shaped = shaped root (few_parts (drafted root) places rows); accepted = accepted }

-- ---- what remains once a document is accepted: the stages from the look-up of names on

some_first : (first : Option ReadFault) (next looked : Option ReadFault) → ((fault : ReadFault) → first ≡ Some fault → looked ≡ Some fault)
    → (first ≡ None → looked ≡ next) → first_some (first ∷ next ∷ []) ≡ looked
some_first (Some fault) next looked refused passed = sym (refused fault refl)
some_first None (Some fault) looked refused passed = sym (passed refl)
some_first None None looked refused passed = sym (passed refl)

pub remaining_looked_up : (root : Members) → refused_in root ≡ None → remaining (drafted root) ≡ looked_up (drafted root)
remaining_looked_up root none =
    let S = drafted root in
    let quiet = quiet_draft root none in
    some_first (first_at UnknownRef (scenario_faults S)) (judged S) (looked_up S) (refused_reference S)
    (λ known.
    let order = quiet_places S quiet known in
    let differ = drafts_differ root (none_twice root none) order in
    let places : place_refusal S ≡ None = rw (quiet.names, quiet.ranges, quiet.counts, differ, quiet.words, known) in
    passed_references S known ∙ sym (passed_places S places))

-- what is read of an accepted document
pub read_whole : (bytes : List ℕ) (root : Members) (looked : Option ReadFault) → document_of bytes ≡ Some root → refused_in root ≡ None
    → looked ≡ looked_up (drafted root) → scenario_of bytes ≡ answer looked (drafted root)
unfolding scenario_of
read_whole bytes root looked document none is = rw (document, none, remaining_looked_up root none, is)
