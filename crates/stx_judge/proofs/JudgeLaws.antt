-- The refusal of a scenario, from those of the groups of stages.
use Rattle.std.proofs.Common.{◌≡◌, List, [], ◌∷◌, ◌++◌, Option, Some, None, refl, sym, ◌∙◌, ap}
use Rattle.std.specs.Option.{option_or, option_map}
use Rattle.std.proofs.lemmas.Option.{none-some}
use Rattle.stx_scenario.specs.declared.scenario.Scenario.{Scenario}
use Rattle.stx_scenario.specs.declared.numbers.ClassNo.{ClassNo}
use Rattle.stx_base.specs.Lines.{class_name}
use Rattle.stx_base.specs.Classes.{first_own_ancestor, first_too_deep, IsTree}
use Rattle.stx_refusals.specs.declared.fault.ReadFault.{ReadFault}
use Rattle.stx_refusals.specs.declared.fault.ReadFault.TheVariants.{ClassCycle, ClassDepth}
use Rattle.stx_refusals.specs.declared.fault.Stage.TheVariants.{UnknownRef}
use Rattle.stx_refusals.specs.Faults.{first_at, first_some}
use Rattle.stx_judge.specs.Judge.{judged, scenario_faults, class_cycle, class_depth, numbered_class, place_stages, class_stages, call_stages, linked_stages}
use Rattle.stx_judge.specs.Calls.{call_cycle, call_depth, too_large}
use Rattle.stx_judge.specs.Stages.{place_refusal, class_refusal, callback_refusal, call_refusal, linked_refusal, looked_up}
use Rattle.stx_judge.specs.Laws.{ValidIsInOrder}
use Rattle.stx_refusals.proofs.QuietLaws.{some_none, mapped_none}
use Rattle.stx_judge.proofs.OrderLaws.{accepted_places, accepted_callbacks, accepted_range}
use Rattle.stx_judge.proofs.ParentLaws.{parents_known}
use Rattle.stx_judge.proofs.CallLaws.{none_cycles, none_deep, not_large}

-- ---- groups of stages

first_append : {A : Type 0} (xs ys : List (Option A)) → first_some (xs ++ ys) ≡ option_or (first_some xs) (first_some ys)
first_append [] ys = refl
first_append (Some a ∷ xs) ys = refl
first_append (None ∷ xs) ys = first_append xs ys

first_one : {A : Type 0} (o : Option A) → first_some (o ∷ []) ≡ o
first_one (Some a) = refl
first_one None = refl

pub linked_groups : (S : Scenario) → linked_refusal S ≡ option_or (class_refusal S) (option_or (callback_refusal S) (call_refusal S))
linked_groups S =
    first_append (class_stages S) (callback_refusal S ∷ call_stages S)
    ∙ ap (option_or (class_refusal S)) (first_append (callback_refusal S ∷ []) (call_stages S)
    ∙ ap (λ refusal. option_or refusal (call_refusal S)) (first_one (callback_refusal S)))

pub judged_groups : (S : Scenario) → judged S ≡ option_or (place_refusal S) (linked_refusal S)
unfolding judged
judged_groups S = first_append (place_stages S) (linked_stages S)

pub looked_up_groups : (S : Scenario) → looked_up S ≡ option_or (first_at UnknownRef (scenario_faults S)) (linked_refusal S)
unfolding looked_up
looked_up_groups S =
    let references = first_at UnknownRef (scenario_faults S) in
    first_append (references ∷ []) (linked_stages S) ∙ ap (λ refusal. option_or refusal (linked_refusal S)) (first_one references)

neither : {A : Type 0} (a b : Option A) → option_or a b ≡ None → (a ≡ None) × (b ≡ None)
neither (Some a) b h = absurd (none-some a (sym h))
neither None b h = (refl, h)

-- ---- where a group refuses, and where none does

pub passed_places : (S : Scenario) → place_refusal S ≡ None → judged S ≡ linked_refusal S
passed_places S place = judged_groups S ∙ ap (λ refusal. option_or refusal (linked_refusal S)) place

pub refused_reference : (S : Scenario) (fault : ReadFault) → first_at UnknownRef (scenario_faults S) ≡ Some fault → looked_up S ≡ Some fault
refused_reference S fault reference = looked_up_groups S ∙ ap (λ refusal. option_or refusal (linked_refusal S)) reference

pub passed_references : (S : Scenario) → first_at UnknownRef (scenario_faults S) ≡ None → looked_up S ≡ linked_refusal S
passed_references S reference = looked_up_groups S ∙ ap (λ refusal. option_or refusal (linked_refusal S)) reference

pub refused_class : (S : Scenario) (fault : ReadFault) → class_refusal S ≡ Some fault → linked_refusal S ≡ Some fault
refused_class S fault class = linked_groups S ∙ ap (λ refusal. option_or refusal (option_or (callback_refusal S) (call_refusal S))) class

pub refused_callback : (S : Scenario) (fault : ReadFault) → class_refusal S ≡ None → callback_refusal S ≡ Some fault → linked_refusal S ≡ Some fault
refused_callback S fault class callback =
    linked_groups S ∙ ap (λ refusal. option_or refusal (option_or (callback_refusal S) (call_refusal S))) class
    ∙ ap (λ refusal. option_or refusal (call_refusal S)) callback

pub refused_call : (S : Scenario) (call : Option ReadFault) → class_refusal S ≡ None → callback_refusal S ≡ None → call ≡ call_refusal S
    → call ≡ linked_refusal S
refused_call S call class callback result =
    result ∙ sym (
    linked_groups S ∙ ap (λ refusal. option_or refusal (option_or (callback_refusal S) (call_refusal S))) class
    ∙ ap (λ refusal. option_or refusal (call_refusal S)) callback)

-- ---- classes

pub tree_accepted : (S : Scenario) → IsTree S.classes → class_refusal S ≡ None
tree_accepted S tree =
    ap (λ cycle. first_some (option_map (λ n. ClassCycle (class_name S (numbered_class n))) cycle ∷ class_depth S ∷ [])) tree.acyclic
    ∙ ap (λ deep. first_some (option_map (λ n. ClassDepth (class_name S (numbered_class n))) deep ∷ [])) tree.near

pub cycle_refused : (S : Scenario) (class : ClassNo) → first_own_ancestor S.classes ≡ Some class.0
    → class_refusal S ≡ Some (ClassCycle (class_name S class))
cycle_refused S class first =
    ap (λ cycle. first_some (option_map (λ n. ClassCycle (class_name S (numbered_class n))) cycle ∷ class_depth S ∷ [])) first

pub depth_refused : (S : Scenario) (class : ClassNo) → first_own_ancestor S.classes ≡ None → first_too_deep S.classes ≡ Some class.0
    → class_refusal S ≡ Some (ClassDepth (class_name S class))
depth_refused S class acyclic first =
    ap (λ cycle. first_some (option_map (λ n. ClassCycle (class_name S (numbered_class n))) cycle ∷ class_depth S ∷ [])) acyclic
    ∙ ap (λ deep. first_some (option_map (λ n. ClassDepth (class_name S (numbered_class n))) deep ∷ [])) first

-- ---- a valid scenario

pub valid_groups : (S : Scenario) → judged S ≡ None
    → (place_refusal S ≡ None) × (class_refusal S ≡ None) × (callback_refusal S ≡ None) × (call_refusal S ≡ None)
valid_groups S accepted =
    let place = neither (place_refusal S) _ (sym (judged_groups S) ∙ accepted) in
    let class = neither (class_refusal S) _ (sym (linked_groups S) ∙ place.1) in
    let callback = neither (callback_refusal S) _ class.1 in
    (place.0, class.0, callback.0, callback.1)

pub valid_is_in_order : ValidIsInOrder
valid_is_in_order S valid =
    let groups = valid_groups S valid.accepted in
    let begins = (valid.shaped).classes in
    let places = accepted_places S groups.0 in
    let callbacks = accepted_callbacks S groups.2 in
    let range = accepted_range S places callbacks in
    let cycle = some_none (class_cycle S) _ groups.1 in
    let depth = some_none (class_depth S) _ cycle.1 in
    let call_cycle = some_none (call_cycle S) _ groups.3 in
    let call_depth = some_none (call_depth S) _ call_cycle.1 in
    let large = some_none (too_large S) _ call_depth.1 in
    record {
      places = places;
      callbacks = callbacks;
      range = range;
      tree = record { parents = parents_known S begins places.classes; acyclic = mapped_none _ _ cycle.0; near = mapped_none _ _ depth.0 };
      acyclic = none_cycles S range call_cycle.0;
      shallow = none_deep S call_depth.0;
      light = not_large S large.0;
    }
