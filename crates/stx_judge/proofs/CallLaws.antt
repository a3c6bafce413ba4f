-- What the call graph of a scenario says of the first method that leads to itself, of the first that is too deep, and of
-- the weight.
use Rattle.std.proofs.Common.{◌≡◌, ℕ, ◌<◌, ◌≤◌, Bool, true, false, nat_lt, cond, [], ◌∷◌, Some, None, length, refl, sym, ◌∙◌, ap, arith}
use Rattle.std.specs.Option.{option_map}
use Rattle.std.proofs.lemmas.Bool.{false≢true, false_from_ne_true, ltb-true, ltb-false}
use Rattle.std.proofs.lemmas.Option.{none-some}
use Rattle.stx_scenario.specs.declared.numbers.MethodNo.{MethodNo}
use Rattle.stx_scenario.specs.declared.scenario.Scenario.{Scenario}
use Rattle.stx_base.specs.Weight.{InRange, IsOnCycle, leads, rank, weight}
use Rattle.stx_base.specs.Lines.{method_name}
use Rattle.stx_graph.specs.Ranks.{IsFirst}
use Rattle.stx_graph.specs.Graph.{LeadsToItself, IsTooDeep, NoCycle, NoneTooDeep, IsAccepted, IsDue}
use Rattle.stx_graph.specs.declared.graph.GraphFault.{GraphFault}
use Rattle.stx_refusals.specs.declared.fault.ReadFault.TheVariants.{CallCycle, CallDepth, TooLarge}
use Rattle.stx_judge.specs.Calls.{numbered, leads_to_itself, call_cycle, call_depth, too_large}
use Rattle.stx_refusals.specs.Faults.{first_some}
use Rattle.stx_judge.specs.Stages.{call_refusal}
use Rattle.stx_refusals.proofs.QuietLaws.{mapped_none}
use Rattle.stx_judge.proofs.SearchLaws.{search_none, search_first, none_passes}
use Rattle.stx_judge.proofs.CycleLaws.{cycles_are_ways}

-- ---- cycles

no_way : (S : Scenario) → InRange S → (m : MethodNo) → m.0 < length S.methods → ¬ (LeadsToItself S m) → leads_to_itself S m ≡ false
no_way S range m within none =
    false_from_ne_true _ (λ own. none (record { method = within; cycle = (cycles_are_ways S range m within).0 own }))

pub cycle_none : (S : Scenario) → InRange S → NoCycle S → call_cycle S ≡ None
cycle_none S range none =
    ap (option_map _) (search_none (λ n. leads_to_itself S (numbered n)) 0 (length S.methods)
    (λ q low high. no_way S range (numbered q) (omega (arith, high)) (none (numbered q))))

pub cycle_first : (S : Scenario) → InRange S → (m : MethodNo) → IsFirst (LeadsToItself S) m → call_cycle S ≡ Some (CallCycle (method_name S m))
cycle_first S range m first =
    let within = (first.here).method in
    ap (option_map _) (search_first (λ n. leads_to_itself S (numbered n)) 0 (length S.methods) m.0 (omega arith) (omega (arith, within))
    ((cycles_are_ways S range m within).1 (first.here).cycle)
    (λ q below. no_way S range (numbered q) (omega (arith, below, within)) (first.first (numbered q) below)))

pub none_cycles : (S : Scenario) → InRange S → call_cycle S ≡ None → (m : MethodNo) → m.0 < length S.methods → ¬ (IsOnCycle (leads S) m)
none_cycles S range none m within cycle =
    let missing = none_passes (λ n. leads_to_itself S (numbered n)) 0 (length S.methods) m.0 (mapped_none _ _ none) (omega arith) (omega (arith, within)) in
    false≢true (sym missing ∙ (cycles_are_ways S range m within).1 cycle)

-- ---- ranks

not_deep : (S : Scenario) (m : MethodNo) → m.0 < length S.methods → ¬ (IsTooDeep S m) → nat_lt 64 (rank S m) ≡ false
not_deep S m within none = false_from_ne_true _ (λ deep. none (record { method = within; deep = ltb-true 64 (rank S m) deep }))

pub depth_none : (S : Scenario) → NoneTooDeep S → call_depth S ≡ None
depth_none S none =
    ap (option_map _) (search_none (λ n. nat_lt 64 (rank S (numbered n))) 0 (length S.methods)
    (λ q low high. not_deep S (numbered q) (omega (arith, high)) (none (numbered q))))

pub depth_first : (S : Scenario) (m : MethodNo) → IsFirst (IsTooDeep S) m → call_depth S ≡ Some (CallDepth (method_name S m))
depth_first S m first =
    let within = (first.here).method in
    let deep = (first.here).deep in
    ap (option_map _) (search_first (λ n. nat_lt 64 (rank S (numbered n))) 0 (length S.methods) m.0 (omega arith) (omega (arith, within))
    (grind (arith, deep))
    (λ q below. not_deep S (numbered q) (omega (arith, below, within)) (first.first (numbered q) below)))

pub none_deep : (S : Scenario) → call_depth S ≡ None → (m : MethodNo) → m.0 < length S.methods → rank S m ≤ 64
none_deep S none m within =
    ltb-false 64 (rank S m)
    (none_passes (λ n. nat_lt 64 (rank S (numbered n))) 0 (length S.methods) m.0 (mapped_none _ _ none) (omega arith) (omega (arith, within)))

-- ---- the weight

large_if : (b : Bool) → b ≡ true → cond b (Some TooLarge) None ≡ Some TooLarge
large_if true h = refl
large_if false h = absurd (false≢true h)

light_if : (b : Bool) → b ≡ false → cond b (Some TooLarge) None ≡ None
light_if true h = absurd (false≢true (sym h))
light_if false h = refl

pub large : (S : Scenario) → 200000 < weight S → too_large S ≡ Some TooLarge
large S heavy = large_if (nat_lt 200000 (weight S)) (grind (arith, heavy))

pub light : (S : Scenario) → weight S ≤ 200000 → too_large S ≡ None
light S few = light_if (nat_lt 200000 (weight S)) (grind (arith, few))

if_light : (w : ℕ) (b : Bool) → nat_lt 200000 w ≡ b → cond b (Some TooLarge) None ≡ None → w ≤ 200000
if_light w true is none = absurd (none-some TooLarge (sym none))
if_light w false is none = ltb-false 200000 w is

pub not_large : (S : Scenario) → too_large S ≡ None → weight S ≤ 200000
not_large S none = if_light (weight S) _ refl none

-- ---- the refusal of the call graph

pub calls_accepted : (S : Scenario) → InRange S → IsAccepted S → call_refusal S ≡ None
calls_accepted S range accepted =
    ap (λ cycle. first_some (cycle ∷ call_depth S ∷ too_large S ∷ [])) (cycle_none S range accepted.no_cycle)
    ∙ ap (λ depth. first_some (depth ∷ too_large S ∷ [])) (depth_none S accepted.none_too_deep)
    ∙ ap (λ large. first_some (large ∷ [])) (light S accepted.light)

pub refused_cycle : (S : Scenario) → InRange S → (m : MethodNo) → IsDue S (GraphFault.CallCycle m)
    → call_refusal S ≡ Some (CallCycle (method_name S m))
refused_cycle S range m due = ap (λ cycle. first_some (cycle ∷ call_depth S ∷ too_large S ∷ [])) (cycle_first S range m due)

pub refused_depth : (S : Scenario) → InRange S → (m : MethodNo) → IsDue S (GraphFault.TooDeep m)
    → call_refusal S ≡ Some (CallDepth (method_name S m))
refused_depth S range m due =
    ap (λ cycle. first_some (cycle ∷ call_depth S ∷ too_large S ∷ [])) (cycle_none S range due.0)
    ∙ ap (λ depth. first_some (depth ∷ too_large S ∷ [])) (depth_first S m due.1)

pub refused_large : (S : Scenario) → InRange S → IsDue S GraphFault.TooLarge → call_refusal S ≡ Some TooLarge
refused_large S range due =
    ap (λ cycle. first_some (cycle ∷ call_depth S ∷ too_large S ∷ [])) (cycle_none S range due.0)
    ∙ ap (λ depth. first_some (depth ∷ too_large S ∷ [])) (depth_none S due.1)
    ∙ ap (λ large. first_some (large ∷ [])) (large S due.2)
