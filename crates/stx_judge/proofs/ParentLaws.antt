-- Each class of a scenario in order has a parent that is there.
use Rattle.std.proofs.Common.{◌≡◌, ℕ, ◌+◌, ◌-◌, ◌<◌, ◌≤◌, true, false, List, [], Option, Some, None, length, take, drop, get_or, inl, inr, refl, sym, ◌∙◌, ap, arith}
use Rattle.std.specs.List.{All}
use Rattle.std.specs.Option.{option_map, option_and_then}
use Rattle.std.proofs.lemmas.Bool.{false≢true, cases_lt, ltb-true, leb-false}
use Rattle.std.proofs.lemmas.List.{length-take, length-map, length-drop, get_or-take, get_or-drop}
use Rattle.std.proofs.lemmas.Option.{slice_get-map, slice_get-get_or}
use Rattle.stx_scenario.specs.declared.numbers.ClassNo.{ClassNo}
use Rattle.stx_scenario.specs.declared.scenario.Scenario.{Scenario}
use Rattle.stx_scenario.specs.declared.scenario.ClassDecl.{ClassDecl}
use Rattle.stx_scenario.specs.BuiltIn.{built_in}
use Rattle.stx_base.specs.Classes.{number_above, parent_in, parents_of, is_unknown, has_unknown_parent, first_unknown_parent}
use Rattle.stx_base.specs.Valid.{parent_known, own_classes, ClassInOrder}
use Rattle.stx_judge.proofs.SearchLaws.{search_none, none_passes}

-- the number above a class that is there
parent_at : (classes : List ClassDecl) (a : ℕ) (d : ClassDecl) → a < length classes → parent_in (parents_of classes) a ≡ number_above ((get_or classes a d).parent)
parent_at classes a d within =
    ap (option_and_then number_above)
    (slice_get-map (λ class. class.parent) classes a ∙ ap (option_map (λ class. class.parent)) (slice_get-get_or classes a d within))

-- the parents of the built-in classes are built in
built_in_known : (a : ℕ) → a < 17 → is_unknown 17 a (parent_in (parents_of built_in) a) ≡ false
built_in_known a within = none_passes (λ a. is_unknown 17 a (parent_in (parents_of built_in) a)) 0 17 a refl (omega arith) (omega arith)

-- more classes make no parent unknown
more_known : (few many a : ℕ) (o : Option ℕ) → few ≤ many → is_unknown few a o ≡ false → is_unknown many a o ≡ false
more_known few many a None more known = known
more_known few many a (Some parent) more known = let below = leb-false few parent known in grind (arith, below)

own_parent_known : (S : Scenario) (a : ℕ) (o : Option ClassNo) → parent_known S o ≡ true → is_unknown (length S.classes) a (number_above o) ≡ false
own_parent_known S a None known = absurd (false≢true known)
own_parent_known S a (Some class) known = let below = ltb-true class.0 (length S.classes) known in grind (arith, below)

no_class : ClassDecl
no_class = record { name = []; parent = None }

abbrev AllOwn : Scenario → Type 0
AllOwn S = All (ClassInOrder S) (own_classes S)

known_first : (S : Scenario) → take (length built_in) S.classes ≡ built_in → (a : ℕ) → a < 17
    → is_unknown (length S.classes) a (parent_in (parents_of S.classes) a) ≡ false
known_first S begins a few =
    let many : 17 ≤ length S.classes = omega (arith, length-take 17 S.classes, ap length begins) in
    let same : get_or S.classes a no_class ≡ get_or built_in a no_class =
    sym (get_or-take 17 S.classes a no_class few) ∙ ap (λ classes. get_or classes a no_class) begins in
    let parent : parent_in (parents_of S.classes) a ≡ parent_in (parents_of built_in) a =
    parent_at S.classes a no_class (omega (arith, few, many)) ∙ ap (λ (class : ClassDecl). number_above class.parent) same
    ∙ sym (parent_at built_in a no_class few) in
    ap (is_unknown (length S.classes) a) parent ∙ more_known 17 (length S.classes) a _ many (built_in_known a few)

known_own : (S : Scenario) → AllOwn S → (a : ℕ) → 17 ≤ a → a < length S.classes
    → is_unknown (length S.classes) a (parent_in (parents_of S.classes) a) ≡ false
known_own S own a many within =
    let inside : a - 17 < length (drop 17 S.classes) = omega (arith, many, within, length-drop 17 S.classes) in
    let place : 17 + (a - 17) ≡ a = omega (arith, many) in
    let order = own (a - 17) no_class inside in
    let same : get_or (drop 17 S.classes) (a - 17) no_class ≡ get_or S.classes a no_class =
    get_or-drop 17 S.classes (a - 17) no_class ∙ ap (λ (k : ℕ). get_or S.classes k no_class) place in
    let known : parent_known S (get_or S.classes a no_class).parent ≡ true =
    ap (λ (class : ClassDecl). parent_known S class.parent) (sym same) ∙ order.parent in
    ap (is_unknown (length S.classes) a) (parent_at S.classes a no_class within) ∙ own_parent_known S a _ known

known_at : (S : Scenario) → take (length built_in) S.classes ≡ built_in → AllOwn S → (a : ℕ) → a < length S.classes
    → is_unknown (length S.classes) a (parent_in (parents_of S.classes) a) ≡ false
known_at S begins own a within = elim (cases_lt a 17) [ inl few ↦ known_first S begins a few | inr many ↦ known_own S own a many within ]

-- so the first class whose parent is unknown isn't there
pub parents_known : (S : Scenario) → take (length built_in) S.classes ≡ built_in → All (ClassInOrder S) (own_classes S) → first_unknown_parent S.classes ≡ None
parents_known S begins own =
    let size = length-map S.classes (λ class. class.parent) in
    search_none (has_unknown_parent (parents_of S.classes)) 0 (length (parents_of S.classes))
    (λ q low high.
    ap (λ (count : ℕ). is_unknown count q (parent_in (parents_of S.classes) q)) size
    ∙ known_at S begins own q (omega (arith, high, size)))
