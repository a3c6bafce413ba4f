-- The definitions of the rules, worked on the built-in classes, app.Soft below Exception and app.Softer below it.
use Rattle.std.specs.Prelude.{◌≡◌, true, false, List, [], ◌∷◌, ◌++◌, codes, Some, None}
use Rattle.std.proofs.Common.{refl}
use Rattle.stx_scenario.specs.declared.scenario.ClassDecl.{ClassDecl}
use Rattle.stx_scenario.specs.declared.scenario.Rule.{Rule}
use Rattle.stx_scenario.specs.declared.scenario.RuleBy.{RuleBy}
use Rattle.stx_scenario.specs.declared.classes.TheConstants.{EXCEPTION, ERROR}
use Rattle.stx_scenario.specs.BuiltIn.{built_in, class_below}
use Rattle.stx_base.specs.Rules.{rule_depth, winner, rolls_back}

abbrev soft : List ClassDecl
soft = built_in ++ class_below EXCEPTION.0 (codes "app.Soft") ∷ class_below 17 (codes "app.Softer") ∷ []

abbrev rollback_exception : Rule
rollback_exception = record { rollback = true; by = RuleBy.Class EXCEPTION }

abbrev keep_soft : Rule
keep_soft = record { rollback = false; by = RuleBy.Class (record { 0 = 17 }) }

abbrev keep_like_soft : Rule
keep_like_soft = record { rollback = false; by = RuleBy.Pattern (codes "Soft") }

abbrev rollback_softer : Rule
rollback_softer = record { rollback = true; by = RuleBy.Class (record { 0 = 18 }) }

-- the depths are 2 and 1
exception_is_two_above : rule_depth soft 18 rollback_exception ≡ Some 2
exception_is_two_above = refl

soft_is_one_above : rule_depth soft 18 keep_soft ≡ Some 1
soft_is_one_above = refl

nearer_rule_wins : winner soft (rollback_exception ∷ keep_soft ∷ []) 18 ≡ Some 1
unfolding winner
nearer_rule_wins = refl

nearer_rule_keeps : rolls_back soft (rollback_exception ∷ keep_soft ∷ []) 18 ≡ false
unfolding rolls_back winner
nearer_rule_keeps = refl

nearer_rule_wins_from_the_front : winner soft (keep_soft ∷ rollback_exception ∷ []) 18 ≡ Some 0
unfolding winner
nearer_rule_wins_from_the_front = refl

-- the pattern stands in the name of the class itself, so both depths are 0
pattern_is_as_near : rule_depth soft 18 keep_like_soft ≡ Some 0
pattern_is_as_near = refl

first_of_a_tie_keeps : rolls_back soft (keep_like_soft ∷ rollback_softer ∷ []) 18 ≡ false
unfolding rolls_back winner
first_of_a_tie_keeps = refl

first_of_a_tie_rolls_back : rolls_back soft (rollback_softer ∷ keep_like_soft ∷ []) 18 ≡ true
unfolding rolls_back winner
first_of_a_tie_rolls_back = refl

-- no rule matches
without_a_match_none_wins : winner soft (keep_soft ∷ rollback_softer ∷ []) ERROR.0 ≡ None
unfolding winner
without_a_match_none_wins = refl

error_rolls_back_by_default : rolls_back soft (keep_soft ∷ rollback_softer ∷ []) ERROR.0 ≡ true
unfolding rolls_back winner
error_rolls_back_by_default = refl

soft_commits_by_default : rolls_back soft (rollback_softer ∷ []) 17 ≡ false
unfolding rolls_back winner
soft_commits_by_default = refl
