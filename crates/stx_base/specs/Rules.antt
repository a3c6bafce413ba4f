-- Which exceptions roll back: what a rule matches, how deep, and which rule decides. (Spring: RuleBasedTransactionAttribute.)
use Rattle.std.specs.Prelude.{ℕ, Bool, false, ◌||◌, ◌==◌, nat_eq, nat_le, if◌then◌else◌, List, [], ◌∷◌, map, Option, Some, None, slice_get}
use Rattle.std.specs.List.{starts_with, position_from}
use Rattle.std.specs.Option.{option_and_then}
use Rattle.stx_scenario.specs.declared.scenario.ClassDecl.{ClassDecl}
use Rattle.stx_scenario.specs.declared.scenario.Rule.{Rule}
use Rattle.stx_scenario.specs.declared.scenario.RuleBy.{RuleBy}
use Rattle.stx_base.specs.Classes.{steps_to, rolls_back_by_default}

-- ---- what a rule matches

-- whether a part stands in a text, anywhere
abbrev pub has_part : List ℕ → List ℕ → Bool
has_part part [] = starts_with nat_eq [] part
has_part part (b ∷ text) = starts_with nat_eq (b ∷ text) part || has_part part text

abbrev pub is_named_with : List ℕ → Option ClassDecl → Bool
is_named_with part (Some class) = has_part part class.name
is_named_with part None = false

-- by type a rule matches the class itself, by pattern each class whose name contains the pattern
abbrev pub matches : List ClassDecl → RuleBy → ℕ → Bool
matches classes (RuleBy.Class class) a = a == class.0
matches classes (RuleBy.Pattern part) a = is_named_with part (slice_get classes a)

-- the steps from the thrown class up to the first class that the rule matches
abbrev pub rule_depth : List ClassDecl → ℕ → Rule → Option ℕ
rule_depth classes thrown rule = steps_to classes (matches classes rule.by) thrown

-- ---- which rule decides

abbrev pub lesser : Option ℕ → Option ℕ → Option ℕ
lesser None b = b
lesser (Some a) None = Some a
lesser (Some a) (Some b) = Some (if nat_le a b then a else b)

-- the least depth, if there is one
abbrev pub least : List (Option ℕ) → Option ℕ
least [] = None
least (depth ∷ depths) = lesser depth (least depths)

abbrev pub is_at : ℕ → Option ℕ → Bool
is_at depth None = false
is_at depth (Some d) = d == depth

-- the place of the first of least depth, where the places are counted from a number
abbrev pub first_least_from : ℕ → List (Option ℕ) → Option ℕ
first_least_from place depths = option_and_then (λ depth. position_from (is_at depth) place depths) (least depths)

-- the place, from 0, of the first rule of least depth; none where no rule matches the class or one above it
unfoldable pub winner : List ClassDecl → List Rule → ℕ → Option ℕ
winner classes rules thrown = first_least_from 0 (map (rule_depth classes thrown) rules)

-- a rule says whether it rolls back; without one RuntimeException, Error and all below them do
abbrev pub says_rollback : List ClassDecl → ℕ → Option Rule → Bool
says_rollback classes thrown (Some rule) = rule.rollback
says_rollback classes thrown None = rolls_back_by_default classes thrown

unfoldable pub rolls_back : List ClassDecl → List Rule → ℕ → Bool
rolls_back classes rules thrown = says_rollback classes thrown (option_and_then (slice_get rules) (winner classes rules thrown))
