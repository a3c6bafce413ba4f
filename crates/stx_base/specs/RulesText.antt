-- The text of the rules: what is decided where each class is thrown out of each method that has an attribute.
use Rattle.std.specs.Prelude.{ℕ, List, [], ◌++◌, codes, length, map, Option, Some, None}
use Rattle.std.specs.List.{concat, range_with_len}
use Rattle.stx_scenario.specs.declared.numbers.ClassNo.{ClassNo}
use Rattle.stx_scenario.specs.declared.numbers.MethodNo.{MethodNo}
use Rattle.stx_scenario.specs.declared.scenario.Scenario.{Scenario}
use Rattle.stx_scenario.specs.declared.scenario.TxAttr.{TxAttr}
use Rattle.stx_base.specs.Attributes.{attribute}
use Rattle.stx_base.specs.Rules.{winner, rolls_back}
use Rattle.stx_base.specs.Lines.{method_name, class_name, decision_word, winner_text, line_feed}

-- a class thrown out of a method
abbrev pub decision_text : Scenario → MethodNo → TxAttr → ClassNo → List ℕ
decision_text S m tx x =
    codes "rules " ++ method_name S m ++ codes " " ++ class_name S x ++ codes " "
    ++ decision_word (rolls_back S.classes tx.rules x.0) ++ codes " by " ++ winner_text (winner S.classes tx.rules x.0) ++ line_feed

abbrev pub class_numbered : ℕ → ClassNo
class_numbered n = record { 0 = n }

abbrev pub method_numbered : ℕ → MethodNo
method_numbered n = record { 0 = n }

-- each class, in the order of the numbers
abbrev pub decisions_text : Scenario → MethodNo → Option TxAttr → List ℕ
decisions_text S m None = []
decisions_text S m (Some tx) = concat (map (λ n. decision_text S m tx (class_numbered n)) (range_with_len 0 (length S.classes)))

abbrev pub method_decisions : Scenario → MethodNo → List ℕ
method_decisions S m = decisions_text S m (attribute S m)

-- each method, in the order of the numbers
unfoldable pub rules_text : Scenario → List ℕ
rules_text S =
    concat (map (λ n. method_decisions S (method_numbered n)) (range_with_len 0 (length S.methods)))
    ++ codes "end" ++ line_feed
