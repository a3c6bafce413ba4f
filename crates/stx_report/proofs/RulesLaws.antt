-- How the text of the rules grows: by what one number more adds.
use Rattle.std.proofs.Common.{◌≡◌, ℕ, ◌+◌, Bool, List, [], ◌∷◌, ◌++◌, length, map, Option, refl, sym, ◌∙◌, ap, append_assoc, append-nil, codes, arith}
use Rattle.std.specs.List.{concat, range_with_len}
use Rattle.std.proofs.lemmas.List.Folds.{concat-append}
use Rattle.std.proofs.lemmas.List.FromFn.{map-range_with_len_more}
use Rattle.stx_scenario.specs.declared.numbers.ClassNo.{ClassNo}
use Rattle.stx_scenario.specs.declared.numbers.MethodNo.{MethodNo}
use Rattle.stx_scenario.specs.declared.scenario.Scenario.{Scenario}
use Rattle.stx_scenario.specs.declared.scenario.TxAttr.{TxAttr}
use Rattle.stx_base.specs.Rules.{winner, rolls_back}
use Rattle.stx_base.specs.Lines.{method_name, class_name}
use Rattle.stx_base.specs.RulesText.{decision_text, method_decisions, method_numbered, rules_text}
use Rattle.stx_report.specs.inner.Decisions.{decision_line}

-- what all numbers below n add
abbrev pub all_below : (ℕ → List ℕ) → ℕ → List ℕ
all_below piece n = concat (map piece (range_with_len 0 n))

all_more : (piece : ℕ → List ℕ) (n : ℕ) → all_below piece (n + 1) ≡ all_below piece n ++ piece n
all_more piece n =
    let at : 0 + n ≡ n = omega arith in
    ap concat (map-range_with_len_more piece 0 n n at)
    ∙ concat-append (map piece (range_with_len 0 n)) (piece n ∷ [])
    ∙ ap (λ t. all_below piece n ++ t) (append-nil (piece n))

-- a text that has grown by what one number more adds
pub below_more : (piece : ℕ → List ℕ) (n : ℕ) (start out next : List ℕ)
    → out ≡ start ++ all_below piece n → next ≡ out ++ piece n → next ≡ start ++ all_below piece (n + 1)
below_more piece n start out next so_far grown =
    grown
    ∙ ap (λ t. t ++ piece n) so_far
    ∙ append_assoc start (all_below piece n) (piece n)
    ∙ ap (λ t. start ++ t) (sym (all_more piece n))

-- the line that is made is the one of the class
pub line_is : (S : Scenario) (m : MethodNo) (tx : TxAttr) (x : ClassNo) (method class : List ℕ) (rollback : Bool) (place : Option ℕ)
    → method ≡ method_name S m → class ≡ class_name S x
    → rollback ≡ rolls_back S.classes tx.rules x.0 → place ≡ winner S.classes tx.rules x.0
    → decision_line method class rollback place ≡ decision_text S m tx x
line_is S m tx x method class rollback place of_method of_class decides wins = rw (of_method, of_class, decides, wins) refl

-- after all methods only the last line is wanted
pub all_methods : (S : Scenario) (n : ℕ) (out text : List ℕ) → n ≡ length S.methods
    → out ≡ all_below (λ k. method_decisions S (method_numbered k)) n → text ≡ out ++ codes "end\n" → text ≡ rules_text S
unfolding rules_text
all_methods S n out text all so_far grown =
    rw (grown, so_far, all) (simp append_assoc)
