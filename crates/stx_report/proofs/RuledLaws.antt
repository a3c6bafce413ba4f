-- In a scenario of two beans, of which one has an attribute with two rules, and of two methods without one of their own, each
-- attribute has few rules.
use Rattle.std.proofs.Common.{rules, ◌≡◌, ℕ, zero, suc, ◌<◌, ◌^◌, [], ◌∷◌, length, Option, Some, None, sym, subst, arith}
use Rattle.std.specs.Prelude.{slice_get, IfSome}
use Rattle.std.specs.Option.{option_and_then}
use Rattle.stx_scenario.specs.declared.numbers.MethodNo.{MethodNo}
use Rattle.stx_scenario.specs.declared.scenario.Scenario.{Scenario}
use Rattle.stx_scenario.specs.declared.scenario.Bean.{Bean}
use Rattle.stx_scenario.specs.declared.scenario.Method.{Method}
use Rattle.stx_scenario.specs.declared.scenario.TxAttr.{TxAttr}
use Rattle.stx_base.specs.Attributes.{attribute, bean_attribute, method_attribute}

abbrev pub HasFew : Option TxAttr → Type 0
HasFew tx = IfSome tx (λ attribute. length attribute.rules < 2 ^ 32)

of_bean : (a b : Bean) → HasFew a.tx → HasFew b.tx → (n : ℕ) → HasFew (option_and_then (λ bean. bean.tx) (slice_get (a ∷ b ∷ []) n))
of_bean a b few_a few_b zero = few_a
of_bean a b few_a few_b (suc zero) = few_b
of_bean a b few_a few_b (suc (suc n)) = search rules

of_method : (S : Scenario) (method : Method) → method.tx ≡ None → HasFew (bean_attribute S method) → HasFew (method_attribute S method)
of_method S method own few = rw own few

of_methods : (S : Scenario) (p q : Method) → HasFew (method_attribute S p) → HasFew (method_attribute S q)
    → (n : ℕ) → HasFew (option_and_then (method_attribute S) (slice_get (p ∷ q ∷ []) n))
of_methods S p q few_p few_q zero = few_p
of_methods S p q few_p few_q (suc zero) = few_q
of_methods S p q few_p few_q (suc (suc n)) = search rules

pub few_in : (S : Scenario) (a b : Bean) (p q : Method) (tx : TxAttr)
    → S.beans ≡ a ∷ b ∷ [] → S.methods ≡ p ∷ q ∷ [] → a.tx ≡ None → b.tx ≡ Some tx → length tx.rules ≡ 2 → p.tx ≡ None → q.tx ≡ None
    → (m : MethodNo) → HasFew (attribute S m)
few_in S a b p q tx beans methods plain ruled two own_p own_q m =
    let none : HasFew None = search rules in
    let few : length tx.rules < 2 ^ 32 = omega (arith, two) in
    let few_a : HasFew a.tx = subst HasFew (sym plain) none in
    let few_b : HasFew b.tx = subst HasFew (sym ruled) few in
    let of_p : HasFew (bean_attribute S p) = rw beans (of_bean a b few_a few_b p.bean.0) in
    let of_q : HasFew (bean_attribute S q) = rw beans (of_bean a b few_a few_b q.bean.0) in
    rw methods (of_methods S p q (of_method S p own_p of_p) (of_method S q own_q of_q) m.0)
