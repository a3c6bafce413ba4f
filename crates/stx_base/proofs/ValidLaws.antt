-- What follows for single methods from what a scenario can be relied on for.
use Rattle.std.proofs.Common.{◌≡◌, ℕ, ◌≤◌, List, length, Option, Some, None, refl, subst}
use Rattle.std.specs.Prelude.{slice_get, IfSome}
use Rattle.std.specs.Option.{option_or, option_and_then}
use Rattle.std.specs.List.{All}
use Rattle.std.proofs.lemmas.List.Elements.{All-get_or}
use Rattle.std.proofs.lemmas.Option.{slice_get_within, get_or_from_slice_get}
use Rattle.stx_scenario.specs.declared.numbers.MethodNo.{MethodNo}
use Rattle.stx_scenario.specs.declared.scenario.Scenario.{Scenario}
use Rattle.stx_scenario.specs.declared.scenario.Bean.{Bean}
use Rattle.stx_scenario.specs.declared.scenario.Method.{Method}
use Rattle.stx_scenario.specs.declared.scenario.TxAttr.{TxAttr}
use Rattle.stx_base.specs.Attributes.{bean_attribute, method_attribute, attribute}
use Rattle.stx_base.specs.Valid.{IsInOrder, TxInOrder, BeanInOrder, MethodInOrder}

-- an entry of a list of which each is so
pub entry_of : {A : Type 0} (P : A → Type 0) (xs : List A) (k : ℕ) (x : A) → All P xs → slice_get xs k ≡ Some x → P x
entry_of P xs k x all there = subst P (get_or_from_slice_get xs k x x there) (All-get_or P xs k x (slice_get_within xs k x there) all)

-- ---- each attribute has few rules

abbrev pub HasFewRules : TxAttr → Type 0
HasFewRules tx = length tx.rules ≤ 64

few_of : (S : Scenario) (tx : Option TxAttr) → TxInOrder S tx → IfSome tx HasFewRules
few_of S None order = tt
few_of S (Some tx) order = order.few

own_or_bean : (own bean : Option TxAttr) → IfSome own HasFewRules → IfSome bean HasFewRules → IfSome (option_or own bean) HasFewRules
own_or_bean (Some tx) bean own of_bean = own
own_or_bean None bean own of_bean = of_bean

of_bean : (S : Scenario) → IsInOrder S → (k : ℕ) (o : Option Bean) → slice_get S.beans k ≡ o → IfSome (option_and_then (λ bean. bean.tx) o) HasFewRules
of_bean S order k None there = tt
of_bean S order k (Some bean) there = few_of S bean.tx (entry_of (BeanInOrder S) S.beans k bean order.places.beans there).tx

of_method : (S : Scenario) → IsInOrder S → (k : ℕ) (o : Option Method) → slice_get S.methods k ≡ o → IfSome (option_and_then (method_attribute S) o) HasFewRules
of_method S order k None there = tt
of_method S order k (Some method) there =
    own_or_bean method.tx (bean_attribute S method)
    (few_of S method.tx (entry_of (MethodInOrder S) S.methods k method order.places.methods there).tx)
    (of_bean S order method.bean.0 (slice_get S.beans method.bean.0) refl)

pub few_rules : (S : Scenario) → IsInOrder S → (m : MethodNo) → IfSome (attribute S m) HasFewRules
few_rules S order m = of_method S order m.0 (slice_get S.methods m.0) refl
