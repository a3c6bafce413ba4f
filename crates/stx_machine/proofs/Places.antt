-- Lists by place, and what is known of a method, of its statements and of a client's calls in a playable scenario.
use Rattle.std.proofs.Common.{◌≡◌, ℕ, zero, suc, ◌+◌, ◌<◌, ◌≤◌, true, List, [], ◌∷◌, drop, length, Option, Some, None, refl, sym, ap, ◌∙◌, subst, arith, add-one}
use Rattle.std.specs.Prelude.{min, slice_get, unwrap_or, IfSome}
use Rattle.std.proofs.lemmas.List.{length-take}
use Rattle.stx_scenario.specs.declared.numbers.ClassNo.{ClassNo}
use Rattle.stx_scenario.specs.declared.scenario.TxAttr.{TxAttr}
use Rattle.stx_scenario.specs.BuiltIn.{built_in}
use Rattle.stx_base.specs.Attributes.{attribute}
use Rattle.std.specs.List.{AllByRecursion}
use Rattle.std.proofs.lemmas.Option.{slice_get_within}
use Rattle.stx_scenario.specs.declared.numbers.MethodNo.{MethodNo}
use Rattle.stx_scenario.specs.declared.scenario.Method.{Method}
use Rattle.stx_scenario.specs.declared.scenario.Scenario.{Scenario}
use Rattle.stx_scenario.specs.declared.scenario.Stmt.{Stmt}
use Rattle.stx_base.specs.Limits.{most_calls}
use Rattle.stx_base.specs.Valid.{names_known, own_known, MethodInOrder, CallsInOrder}
use Rattle.stx_base.specs.Weight.{body_in, body_of, rank}
use Rattle.stx_base.proofs.ValidLaws.{entry_of, HasFewRules, few_rules}
use Rattle.stx_machine.specs.Machine.{attribute_of, default_attribute}
use Rattle.stx_model.specs.Playable.{IsPlayable}
use Rattle.stx_model.specs.Below.{StatementBelow, StatementsBelow}
use Rattle.stx_model.proofs.CallableLaw.{callable_if_valid}

-- ---- lists

drop_one : {X : Type 0} (xs : List X) (i : ℕ) (x : X) → slice_get xs i ≡ Some x → drop i xs ≡ x ∷ drop (suc i) xs
drop_one [] i x there = cc
drop_one (y ∷ ys) zero x there =
    let first : y ≡ x = cc in ap (λ z. z ∷ ys) first
drop_one (y ∷ ys) (suc i) x there = drop_one ys i x there

pub drop_at : {X : Type 0} (xs : List X) (i : ℕ) (x : X) → slice_get xs i ≡ Some x → drop i xs ≡ x ∷ drop (i + 1) xs
drop_at xs i x there = drop_one xs i x there ∙ ap (λ n. x ∷ drop n xs) (sym (add-one i))

pub drop_past : {X : Type 0} (xs : List X) (i : ℕ) → slice_get xs i ≡ None → drop i xs ≡ []
drop_past [] zero past = refl
drop_past [] (suc i) past = refl
drop_past (y ∷ ys) zero past = cc
drop_past (y ∷ ys) (suc i) past = drop_past ys i past

pub all_at : {X : Type 0} (P : X → Type 0) (xs : List X) (i : ℕ) (x : X) → AllByRecursion P xs → slice_get xs i ≡ Some x → P x
all_at P [] i x all there = absurd cc
all_at P (y ∷ ys) zero x all there =
    let first : y ≡ x = cc in subst P first all.0
all_at P (y ∷ ys) (suc i) x all there = all_at P ys i x all.1 there

-- ---- methods and their bodies

module _ (S : Scenario) (m : MethodNo) (method : Method) (there : slice_get S.methods m.0 ≡ Some method) where
  pub body_is : body_of S m ≡ method.body
  body_is = ap body_in there

  module _ (playable : IsPlayable S) where
    in_order : MethodInOrder S method
    in_order = entry_of (MethodInOrder S) S.methods m.0 method playable.order.places.methods there

    pub few_statements : length method.body ≤ 256
    few_statements = in_order.body.few

    module _ (place : ℕ) (s : Stmt) (here : slice_get method.body place ≡ Some s) where
      pub known_at : names_known S s ≡ true
      known_at = entry_of (λ s. names_known S s ≡ true) method.body place s in_order.body.known here

      pub own_at : own_known S method.bean s ≡ true
      own_at = entry_of (λ s. own_known S method.bean s ≡ true) method.body place s in_order.body.own here

      -- a call is one of a method of lower rank
      pub below_at : StatementBelow S (rank S m) s
      below_at =
          all_at (StatementBelow S (rank S m)) method.body place s
          (subst (StatementsBelow S (rank S m)) body_is ((callable_if_valid S playable.order).methods m)) here

-- ---- a client's calls

module _ (S : Scenario) (n top : ℕ) (calls : List MethodNo) (there : slice_get S.clients n ≡ Some calls) (m : MethodNo) (here : slice_get calls top ≡ Some m) (playable : IsPlayable S) where
  in_order_calls : CallsInOrder S calls
  in_order_calls = entry_of (CallsInOrder S) S.clients n calls playable.order.places.clients there

  pub is_method : m.0 < length S.methods
  is_method = entry_of (λ m. m.0 < length S.methods) calls top m in_order_calls.methods here

  pub is_early : top < most_calls
  is_early =
      let within = slice_get_within calls top m here in
      let few = in_order_calls.few in omega (arith, within, few)

  pub is_low : rank S m ≤ 64
  is_low = playable.order.shallow m is_method

-- ---- attributes and classes

few_or_default : (o : Option TxAttr) → IfSome o HasFewRules → length (unwrap_or o default_attribute).rules ≤ 64
few_or_default (Some a) few = few
few_or_default None few = omega arith

pub few_rules_of : (S : Scenario) (m : MethodNo) → IsPlayable S → length (attribute_of S m).rules ≤ 64
unfolding attribute_of
few_rules_of S m playable = few_or_default (attribute S m) (few_rules S playable.order m)

-- the built-in classes are there
pub built_in_known : (S : Scenario) (x : ClassNo) → IsPlayable S → x.0 < 17 → x.0 < length S.classes
built_in_known S x playable less =
    let many : length built_in ≡ min (length built_in) (length S.classes) = sym (ap length playable.shaped.classes) ∙ length-take (length built_in) S.classes in
    omega (arith, less, many)
