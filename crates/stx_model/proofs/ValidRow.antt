-- A small scenario that is valid: what the laws on valid scenarios ask for can be met.
use Rattle.std.proofs.Common.{◌≡◌, ℕ, zero, suc, ◌<◌, ◌≤◌, true, [], ◌∷◌, pos, refl, sym, ap, ◌∙◌, arith}
use Rattle.std.specs.Prelude.{codes}
use Rattle.std.specs.List.{All}
use Rattle.std.proofs.lemmas.Bool.{false≢true}
use Rattle.std.proofs.lemmas.List.Elements.{All-from_recursion}
use Rattle.stx_scenario.specs.declared.numbers.MethodNo.{MethodNo}
use Rattle.stx_scenario.specs.declared.scenario.Scenario.{Scenario}
use Rattle.stx_scenario.specs.declared.scenario.Stmt.{Stmt}
use Rattle.stx_scenario.specs.Names.{is_name}
use Rattle.stx_base.specs.Valid.{names_known, own_known, BodyInOrder, BeanInOrder, MethodInOrder, CallsInOrder, PlacesInOrder, IsInOrder}
use Rattle.stx_base.specs.Weight.{StatementInRange, BodyInRange, MethodsInRange, has_method, leads, longest, cost_within, rank, IsOnCycle}
use Rattle.stx_base.proofs.WorkedClasses.{built_in_tree}
use Rattle.stx_model.proofs.FlatRows.{writes_and_reads}
use Rattle.stx_model.proofs.Small.{m, a, method_no}

abbrev writes : Stmt
writes = Stmt.Write a (pos 5)

abbrev reads : Stmt
reads = Stmt.Read a

-- a client that calls twice
abbrev pub twice : Scenario
twice = record writes_and_reads { clients = (m ∷ m ∷ []) ∷ [] }

none : {X : Type 0} (P : X → Type 0) → All P []
none P = All-from_recursion P [] tt

one : {X : Type 0} (P : X → Type 0) (x : X) → P x → All P (x ∷ [])
one P x h = All-from_recursion P (x ∷ []) (h, tt)

two : {X : Type 0} (P : X → Type 0) (x y : X) → P x → P y → All P (x ∷ y ∷ [])
two P x y h i = All-from_recursion P (x ∷ y ∷ []) (h, (i, tt))

leads_nowhere : (k : ℕ) → k < 1 → leads twice (method_no k) ≡ []
unfolding leads
leads_nowhere zero below = refl
leads_nowhere (suc k) below = absurd (omega (arith, below))

lowest : (k : ℕ) → k < 1 → rank twice (method_no k) ≤ 64
unfolding leads longest
lowest zero below = omega arith
lowest (suc k) below = absurd (omega (arith, below))

no_cycle : (n : MethodNo) → n.0 < 1 → ¬ (IsOnCycle (leads twice) n)
no_cycle n below (steps, (through, led, way)) = false≢true (ap (λ ms. has_method ms through) (sym (leads_nowhere n.0 below)) ∙ led)

event : All (λ name. is_name name ≡ true) twice.events
event = one (λ name. is_name name ≡ true) (codes "e") refl

bean : All (BeanInOrder twice) twice.beans
bean = one (BeanInOrder twice) _ (record { name = refl; tx = tt })

body : BodyInOrder twice (record { 0 = 0 }) (writes ∷ reads ∷ [])
body = record {
  few = omega arith;
  known = two (λ s. names_known twice s ≡ true) writes reads refl refl;
  own = two (λ s. own_known twice (record { 0 = 0 }) s ≡ true) writes reads refl refl;
}

method : All (MethodInOrder twice) twice.methods
method = one (MethodInOrder twice) _ (record { bean = omega arith; name = refl; tx = record { few = omega arith; rules = none _ }; body = body })

known : All (λ n. n.0 < 1) (m ∷ m ∷ [])
known = two (λ n. n.0 < 1) m m (omega arith) (omega arith)

calls : All (CallsInOrder twice) twice.clients
calls = one (CallsInOrder twice) _ (record { few = omega arith; methods = known })

places : PlacesInOrder twice
places = search (arith, none, event, bean, method, calls)

pub twice_is_valid : IsInOrder twice
unfolding leads longest cost_within
twice_is_valid = record {
  places = places;
  callbacks = record { syncs = none _; listeners = none _ };
  range = record { few = omega arith; methods = one (λ method. BodyInRange 1 1 0 method.body) _ (two (StatementInRange 1 1 0) writes reads tt tt); syncs = none _; listeners = none _; clients = one (MethodsInRange 1) (m ∷ m ∷ []) known };
  tree = built_in_tree;
  acyclic = no_cycle;
  shallow = λ n below. lowest n.0 below;
  light = omega arith;
}
