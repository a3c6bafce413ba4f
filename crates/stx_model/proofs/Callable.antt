-- What calls only methods of a rank below a bound: a greater bound will do, and lists of registrations may grow and be ordered.
use Rattle.std.proofs.Common.{◌≤◌, ◌++◌, ◌∷◌, [], Bool, true, false, ℤ, List, arith}
use Rattle.std.specs.Prelude.{ℕ, slice_get, int_lt}
use Rattle.std.specs.List.{AllByRecursion, fold}
use Rattle.stx_scenario.specs.declared.scenario.Scenario.{Scenario}
use Rattle.stx_scenario.specs.declared.scenario.Stmt.{Stmt}
use Rattle.stx_base.specs.declared.line.Label.{Label}
use Rattle.stx_model.specs.Contexts.{Registration}
use Rattle.stx_model.specs.Below.{CallbackBelow, CallbacksBelow, LabelBelow, RegisteredBelow, listener_body}
use Rattle.stx_model.specs.Orders.{inserted, by_order}
use Rattle.stx_model.specs.Rounds.{sync_body}

-- ---- a higher rank will do

all_weaker : {X : Type 0} (P Q : X → Type 0) → ((x : X) → P x → Q x) → (xs : List X) → AllByRecursion P xs → AllByRecursion Q xs
all_weaker P Q weaker [] all = tt
all_weaker P Q weaker (x ∷ xs) all = (weaker x all.0, all_weaker P Q weaker xs all.1)

callback_raise : (S : Scenario) (k j : ℕ) → k ≤ j → (s : Stmt) → CallbackBelow S k s → CallbackBelow S j s
callback_raise S k j le (Stmt.Call m catch) below = omega (arith, le, below)
callback_raise S k j le (Stmt.This m catch) below = below
callback_raise S k j le Stmt.Mark below = below
callback_raise S k j le (Stmt.Publish e) below = below
callback_raise S k j le (Stmt.Register s) below = below
callback_raise S k j le s below = tt

callbacks_raise : (S : Scenario) (k j : ℕ) → k ≤ j → (body : List Stmt) → CallbacksBelow S k body → CallbacksBelow S j body
callbacks_raise S k j le body below = all_weaker (CallbackBelow S k) (CallbackBelow S j) (callback_raise S k j le) body below

pub label_raise : (S : Scenario) (k j : ℕ) → k ≤ j → (l : Label) → LabelBelow S k l → LabelBelow S j l
label_raise S k j le (Label.Sync s) below = λ round. callbacks_raise S k j le (sync_body round (slice_get S.syncs s.0)) (below round)
label_raise S k j le (Label.Listener l) below = callbacks_raise S k j le (listener_body (slice_get S.listeners l.0)) below

pub registered_raise : (S : Scenario) (k j : ℕ) → k ≤ j → (rs : List Registration) → RegisteredBelow S k rs → RegisteredBelow S j rs
registered_raise S k j le rs below =
    all_weaker (λ r. LabelBelow S k r.label) (λ r. LabelBelow S j r.label) (λ r. label_raise S k j le r.label) rs below

-- ---- lists

pub all_append : {X : Type 0} (P : X → Type 0) (xs ys : List X) → AllByRecursion P xs → AllByRecursion P ys → AllByRecursion P (xs ++ ys)
all_append P [] ys all rest = rest
all_append P (x ∷ xs) ys all rest = (all.0, all_append P xs ys all.1 rest)

module _ {X : Type 0} (P : X → Type 0) (order : X → ℤ) where
  inserted_all : (xs : List X) (x : X) → AllByRecursion P xs → P x → AllByRecursion P (inserted order xs x)
  inserted_all [] x all new = (new, tt)
  inserted_all (y ∷ ys) x all new = by_order_of (int_lt (order x) (order y)) (inserted_all ys x all.1 new)
    where
      by_order_of : (b : Bool) → AllByRecursion P (inserted order ys x)
          → AllByRecursion P (elim b [ true ↦ x ∷ y ∷ ys | false ↦ y ∷ inserted order ys x ])
      by_order_of true later = (new, all)
      by_order_of false later = (all.0, later)

  fold_all : (xs before : List X) → AllByRecursion P before → AllByRecursion P xs → AllByRecursion P (fold (inserted order) before xs)
  fold_all [] before all rest = all
  fold_all (x ∷ xs) before all rest = fold_all xs (inserted order before x) (inserted_all before x all rest.0) rest.1

  pub by_order_all : (xs : List X) → AllByRecursion P xs → AllByRecursion P (by_order order xs)
  by_order_all xs all = fold_all xs [] tt all
