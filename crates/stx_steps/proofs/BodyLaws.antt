-- A body at a place: its next statement, or its end.
use Rattle.std.proofs.Common.{◌≡◌, ◌⊎◌, ◌==◌, inl, inr, get_or, ℕ, ◌+◌, ◌<◌, ◌≤◌, true, false, length, Option, Some, None, refl, sym, ap, ◌∙◌, subst, arith}
use Rattle.std.specs.Prelude.{slice_get}
use Rattle.std.specs.Option.{option_map_or}
use Rattle.std.proofs.lemmas.Bool.{false≢true, and_parts, ltb-true}
use Rattle.std.proofs.lemmas.Option.{slice_get_cases, slice_get_within}
use Rattle.stx_scenario.specs.declared.numbers.BeanNo.{BeanNo}
use Rattle.stx_scenario.specs.declared.numbers.ClassNo.{ClassNo}
use Rattle.stx_scenario.specs.declared.numbers.MethodNo.{MethodNo}
use Rattle.stx_scenario.specs.declared.scenario.Method.{Method}
use Rattle.stx_scenario.specs.declared.scenario.Scenario.{Scenario}
use Rattle.stx_scenario.specs.declared.scenario.Stmt.{Stmt}
use Rattle.stx_base.specs.Valid.{is_catch, is_own_method, names_known, own_known}
use Rattle.stx_base.specs.Weight.{body_of, rank}
use Rattle.stx_model.specs.Meanings.{State, Over, and_then, finally}
use Rattle.stx_model.specs.Scopes.{leaves, ends}
use Rattle.stx_model.specs.Script.{statement, body}
use Rattle.stx_model.specs.Below.{StatementBelow}
use Rattle.stx_machine.specs.declared.interception.Interception.{Interception}
use Rattle.stx_machine.specs.declared.machine.Machine.{Machine}
use Rattle.stx_machine.specs.Machine.{IsClass, Moves, Says, Waits, Shrinks, attribute_of, call_after, inside, phase_after, scope_of, statements}
use Rattle.stx_model.specs.Playable.{IsPlayable}
use Rattle.stx_machine.specs.Sound.{Standing, ScopeRuns}
use Rattle.stx_steps.specs.Steps.{IsNext, MayMake}
use Rattle.stx_machine.proofs.Places.{body_is, known_at, own_at, below_at, few_statements, drop_at, drop_past}
use Rattle.stx_machine.proofs.Stacks.{runs_only}

-- ---- what a body may do

catch_known : (S : Scenario) (catch : Option ClassNo) → is_catch S catch ≡ true → IsClass S catch
catch_known S None known = tt
catch_known S (Some x) known = ltb-true x.0 (length S.classes) known

own_method : (S : Scenario) (bean : BeanNo) (m : MethodNo) → is_own_method S bean m ≡ true → m.0 < length S.methods
own_method S bean m own = by_place (slice_get_cases S.methods m.0).1
  where
    by_place : ((x : Method) × (m.0 < length S.methods) × (slice_get S.methods m.0 ≡ Some x) × (get_or S.methods m.0 x ≡ x)) ⊎ ((length S.methods ≤ m.0) × (slice_get S.methods m.0 ≡ None)) → m.0 < length S.methods
    by_place (inl (x, less, there, same)) = less
    by_place (inr (past, none)) = absurd (false≢true (ap (λ o. option_map_or (λ z. z.bean.0 == bean.0) o false) (sym none) ∙ own))

may : (S : Scenario) (bean : BeanNo) (m : MethodNo) (s : Stmt) → names_known S s ≡ true → own_known S bean s ≡ true → StatementBelow S (rank S m) s → MayMake S m s
may S bean m (Stmt.Read k) known own below = tt
may S bean m (Stmt.Write k v) known own below = tt
may S bean m (Stmt.Erase k) known own below = tt
may S bean m (Stmt.Add k v) known own below = tt
may S bean m (Stmt.Need k v) known own below = tt
may S bean m (Stmt.Call n catch) known own below =
    let (method, rest) = and_parts _ _ known in record { method = ltb-true n.0 (length S.methods) method; class = catch_known S catch rest; low = below }
may S bean m (Stmt.This n catch) known own below = record { method = own_method S bean n own; class = catch_known S catch known; low = below }
may S bean m (Stmt.Throw x) known own below = ltb-true x.0 (length S.classes) known
may S bean m Stmt.Mark known own below = tt
may S bean m (Stmt.Publish e) known own below = below
may S bean m (Stmt.Register r) known own below = below

-- each statement of a method is one that its body may do
pub may_at : (S : Scenario) (m : MethodNo) (place : ℕ) (s : Stmt) → IsPlayable S → m.0 < length S.methods → slice_get (body_of S m) place ≡ Some s → MayMake S m s
may_at S m place s playable less here = by_place (slice_get_cases S.methods m.0).1
  where
    by_place : ((x : Method) × (m.0 < length S.methods) × (slice_get S.methods m.0 ≡ Some x) × (get_or S.methods m.0 x ≡ x)) ⊎ ((length S.methods ≤ m.0) × (slice_get S.methods m.0 ≡ None)) → MayMake S m s
    by_place (inl (x, below, there, same)) =
        let at : slice_get x.body place ≡ Some s = ap (λ b. slice_get b place) (sym (body_is S m x there)) ∙ here in
        may S x.bean m s (known_at S m x there playable place s at) (own_at S m x there playable place s at) (below_at S m x there playable place s at)
    by_place (inr (past, none)) = absurd (omega (arith, past, less))

pub few_at : (S : Scenario) (m : MethodNo) (place : ℕ) (s : Stmt) → IsPlayable S → m.0 < length S.methods → slice_get (body_of S m) place ≡ Some s → place < 256
few_at S m place s playable less here = by_place (slice_get_cases S.methods m.0).1
  where
    by_place : ((x : Method) × (m.0 < length S.methods) × (slice_get S.methods m.0 ≡ Some x) × (get_or S.methods m.0 x ≡ x)) ⊎ ((length S.methods ≤ m.0) × (slice_get S.methods m.0 ≡ None)) → place < 256
    by_place (inl (x, below, there, same)) =
        let at : slice_get x.body place ≡ Some s = ap (λ b. slice_get b place) (sym (body_is S m x there)) ∙ here in
        let within = slice_get_within x.body place s at in
        let few = few_statements S m x there playable in omega (arith, within, few)
    by_place (inr (past, none)) = absurd (omega (arith, past, less))

-- ---- the next statement

module _ (S : Scenario) (m : MethodNo) (place : ℕ) (st : State) where
  module _ (s : Stmt) (here : slice_get (body_of S m) place ≡ Some s) where
    next_is : statements S m place st ≡ and_then (statement S (inside S m) s st) (statements S m (place + 1))
    unfolding body
    next_is = ap (λ b. body S (inside S m) b st) (drop_at (body_of S m) place s here)

    -- a statement, and the body after it
    pub goes_on : (standing : Standing) (scope : Option Interception) → ScopeRuns S standing m scope
        → call_after S m place scope (Over None st) ≡ call_after S m (place + 1) scope (statement S (inside S m) s st)
    goes_on standing None runs = ap (λ r. finally r (leaves m)) next_is
    goes_on standing (Some i) runs =
        let phase = runs_only standing i i.phase runs.1 in
        ap (λ p. phase_after S m place i p (Over None st)) phase
        ∙ ap (λ r. finally r (ends S (inside S m) (scope_of m i) (attribute_of S m))) next_is
        ∙ ap (λ p. phase_after S m (place + 1) i p (statement S (inside S m) s st)) (sym phase)

  -- ---- the end

  module _ (x : Option ClassNo) (none : IsNext (body_of S m) place x None) where
    over_is : (y : Option ClassNo) → (y ≡ None → slice_get (body_of S m) place ≡ None) → and_then (Over y st) (statements S m place) ≡ Over y st
    unfolding body
    over_is (Some y) past = refl
    over_is None past = ap (λ b. body S (inside S m) b st) (drop_past (body_of S m) place (past refl))

    -- a body that opened no scope
    pub ends_unscoped : call_after S m place None (Over x st) ≡ leaves m x st
    ends_unscoped = ap (λ r. finally r (leaves m)) (over_is x none)

    -- and one that did
    pub ends_scoped : (standing : Standing) (i : Interception) → ScopeRuns S standing m (Some i)
        → call_after S m place (Some i) (Over x st) ≡ ends S (inside S m) (scope_of m i) (attribute_of S m) x st
    ends_scoped standing i runs =
        ap (λ p. phase_after S m place i p (Over x st)) (runs_only standing i i.phase runs.1)
        ∙ ap (λ r. finally r (ends S (inside S m) (scope_of m i) (attribute_of S m))) (over_is x none)

-- ---- moves

-- from another machine that has said the same
pub moves_from : (n : ℕ) (m other after : Machine) → m.lines.items ≡ other.lines.items → Moves n other after → Moves n m after
moves_from n m other after same (Says longer) = Says (subst (λ ls. length ls < length after.lines.items) (sym same) longer)
moves_from n m other after same (Waits waits) = Waits waits
moves_from n m other after same (Shrinks lines fewer) = Shrinks (ap length same ∙ lines) fewer
