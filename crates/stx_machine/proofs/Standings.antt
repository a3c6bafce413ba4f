-- What the calls under way rely on: where a call is put on top, where an action is done, and where a savepoint is made.
use Rattle.std.proofs.Common.{◌≡◌, ◌∙◌, ◌∷◌, [], ℕ, zero, suc, ◌+◌, ◌<◌, ◌≤◌, Bool, true, false, List, Option, Some, None, refl, sym, ap, subst, arith}
use Rattle.std.specs.Prelude.{◌&&◌, ◌||◌, not, IsSome}
use Rattle.std.specs.Option.{is_some, option_map}
use Rattle.std.proofs.lemmas.Bool.{false≢true, and_parts}
use Rattle.stx_scenario.specs.declared.numbers.MethodNo.{MethodNo}
use Rattle.stx_scenario.specs.declared.scenario.Scenario.{Scenario}
use Rattle.stx_base.specs.declared.manager.Action.{Action}
use Rattle.stx_base.specs.declared.manager.Kind.{Kind}
use Rattle.stx_base.specs.declared.manager.Round.{Round}
use Rattle.stx_base.specs.Weight.{rank}
use Rattle.stx_model.specs.Contexts.{Registration}
use Rattle.stx_context.specs.Carrying.{Carried, bare}
use Rattle.stx_conn.specs.Bindings.{Binding}
use Rattle.stx_sync.specs.Registries.{Registrations}
use Rattle.stx_frames.specs.declared.frame.Frame.{Frame}
use Rattle.stx_manager.specs.Scopes.{OpenScope}
use Rattle.stx_machine.specs.declared.interception.Interception.{Interception}
use Rattle.stx_machine.specs.declared.interception.Phase.{Phase}
use Rattle.stx_machine.specs.declared.machine.Machine.{Machine}
use Rattle.stx_machine.specs.declared.stage.Stage.{Stage}
use Rattle.stx_machine.specs.declared.tokens.Tokens.{Tokens}
use Rattle.stx_scenario.specs.declared.numbers.ClassNo.{ClassNo}
use Rattle.stx_machine.specs.Machine.{Call, round_in, left_in, left_of, IsPushed, stack, caller_rank}
use Rattle.stx_machine.specs.Sound.{Bond, IsIntercepted, due_after, Unbound, Runs, Ended, CallPoints, CallsRun, IsBody, IsEarly, IsSound, Standing, StageFits, below_rest, below_scope, bond_of, RoundsIn, RunsIn, Shelters, below_phase, below_round, due_in, due_told, ends_after, ends_syncs, has_ended, has_own_of, has_point, is_due, is_last, is_point, is_resumption, is_unbound, nothing, one_less, one_more, points_of, releases, runs, standing_of, standing_under, without_own}
use Rattle.stx_machine.proofs.Endings.{each_round}
use Rattle.stx_machine.proofs.Stacks.{each_innermost, pushed, runs_only}

-- ---- the last action

pub resumption_is : (rest : List Action) → is_resumption rest ≡ true → rest ≡ Action.Resumption ∷ []
resumption_is [] is = absurd (false≢true is)
resumption_is (Action.Resumption ∷ []) is = refl
resumption_is (Action.Resumption ∷ a ∷ rest) is = absurd (false≢true is)
resumption_is (Action.RoundBeforeCompletion ∷ rest) is = absurd (false≢true is)
resumption_is (Action.RoundAfterCommit ∷ rest) is = absurd (false≢true is)
resumption_is (Action.RoundAfterCompletion committed ∷ rest) is = absurd (false≢true is)
resumption_is (Action.CommitStore ∷ rest) is = absurd (false≢true is)
resumption_is (Action.RollbackStore ∷ rest) is = absurd (false≢true is)
resumption_is (Action.BackToPoint ∷ rest) is = absurd (false≢true is)
resumption_is (Action.ReleasePoint ∷ rest) is = absurd (false≢true is)
resumption_is (Action.MarkGlobally ∷ rest) is = absurd (false≢true is)
resumption_is (Action.ThrowUnexpected ∷ rest) is = absurd (false≢true is)
resumption_is (Action.GiveBack ∷ rest) is = absurd (false≢true is)

-- ---- a call on top

-- a call that was put on top, at a stage that fits
pub pushed_sound : (S : Scenario) (m after : Machine) (call : Call) (stage : Stage) (tokens : Tokens) → IsPushed m call after
    → StageFits S stage m.context (call ∷ stack m.frames) → IsEarly stage m.top → m.tokens ≡ tokens → IsSound S (record after { stage = stage }) tokens
pushed_sound S m after call stage tokens is fits early holds = record {
  stage = subst (λ z. StageFits S stage z.context (stack after.frames)) (sym is.rest) (subst (StageFits S stage m.context) (sym (pushed m.frames after.frames call is.frames)) fits);
  top = subst (λ z. IsEarly stage z.top) (sym is.rest) early;
  holds = ap (λ z. z.tokens) is.rest ∙ holds;
}

-- ---- actions

-- what was suspended stands below, whatever the scope has of its own
pub under_some : (older : Option Carried) (one other : Standing) → IsSome older → standing_under older one ≡ standing_under older other
under_some (Some carried) one other is = refl
under_some None one other is = cc

resumption_due : (owns older active : Bool) → older ≡ true → not active ≡ true → is_due owns older Unbound active (Action.Resumption ∷ []) ≡ true
resumption_due owns true false older none = refl
resumption_due owns true true older none = absurd (false≢true none)
resumption_due owns false active older none = absurd (false≢true older)

-- once the connection is on its way back
pub due_given : (owns older : Bool) (bond : Bond) (active : Bool) (rest : List Action) → is_due owns older bond active (Action.GiveBack ∷ rest) ≡ true
    → (is_due owns older Unbound active rest ≡ true) × (is_resumption rest ≡ true) × (older ≡ true)
due_given owns older bond active rest due =
    let (ended, more) = and_parts (has_ended bond) _ due in
    let (some, last) = and_parts older _ more in
    let (none, only) = and_parts (not active) _ last in
    (ap (is_due owns older Unbound active) (resumption_is rest only) ∙ resumption_due owns older active some none, only, some)

not_true : (b : Bool) → not b ≡ true → b ≡ false
not_true false is = refl
not_true true is = absurd (false≢true is)

-- once a savepoint is being released
pub due_released : (owns older : Bool) (bond : Bond) (active : Bool) (rest : List Action) → is_due owns older bond active (Action.ReleasePoint ∷ rest) ≡ true
    → (has_point bond ≡ true) × (releases rest ≡ false) × (is_due owns older (one_less bond) active rest ≡ true)
due_released owns older bond active rest due =
    let (point, more) = and_parts (has_point bond) _ due in
    let (alone, left) = and_parts (not older) _ more in
    let (once, later) = and_parts (not (releases rest)) _ left in
    (point, not_true (releases rest) once, later)

bound_is : (running : Bool) (points : ℕ) → is_unbound (elim running as (λ _. Bond) [ true ↦ Runs points | false ↦ Ended points ]) ≡ true → ⊥
bound_is true points is = false≢true is
bound_is false points is = false≢true is

bare_parts : (tx : Option Binding) (syncs : Option Registrations) → is_unbound (bond_of tx) ≡ true → not (is_some syncs) ≡ true
    → ◌≡◌ {A = Carried} (record { tx = tx; syncs = syncs }) bare
bare_parts None None unbound inactive = refl
bare_parts None (Some r) unbound inactive = absurd (false≢true inactive)
bare_parts (Some b) syncs unbound inactive = absurd (bound_is b.running b.points unbound)

-- nothing is carried where what was suspended is resumed
pub bare_if : (carried : Carried) → is_unbound (bond_of carried.tx) ≡ true → not (is_some carried.syncs) ≡ true → carried ≡ bare
bare_if carried unbound inactive = bare_parts carried.tx carried.syncs unbound inactive

-- after the last action nothing is a scope's own
none_left : (older : Option Carried) (owns : Bool) (standing : Standing) → not (is_some older) ≡ true → standing_under older (without_own false (owns && false) standing) ≡ standing
none_left None true standing alone = refl
none_left None false standing alone = refl
none_left (Some carried) owns standing alone = absurd (false≢true alone)

pub below_none : (scope : OpenScope) (standing : Standing) → not (is_some scope.suspended) ≡ true → below_rest scope [] standing ≡ standing
below_none scope standing alone = none_left scope.suspended scope.owns standing alone

-- what is sheltered until the last round is sheltered, where there is one still to come
pub shelters_all : (S : Scenario) (m : MethodNo) (owns ends : Bool) (syncs : Option (List Registration)) → ends || not owns ≡ true → Shelters S m (owns && ends) syncs → Shelters S m owns syncs
shelters_all S m true true syncs is sheltered = sheltered
shelters_all S m true false syncs is sheltered = absurd (false≢true is)
shelters_all S m false ends syncs is sheltered = tt

-- a round that is the next of a completion's actions
pub round_due : (S : Scenario) (m : MethodNo) (scope : OpenScope) (standing : Standing) (rest : List Action) (a : Action)
    → (round : Round) (committed : Bool) → round_in a ≡ Some (round, committed) → due_in scope standing (a ∷ rest) ≡ true → IsIntercepted S m (scope.owns && ends_syncs (a ∷ rest)) standing.syncs
    → (due_after round scope standing rest ≡ true) × IsIntercepted S m scope.owns standing.syncs × (releases (a ∷ rest) ≡ releases rest) × (ends_syncs (a ∷ rest) ≡ ends_after round rest)
round_due S m scope standing rest =
    each_round
    (λ a round committed. due_in scope standing (a ∷ rest) ≡ true → IsIntercepted S m (scope.owns && ends_syncs (a ∷ rest)) standing.syncs
    → (due_after round scope standing rest ≡ true) × IsIntercepted S m scope.owns standing.syncs × (releases (a ∷ rest) ≡ releases rest) × (ends_syncs (a ∷ rest) ≡ ends_after round rest))
    early early (λ committed due held. (due, sheltered true refl held, refl, refl))
  where
    sheltered : (ends : Bool) → ends || not scope.owns ≡ true → IsIntercepted S m (scope.owns && ends) standing.syncs → IsIntercepted S m scope.owns standing.syncs
    sheltered ends last held = record { attribute = held.attribute; shelters = shelters_all S m scope.owns ends standing.syncs last held.shelters }

    early : {still : Bool} → (ends_syncs rest || not scope.owns) && still ≡ true → IsIntercepted S m (scope.owns && ends_syncs rest) standing.syncs
        → (still ≡ true) × IsIntercepted S m scope.owns standing.syncs × (releases rest ≡ releases rest) × (ends_syncs rest ≡ ends_syncs rest)
    early due held =
        let (last, later) = and_parts (ends_syncs rest || not scope.owns) _ due in (later, sheltered (ends_syncs rest) last held, refl, refl)

pub shelters_part : (S : Scenario) (m : MethodNo) (owns ends : Bool) (syncs : Option (List Registration)) → Shelters S m owns syncs → Shelters S m (owns && ends) syncs
shelters_part S m true true syncs sheltered = sheltered
shelters_part S m true false syncs sheltered = tt
shelters_part S m false ends syncs sheltered = tt

-- nor are there registrations of its own
pub unowned : (S : Scenario) (m : MethodNo) (owns : Bool) (syncs : Option (List Registration)) → Shelters S m (owns && false) syncs
unowned S m true syncs = tt
unowned S m false syncs = tt

-- ---- savepoints

runs_none : (bond : Bond) → runs bond ≡ true → points_of bond ≡ 0
runs_none (Runs zero) is = refl
runs_none (Runs (suc points)) is = absurd (false≢true is)
runs_none Unbound is = refl
runs_none (Ended points) is = absurd (false≢true is)

ended_none : (bond : Bond) → has_ended bond ≡ true → points_of bond ≡ 0
ended_none (Ended zero) is = refl
ended_none (Ended (suc points)) is = absurd (false≢true is)
ended_none Unbound is = refl
ended_none (Runs points) is = absurd (false≢true is)

unbound_none : (bond : Bond) → is_unbound bond ≡ true → points_of bond ≡ 0
unbound_none Unbound is = refl
unbound_none (Runs points) is = absurd (false≢true is)
unbound_none (Ended points) is = absurd (false≢true is)

less_by_one : (bond : Bond) → points_of bond ≤ points_of (one_less bond) + 1
less_by_one Unbound = omega arith
less_by_one (Runs points) = omega arith
less_by_one (Ended points) = omega arith

-- a scope that suspended something has no savepoint while it completes
due_alone : (owns : Bool) (bond : Bond) (active : Bool) (rest : List Action) → is_due owns true bond active rest ≡ true → points_of bond ≡ 0
due_alone owns bond active [] due = absurd (false≢true due)
due_alone owns bond active (Action.RoundBeforeCompletion ∷ rest) due = due_alone owns bond active rest (and_parts (ends_syncs rest || not owns) _ due).1
due_alone owns bond active (Action.RoundAfterCommit ∷ rest) due = due_alone owns bond active rest (and_parts (ends_syncs rest || not owns) _ due).1
due_alone owns bond active (Action.RoundAfterCompletion committed ∷ rest) due = due_alone owns bond (active && not owns) rest due
due_alone owns bond active (Action.CommitStore ∷ rest) due = runs_none bond (and_parts (runs bond) _ due).0
due_alone owns bond active (Action.RollbackStore ∷ rest) due = runs_none bond (and_parts (runs bond) _ due).0
due_alone owns bond active (Action.BackToPoint ∷ rest) due = absurd (false≢true (and_parts (has_point bond) false due).1)
due_alone owns bond active (Action.ReleasePoint ∷ rest) due = absurd (false≢true (and_parts (has_point bond) false due).1)
due_alone owns bond active (Action.MarkGlobally ∷ rest) due = due_alone owns bond active rest due
due_alone owns bond active (Action.ThrowUnexpected ∷ rest) due = due_alone owns bond active rest due
due_alone owns bond active (Action.GiveBack ∷ rest) due = ended_none bond (and_parts (has_ended bond) _ due).0
due_alone owns bond active (Action.Resumption ∷ rest) due = unbound_none bond (and_parts (is_unbound bond) _ (and_parts (is_last rest) _ due).1).0

told_alone : (round : Round) (scope : OpenScope) (standing : Standing) (rest : List Action) → is_some scope.suspended ≡ true → due_told round scope standing rest ≡ true
    → points_of standing.bond ≡ 0
told_alone round scope standing rest older due = by_round round due
  where
    alone : due_in scope standing rest ≡ true → points_of standing.bond ≡ 0
    alone is = due_alone scope.owns standing.bond (is_some standing.syncs) rest (ap (λ b. is_due scope.owns b standing.bond (is_some standing.syncs) rest) (sym older) ∙ is)

    by_round : (r : Round) → due_told r scope standing rest ≡ true → points_of standing.bond ≡ 0
    by_round Round.BeforeCommit is = alone (and_parts (due_in scope standing rest) _ is).0
    by_round Round.BeforeCompletion is = alone is
    by_round Round.AfterCommit is = alone is
    by_round Round.AfterCompletion is = alone (and_parts (not (is_some standing.syncs)) _ is).1

-- a body's own savepoint is the one that it has more than what stands below it
own_points : (kind : Kind) (owns : Bool) (older : Option Carried) (standing : Standing) (below : ℕ) → has_own_of kind owns (is_some older) standing ≡ true
    → points_of (standing_under older (without_own (is_point kind) owns standing)).bond ≤ below → points_of standing.bond ≤ below + 1
own_points Kind.Fresh owns older standing below own few = omega (arith, runs_none standing.bond (and_parts (runs standing.bond) _ own).0)
own_points Kind.Join owns None standing below own few = omega (arith, few)
own_points Kind.Join owns (Some carried) standing below own few = absurd (false≢true own)
own_points Kind.Point owns None standing below own few = omega (arith, few, less_by_one standing.bond)
own_points Kind.Point owns (Some carried) standing below own few = absurd (false≢true (and_parts (has_point standing.bond) false own).1)
own_points Kind.Empty owns None standing below own few = omega (arith, few)
own_points Kind.Empty owns (Some carried) standing below own few = omega (arith, unbound_none standing.bond (and_parts (is_unbound standing.bond) _ own).0)

round_points : (older : Option Carried) (pointed owns : Bool) (standing : Standing) (below : ℕ) → (is_some older ≡ true → points_of standing.bond ≡ 0)
    → points_of (standing_under older (without_own pointed owns standing)).bond ≤ below → points_of standing.bond ≤ below + 1
round_points None true owns standing below alone few = omega (arith, few, less_by_one standing.bond)
round_points None false owns standing below alone few = omega (arith, few)
round_points (Some carried) pointed owns standing below alone few = omega (arith, alone refl)

pub has_one_more_own : (bond : Bond) → not (is_unbound bond) ≡ true → has_point (one_more bond) && (not false && not false) ≡ true
has_one_more_own (Runs points) bound = refl
has_one_more_own (Ended points) bound = refl
has_one_more_own Unbound bound = absurd (false≢true bound)

pub one_more_less : (bond : Bond) → one_less (one_more bond) ≡ bond
one_more_less Unbound = refl
one_more_less (Runs points) = ap Runs (omega arith)
one_more_less (Ended points) = ap Ended (omega arith)

-- there are no more savepoints than ranks above the innermost call
pub points_low : (S : Scenario) (standing : Standing) (fs : List Call) → CallsRun S standing fs → points_of standing.bond + caller_rank S fs ≤ 65
points_low S standing [] calls = omega (arith, ap (λ s. points_of s.bond) calls)
points_low S standing (Frame.Body m place catch None ∷ fs) calls =
    let low = calls.0.low in
    let below = points_low S standing fs calls.2 in omega (arith, low, below)
points_low S standing (Frame.Body m place catch (Some i) ∷ fs) calls =
    let low = calls.0.low in
    let below = points_low S (below_scope i.scope standing) fs calls.2 in
    let runs = subst (RunsIn standing i) (runs_only standing i i.phase calls.1.1) calls.1.1 in
    let few = own_points i.scope.kind i.scope.owns i.scope.suspended standing (points_of (below_scope i.scope standing).bond) runs.0 (omega arith) in
    omega (arith, low, below, few)
points_low S standing (Frame.Round round todo at place x ∷ Frame.Body m statement catch (Some i) ∷ fs) calls = by_phase (λ s. points_low S s fs) i.phase calls.2 calls.4
  where
    low : rank S m < caller_rank S fs
    low = calls.0.low

    by_phase : ((s : Standing) → CallsRun S s fs → points_of s.bond + caller_rank S fs ≤ 65) → (phase : Phase) → RoundsIn S standing i phase
        → CallsRun S (below_phase i.scope phase standing) fs → points_of standing.bond + rank S m ≤ 65
    by_phase lower Phase.Opening rounds under = absurd rounds
    by_phase lower Phase.Running rounds under = absurd rounds
    by_phase lower (Phase.Completing rest y) rounds under = absurd rounds
    by_phase lower (Phase.Round course) rounds under =
        let below = lower (below_round i.scope course standing) under in
        let few = round_points i.scope.suspended (releases course.rest.now) (i.scope.owns && ends_after course.round course.rest.now) standing
        (points_of (below_round i.scope course standing).bond) (λ older. told_alone course.round i.scope standing course.rest.now older rounds.0) (omega arith) in
        omega (arith, low, below, few)
points_low S standing (Frame.Round round todo at place x ∷ Frame.Body m statement catch None ∷ fs) calls = absurd calls
points_low S standing (Frame.Round round todo at place x ∷ Frame.Round other rest told statement y ∷ fs) calls = absurd calls
points_low S standing (Frame.Round round todo at place x ∷ Frame.Now listener statement ∷ fs) calls = absurd calls
points_low S standing (Frame.Round round todo at place x ∷ []) calls = absurd calls
points_low S standing (Frame.Now listener place ∷ fs) calls = points_low S standing fs calls.3

-- where the innermost call waits for its savepoint
pub points_before : (S : Scenario) (standing : Standing) (fs : List Call) → CallPoints S standing fs → points_of standing.bond ≤ 65
points_before S standing fs points =
    each_innermost _ (λ _. points_of standing.bond ≤ 65) (λ m place catch i below is. omega (arith, points_low S standing below is.5)) fs points

inactive_of : (syncs : Option Registrations) → option_map (λ r. r.list) syncs ≡ None → not (is_some syncs) ≡ true
inactive_of None is = refl
inactive_of (Some r) is = cc

-- where no call is under way nothing is carried
pub bare_of : (carried : Carried) → standing_of carried ≡ nothing → carried ≡ bare
bare_of carried none =
    bare_if carried (ap (λ (s : Standing). is_unbound s.bond) none) (inactive_of carried.syncs (ap (λ (s : Standing). s.syncs) none))

-- ---- what is left to do at once

over_running : (standing : Standing) (i : Interception) (phase : Phase) (x : Option ClassNo) → RunsIn standing i phase → left_in (Stage.Over x) phase ≡ 0
over_running standing i Phase.Running x runs = refl
over_running standing i Phase.Opening x runs = absurd runs
over_running standing i (Phase.Completing rest y) x runs = absurd runs
over_running standing i (Phase.Round course) x runs = absurd runs

-- a body that goes on has nothing left of a completion
pub over_body : (S : Scenario) (standing : Standing) (fs : List Call) (x : Option ClassNo) → IsBody fs → CallsRun S standing fs → left_of (Stage.Over x) fs ≡ 0
over_body S standing [] x body calls = absurd body
over_body S standing (Frame.Body m place catch None ∷ fs) x body calls = refl
over_body S standing (Frame.Body m place catch (Some i) ∷ fs) x body calls = over_running standing i i.phase x calls.1.1
over_body S standing (Frame.Round round todo at place y ∷ fs) x body calls = absurd body
over_body S standing (Frame.Now listener place ∷ fs) x body calls = absurd body
