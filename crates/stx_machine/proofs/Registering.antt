-- What the calls under way rely on, where one registration more is made.
use Rattle.std.proofs.Common.{◌≡◌, ◌++◌, ◌∷◌, [], Bool, true, false, List, Option, Some, None, sym, ap, subst, arith}
use Rattle.std.specs.Prelude.{◌&&◌}
use Rattle.std.specs.Option.{option_map}
use Rattle.stx_scenario.specs.declared.numbers.MethodNo.{MethodNo}
use Rattle.stx_scenario.specs.declared.scenario.Scenario.{Scenario}
use Rattle.stx_base.specs.declared.manager.Kind.{Kind}
use Rattle.stx_base.specs.declared.manager.Round.{Round}
use Rattle.stx_base.specs.Weight.{rank}
use Rattle.stx_model.specs.Below.{LabelBelow}
use Rattle.stx_model.specs.Contexts.{Registration}
use Rattle.stx_model.proofs.Callable.{all_append, label_raise}
use Rattle.stx_context.specs.Carrying.{Carried}
use Rattle.stx_sync.specs.Registries.{Registrations}
use Rattle.stx_frames.specs.declared.frame.Frame.{Frame}
use Rattle.stx_manager.specs.Scopes.{OpenScope}
use Rattle.stx_machine.specs.declared.interception.Interception.{Interception}
use Rattle.stx_machine.specs.declared.interception.Phase.{Phase}
use Rattle.stx_machine.specs.Machine.{Call, caller_rank}
use Rattle.stx_machine.specs.Sound.{Bond, bond_of, standing_of, CallsRun, IsIntercepted, RoundsIn, RunsIn, Shelters, Standing, below_phase, due_told, ends_after, has_own_of, is_point, nothing, one_less, owns_in, releases, standing_under, without_own}

module _ (S : Scenario) (r : Registration) where
  -- with these registrations
  abbrev at : Bond → List Registration → Standing
  at bond list = record { bond = bond; syncs = Some list }

  more : List Registration → List Registration
  more list = list ++ r ∷ []

  sheltered : (m : MethodNo) → LabelBelow S (rank S m) r.label → (owns : Bool) (list : List Registration) → Shelters S m owns (Some list) → Shelters S m owns (Some (more list))
  unfolding more
  sheltered m below true list shelters = all_append (λ s. LabelBelow S (rank S m) s.label) list (r ∷ []) shelters (below, tt)
  sheltered m below false list shelters = tt

  intercepted : (m : MethodNo) → LabelBelow S (rank S m) r.label → (owns : Bool) (list : List Registration) → IsIntercepted S m owns (Some list) → IsIntercepted S m owns (Some (more list))
  intercepted m below owns list is = record { attribute = is.attribute; shelters = sheltered m below owns list is.shelters }

  has_own : (kind : Kind) (owns older : Bool) (bond : Bond) (list : List Registration) → has_own_of kind owns older (at bond list) ≡ true → has_own_of kind owns older (at bond (more list)) ≡ true
  has_own Kind.Fresh owns older bond list own = own
  has_own Kind.Join owns older bond list own = own
  has_own Kind.Point owns older bond list own = own
  has_own Kind.Empty owns older bond list own = own

  runs : (i : Interception) (bond : Bond) (list : List Registration) (phase : Phase) → RunsIn (at bond list) i phase → RunsIn (at bond (more list)) i phase
  runs i bond list Phase.Running is = (has_own i.scope.kind i.scope.owns _ bond list is.0, is.1)
  runs i bond list Phase.Opening is = is
  runs i bond list (Phase.Completing rest x) is = is
  runs i bond list (Phase.Round course) is = is

  told : (round : Round) (scope : OpenScope) (bond : Bond) (list : List Registration) (rest : _) → due_told round scope (at bond list) rest ≡ true → due_told round scope (at bond (more list)) rest ≡ true
  told Round.BeforeCommit scope bond list rest due = due
  told Round.BeforeCompletion scope bond list rest due = due
  told Round.AfterCommit scope bond list rest due = due
  told Round.AfterCompletion scope bond list rest due = due

  rounds : (i : Interception) (bond : Bond) (list : List Registration) (phase : Phase) → RoundsIn S (at bond list) i phase → RoundsIn S (at bond (more list)) i phase
  rounds i bond list (Phase.Round course) is = (told course.round i.scope bond list course.rest.now is.0, is.1)
  rounds i bond list Phase.Opening is = is
  rounds i bond list Phase.Running is = is
  rounds i bond list (Phase.Completing rest x) is = is

  module _ (fs : List Call) (further : (bond : Bond) (list : List Registration) → CallsRun S (at bond list) fs → CallsRun S (at bond (more list)) fs) where
    under : (older : Option Carried) (pointed owns : Bool) (bond : Bond) (list : List Registration)
        → CallsRun S (standing_under older (without_own pointed owns (at bond list))) fs → CallsRun S (standing_under older (without_own pointed owns (at bond (more list)))) fs
    under (Some carried) pointed owns bond list calls = calls
    under None pointed true bond list calls = calls
    under None pointed false bond list calls = further (elim pointed [ true ↦ one_less bond | false ↦ bond ]) list calls

    under_phase : (scope : OpenScope) (bond : Bond) (list : List Registration) (phase : Phase) → RoundsIn S (at bond list) (record { scope = scope; outer = None; phase = phase }) phase
        → CallsRun S (below_phase scope phase (at bond list)) fs → CallsRun S (below_phase scope phase (at bond (more list))) fs
    under_phase scope bond list (Phase.Round course) is calls =
        under scope.suspended (releases course.rest.now) (scope.owns && ends_after course.round course.rest.now) bond list calls
    under_phase scope bond list Phase.Opening is calls = absurd is
    under_phase scope bond list Phase.Running is calls = absurd is
    under_phase scope bond list (Phase.Completing rest x) is calls = absurd is

  none_there : (bond : Bond) (list : List Registration) → at bond list ≡ nothing → ⊥
  none_there bond list is =
      let none : Some list ≡ None = ap (λ (s : Standing). s.syncs) is in cc

-- one registration more calls only methods of lower rank than each scope that may own it
pub registers_run : (S : Scenario) (r : Registration) (fs : List Call) → LabelBelow S (caller_rank S fs) r.label → (bond : Bond) (list : List Registration)
    → CallsRun S (record { bond = bond; syncs = Some list }) fs → CallsRun S (record { bond = bond; syncs = Some (list ++ r ∷ []) }) fs
unfolding more
registers_run S r [] below bond list calls = absurd (none_there S r bond list calls)
registers_run S r (Frame.Body m place catch None ∷ fs) below bond list calls =
    let higher = label_raise S (rank S m) (caller_rank S fs) (omega (arith, calls.0.low)) r.label below in
    (calls.0, calls.1, registers_run S r fs higher bond list calls.2)
registers_run S r (Frame.Body m place catch (Some i) ∷ fs) below bond list calls =
    let higher = label_raise S (rank S m) (caller_rank S fs) (omega (arith, calls.0.low)) r.label below in (
      calls.0,
      (intercepted S r m below i.scope.owns list calls.1.0, runs S r i bond list i.phase calls.1.1),
      under S r fs (λ b l. registers_run S r fs higher b l) i.scope.suspended (is_point i.scope.kind) i.scope.owns bond list calls.2,
    )
registers_run S r (Frame.Round round todo at_ place x ∷ Frame.Body m statement catch (Some i) ∷ fs) below bond list calls =
    let higher = label_raise S (rank S m) (caller_rank S fs) (omega (arith, calls.0.low)) r.label below in (
      calls.0,
      intercepted S r m below (owns_in i.scope i.phase) list calls.1,
      rounds S r i bond list i.phase calls.2,
      calls.3,
      under_phase S r fs (λ b l. registers_run S r fs higher b l) i.scope bond list i.phase calls.2 calls.4,
    )
registers_run S r (Frame.Round round todo at_ place x ∷ Frame.Body m statement catch None ∷ fs) below bond list calls = absurd calls
registers_run S r (Frame.Round round todo at_ place x ∷ Frame.Round other rest told statement y ∷ fs) below bond list calls = absurd calls
registers_run S r (Frame.Round round todo at_ place x ∷ Frame.Now listener statement ∷ fs) below bond list calls = absurd calls
registers_run S r (Frame.Round round todo at_ place x ∷ []) below bond list calls = absurd calls
registers_run S r (Frame.Now listener place ∷ fs) below bond list calls = (calls.0, calls.1, calls.2, registers_run S r fs below bond list calls.3)

-- the same of what a client carries, whose registry has one registration more
pub registry_runs : (S : Scenario) (r : Registration) (fs : List Call) (carried : Carried) (had new : Registrations) → Some had ≡ carried.syncs → new.list ≡ had.list ++ r ∷ []
    → LabelBelow S (caller_rank S fs) r.label → CallsRun S (standing_of carried) fs → CallsRun S (standing_of (record carried { syncs = Some new })) fs
registry_runs S r fs carried had new is more below calls =
    let before = subst (λ o. CallsRun S (record { bond = bond_of carried.tx; syncs = option_map (λ (k : Registrations). k.list) o }) fs) (sym is) calls in
    subst (λ list. CallsRun S (record { bond = bond_of carried.tx; syncs = Some list }) fs) (sym more) (registers_run S r fs below (bond_of carried.tx) had.list before)
