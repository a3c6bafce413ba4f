-- What always holds of a machine: what each call under way has of the context, and what the client holds.
use Rattle.std.specs.Prelude.{◌≡◌, ℕ, zero, suc, ◌-◌, ◌^◌, ◌<◌, ◌≤◌, Bool, true, false, ◌&&◌, ◌||◌, not, List, [], ◌∷◌, length, map, Option, Some, None, IsTrue, IsSome, ⊤}
use Rattle.std.specs.Option.{is_some}
use Rattle.stx_base.specs.Weight.{rank}
use Rattle.stx_scenario.specs.declared.numbers.ClassNo.{ClassNo}
use Rattle.stx_scenario.specs.declared.numbers.MethodNo.{MethodNo}
use Rattle.stx_scenario.specs.declared.scenario.Scenario.{Scenario}
use Rattle.stx_base.specs.declared.history.Note.{Note}
use Rattle.stx_base.specs.declared.history.PoolNote.{PoolNote}
use Rattle.stx_base.specs.declared.history.StoreNote.{StoreNote}
use Rattle.stx_base.specs.declared.manager.Action.{Action}
use Rattle.stx_base.specs.declared.manager.Ending.{Ending}
use Rattle.stx_base.specs.declared.manager.Kind.{Kind}
use Rattle.stx_base.specs.Attributes.{attribute}
use Rattle.stx_base.specs.Limits.{most_calls}
use Rattle.stx_base.specs.declared.manager.Round.{Round}
use Rattle.std.specs.List.{AllByRecursion}
use Rattle.stx_model.specs.Below.{DeedBelow, ListenerBelow, RegisteredBelow}
use Rattle.stx_model.specs.Contexts.{Registration, registered}
use Rattle.stx_model.specs.Listeners.{Deed}
use Rattle.stx_model.specs.Ending.{completion_refused}
use Rattle.stx_conn.specs.Bindings.{Binding}
use Rattle.stx_context.specs.Carrying.{Carried, bare, context_of}
use Rattle.stx_manager.specs.Scopes.{OpenScope, new_scope}
use Rattle.stx_sync.specs.declared.registered.Registered.{Registered}
use Rattle.stx_sync.specs.Registries.{registration}
use Rattle.stx_frames.specs.declared.frame.Frame.{Frame}
use Rattle.stx_machine.specs.declared.completion.Intercepted.{Intercepted}
use Rattle.stx_machine.specs.declared.interception.Course.{Course}
use Rattle.stx_machine.specs.declared.interception.Interception.{Interception}
use Rattle.stx_machine.specs.declared.interception.Phase.{Phase}
use Rattle.stx_machine.specs.declared.machine.Machine.{Machine}
use Rattle.stx_machine.specs.declared.stage.Place.{Place}
use Rattle.stx_machine.specs.declared.stage.Stage.{Stage}
use Rattle.stx_machine.specs.declared.tokens.Tokens.{Tokens}
use Rattle.stx_machine.specs.Machine.{Call, IsClass, Innermost, caller_rank, later_deeds, publication_of, rest_of, stack}

-- ---- tokens

abbrev pub no_tokens : Tokens
no_tokens = record { connection = None; session = None }

abbrev pub with_connection : ℕ → Tokens
with_connection c = record { connection = Some c; session = None }

abbrev pub with_session : ℕ → Tokens
with_session t = record { connection = None; session = Some t }

-- an own statement holds its connection
abbrev pub held_at : Place → Tokens
held_at (Place.Connection c) = with_connection c
held_at (Place.Transaction t) = no_tokens

-- what the client holds beside its context before the call of a stage is made
abbrev pub held : Stage → Tokens
held (Stage.Accessing place a d) = held_at place
held (Stage.Returning c x) = with_connection c
held (Stage.Beginning c) = with_connection c
held (Stage.Committing t) = with_session t
held (Stage.RollingBack t) = with_session t
held (Stage.GivingBack bound) = with_connection bound.connection
held _ = no_tokens

-- and what is left once it is made: the call takes along the token that it spends
abbrev pub held_out : Stage → Tokens
held_out (Stage.Accessing place a d) = held_at place
held_out (Stage.Beginning c) = with_connection c
held_out _ = no_tokens

-- a take brings a connection, and a begin a session
abbrev pub brought : Note → Tokens → Tokens
brought (Note.Pool (PoolNote.Taken c)) tokens = record { connection = Some c; session = tokens.session }
brought (Note.Store (StoreNote.Begin t)) tokens = record { connection = tokens.connection; session = Some t }
brought _ tokens = tokens

-- ---- what is carried, as the calls under way rely on it

-- nothing is bound, or a transaction that runs or whose session was handed out, with so many open savepoints
pub data Bond : Type 0 where
  Unbound : Bond
  Runs : ℕ → Bond
  Ended : ℕ → Bond

abbrev pub bond_of : Option Binding → Bond
bond_of None = Unbound
bond_of (Some b) = elim b.running [ true ↦ Runs b.points | false ↦ Ended b.points ]

-- a transaction runs, and no savepoint is open
abbrev pub runs : Bond → Bool
runs (Runs zero) = true
runs _ = false

-- its session was handed out, and no savepoint is open
abbrev pub has_ended : Bond → Bool
has_ended (Ended zero) = true
has_ended _ = false

abbrev pub is_unbound : Bond → Bool
is_unbound Unbound = true
is_unbound _ = false

-- the open savepoints
abbrev pub points_of : Bond → ℕ
points_of Unbound = 0
points_of (Runs points) = points
points_of (Ended points) = points

abbrev pub has_point : Bond → Bool
has_point (Runs (suc points)) = true
has_point (Ended (suc points)) = true
has_point _ = false

abbrev pub one_more : Bond → Bond
one_more Unbound = Unbound
one_more (Runs points) = Runs (suc points)
one_more (Ended points) = Ended (suc points)

abbrev pub one_less : Bond → Bond
one_less Unbound = Unbound
one_less (Runs points) = Runs (points - 1)
one_less (Ended points) = Ended (points - 1)

-- what is bound, and the registrations where synchronisation is active
pub record Standing : Type 0 where
  pub bond : Bond
  pub syncs : Option (List Registration)

abbrev pub nothing : Standing
nothing = record { bond = Unbound; syncs = None }

abbrev pub standing_of : Carried → Standing
standing_of carried = record { bond = bond_of carried.tx; syncs = (context_of carried).syncs }

-- ---- what a scope has, and what stands below it

-- a savepoint is there until it is released
abbrev pub releases : List Action → Bool
releases [] = false
releases (Action.ReleasePoint ∷ rest) = true
releases (_ ∷ rest) = releases rest

-- registrations are there until the last round
abbrev pub ends_syncs : List Action → Bool
ends_syncs [] = false
ends_syncs (Action.RoundAfterCompletion committed ∷ rest) = true
ends_syncs (_ ∷ rest) = ends_syncs rest

abbrev pub is_point : Kind → Bool
is_point Kind.Point = true
is_point _ = false

-- without the scope's own savepoint, and without the registrations that it owns
abbrev pub without_own : Bool → Bool → Standing → Standing
without_own pointed owns standing =
    record {
      bond = elim pointed [ true ↦ one_less standing.bond | false ↦ standing.bond ];
      syncs = elim owns [ true ↦ None | false ↦ standing.syncs ];
    }

-- what was suspended, if anything was
abbrev pub standing_under : Option Carried → Standing → Standing
standing_under (Some older) own = standing_of older
standing_under None own = own

-- below a scope whose body runs
abbrev pub below_scope : OpenScope → Standing → Standing
below_scope scope standing = standing_under scope.suspended (without_own (is_point scope.kind) scope.owns standing)

abbrev pub below_call : Option Interception → Standing → Standing
below_call (Some i) standing = below_scope i.scope standing
below_call None standing = standing

-- below one that completes, with these actions left
abbrev pub below_rest : OpenScope → List Action → Standing → Standing
below_rest scope rest standing = standing_under scope.suspended (without_own (releases rest) (scope.owns && ends_syncs rest) standing)

-- below one of which a round is made
abbrev pub ends_after : Round → List Action → Bool
ends_after Round.AfterCompletion rest = true
ends_after round rest = ends_syncs rest

abbrev pub below_round : OpenScope → Course → Standing → Standing
below_round scope course standing =
    standing_under scope.suspended (without_own (releases course.rest.now) (scope.owns && ends_after course.round course.rest.now) standing)

abbrev pub below_phase : OpenScope → Phase → Standing → Standing
below_phase scope (Phase.Round course) standing = below_round scope course standing
below_phase scope phase standing = standing

-- synchronisation is active only where the scope owns it
abbrev pub active_if : Bool → Option (List Registration) → Bool
active_if owns syncs = owns || not (is_some syncs)

-- until its last round a scope that completes owns its registrations
abbrev pub owns_in : OpenScope → Phase → Bool
owns_in scope (Phase.Completing rest x) = scope.owns && ends_syncs rest.now
owns_in scope phase = scope.owns

-- what a body that runs has: a fresh scope its own transaction and what it suspended, a nested one its savepoint, a joined
-- one nothing of its own
abbrev pub has_own_of : Kind → Bool → Bool → Standing → Bool
has_own_of Kind.Fresh owns older standing = runs standing.bond && (older && active_if owns standing.syncs)
has_own_of Kind.Join owns older standing = not older && not owns
has_own_of Kind.Point owns older standing = has_point standing.bond && (not older && not owns)
has_own_of Kind.Empty owns older standing = not older || (is_unbound standing.bond && active_if owns standing.syncs)

abbrev pub has_own : OpenScope → Standing → Bool
has_own scope standing = has_own_of scope.kind scope.owns (is_some scope.suspended) standing

-- ---- what is due

abbrev pub is_resumption : List Action → Bool
is_resumption (Action.Resumption ∷ []) = true
is_resumption _ = false

abbrev pub is_last : List Action → Bool
is_last [] = true
is_last _ = false

-- these actions may be left of a scope that owns synchronisation or not, where something is suspended or not, this is
-- bound, and synchronisation is active or not
abbrev pub is_due : Bool → Bool → Bond → Bool → List Action → Bool
is_due owns older bond active [] = not older
is_due owns older bond active (Action.RoundBeforeCompletion ∷ rest) = (ends_syncs rest || not owns) && is_due owns older bond active rest
is_due owns older bond active (Action.RoundAfterCommit ∷ rest) = (ends_syncs rest || not owns) && is_due owns older bond active rest
is_due owns older bond active (Action.RoundAfterCompletion committed ∷ rest) = is_due owns older bond (active && not owns) rest
is_due owns older bond active (Action.CommitStore ∷ rest) = runs bond && (older && is_due owns older (Ended 0) active rest)
is_due owns older bond active (Action.RollbackStore ∷ rest) = runs bond && (older && is_due owns older (Ended 0) active rest)
is_due owns older bond active (Action.BackToPoint ∷ rest) = has_point bond && (not older && is_due owns older bond active rest)
is_due owns older bond active (Action.ReleasePoint ∷ rest) =
    has_point bond && (not older && (not (releases rest) && is_due owns older (one_less bond) active rest))
is_due owns older bond active (Action.MarkGlobally ∷ rest) = is_due owns older bond active rest
is_due owns older bond active (Action.ThrowUnexpected ∷ rest) = is_due owns older bond active rest
is_due owns older bond active (Action.GiveBack ∷ rest) = has_ended bond && (older && (not active && is_resumption rest))
is_due owns older bond active (Action.Resumption ∷ rest) = is_last rest && (not older || (is_unbound bond && not active))

-- these actions are due in a scope, where this is carried
abbrev pub due_in : OpenScope → Standing → List Action → Bool
due_in scope standing rest = is_due scope.owns (is_some scope.suspended) standing.bond (is_some standing.syncs) rest

-- while a round is made these actions are due after it: after that of before_commit also those of a rollback
abbrev pub due_told : Round → OpenScope → Standing → List Action → Bool
due_told Round.BeforeCommit scope standing rest =
    due_in scope standing rest && (due_in scope standing (completion_refused scope.kind) && (not (releases rest) && ends_syncs rest))
due_told Round.AfterCompletion scope standing rest = not (is_some standing.syncs) && due_in scope standing rest
due_told round scope standing rest = due_in scope standing rest

-- and before a round is made, the last of which takes the registrations out
abbrev pub due_after : Round → OpenScope → Standing → List Action → Bool
due_after Round.AfterCompletion scope standing rest = is_due scope.owns (is_some scope.suspended) standing.bond (is_some standing.syncs && not scope.owns) rest
due_after round scope standing rest = due_told round scope standing rest

-- an empty scope has no mark that it didn't set
abbrev pub may_end : Kind → Ending → Bool
may_end Kind.Empty Ending.Unexpected = false
may_end kind ending = true

-- ---- calls under way

-- a method that there is, of a rank below this, and what its call catches
pub record IsCall (S : Scenario) (k : ℕ) (m : MethodNo) (catch : Option ClassNo) : Type 0 where
  pub method : m.0 < length S.methods
  pub class : IsClass S catch
  pub low : rank S m < k

-- what is registered for a scope that owns it calls only methods of a rank below that of the scope's method
abbrev pub Shelters : Scenario → MethodNo → Bool → Option (List Registration) → Type 0
Shelters S m true syncs = RegisteredBelow S (rank S m) (registered syncs)
Shelters S m false syncs = ⊤

-- an intercepted call of the method, whose scope owns what is registered or not
pub record IsIntercepted (S : Scenario) (m : MethodNo) (owns : Bool) (syncs : Option (List Registration)) : Type 0 where
  pub attribute : IsSome (attribute S m)
  pub shelters : Shelters S m owns syncs

-- a phase in which the call's body runs
abbrev pub RunsIn : Standing → Interception → Phase → Type 0
RunsIn standing i Phase.Running = IsTrue (has_own i.scope standing) × (i.scope.local_mark ≡ false)
RunsIn standing i _ = ⊥

-- one in which it waits for its transaction
abbrev pub OpensIn : Interception → Phase → Type 0
OpensIn i Phase.Opening = (i.scope.kind ≡ Kind.Fresh) × IsSome i.scope.suspended × (i.scope.local_mark ≡ false)
OpensIn i _ = ⊥

-- one in which it waits for its savepoint
abbrev pub PointsIn : Interception → Phase → Type 0
PointsIn i Phase.Opening = i.scope ≡ new_scope Kind.Point false None
PointsIn i _ = ⊥

-- one in which it completes
abbrev pub CompletesIn : Scenario → Standing → Interception → Phase → Type 0
CompletesIn S standing i (Phase.Completing rest x) = IsTrue (due_in i.scope standing rest.now) × IsClass S x
CompletesIn S standing i _ = ⊥

-- one in which what it suspended is carried again: it was refused, or it has completed
abbrev pub ResumesIn : Scenario → Interception → Phase → Type 0
ResumesIn S i Phase.Opening = i.scope.suspended ≡ None
ResumesIn S i (Phase.Completing rest x) = (rest.now ≡ []) × (i.scope.suspended ≡ None) × IsClass S x
ResumesIn S i _ = ⊥

-- one in which a round of its callbacks is made
abbrev pub RoundsIn : Scenario → Standing → Interception → Phase → Type 0
RoundsIn S standing i (Phase.Round course) = IsTrue (due_told course.round i.scope standing course.rest.now) × IsClass S course.thrown
RoundsIn S standing i _ = ⊥

-- one in which a round begins
abbrev pub BeginsRound : Scenario → Standing → Interception → Phase → Type 0
BeginsRound S standing i (Phase.Round course) = IsTrue (due_after course.round i.scope standing course.rest.now) × IsClass S course.thrown
BeginsRound S standing i _ = ⊥

abbrev pub ScopeRuns : Scenario → Standing → MethodNo → Option Interception → Type 0
ScopeRuns S standing m None = ⊤
ScopeRuns S standing m (Some i) = IsIntercepted S m i.scope.owns standing.syncs × RunsIn standing i i.phase

-- the callbacks of a round: of those that were registered, and so many of them were told
pub record IsPartTold (S : Scenario) (m : MethodNo) (todo : List Registered) (at : ℕ) : Type 0 where
  pub below : RegisteredBelow S (rank S m) (map registration todo)
  pub few : length todo < 2 ^ 32
  pub within : at ≤ length todo

-- what is done with listeners calls only methods of a rank below this
abbrev pub DeedsBelow : Scenario → ℕ → List Deed → Type 0
DeedsBelow S k ds = AllByRecursion (DeedBelow S k) ds

-- the innermost is a method's body: it alone publishes
abbrev pub IsBody : List Call → Type 0
IsBody (Frame.Body m place catch scope ∷ fs) = ⊤
IsBody _ = ⊥

-- calls whose bodies, rounds or listeners run, the innermost first
abbrev pub CallsRun : Scenario → Standing → List Call → Type 0
CallsRun S standing [] = standing ≡ nothing
CallsRun S standing (Frame.Body m place catch scope ∷ fs) =
    IsCall S (caller_rank S fs) m catch × ScopeRuns S standing m scope × CallsRun S (below_call scope standing) fs
CallsRun S standing (Frame.Round round todo at place x ∷ Frame.Body m statement catch (Some i) ∷ fs) =
    IsCall S (caller_rank S fs) m catch × IsIntercepted S m (owns_in i.scope i.phase) standing.syncs × RoundsIn S standing i i.phase × IsPartTold S m todo at
    × CallsRun S (below_phase i.scope i.phase standing) fs
CallsRun S standing (Frame.Now listener place ∷ fs) =
    ListenerBelow S (caller_rank S fs) listener × DeedsBelow S (caller_rank S fs) (later_deeds S (publication_of S listener)) × IsBody fs × CallsRun S standing fs
CallsRun S standing _ = ⊥

-- the innermost call waits for its transaction
abbrev pub CallOpens : Scenario → List Call → Type 0
CallOpens S =
    Innermost (λ m place catch i fs.
    IsCall S (caller_rank S fs) m catch × (place ≡ 0) × IsSome (attribute S m) × OpensIn i i.phase × CallsRun S (standing_under i.scope.suspended nothing) fs)

-- or for its savepoint
abbrev pub CallPoints : Scenario → Standing → List Call → Type 0
CallPoints S standing =
    Innermost (λ m place catch i fs.
    IsCall S (caller_rank S fs) m catch × (place ≡ 0) × IsSome (attribute S m) × PointsIn i i.phase × IsTrue (not (is_unbound standing.bond)) × CallsRun S standing fs)

-- the innermost call completes
abbrev pub CallCompletes : Scenario → Standing → List Call → Type 0
CallCompletes S standing =
    Innermost (λ m place catch i fs.
    IsCall S (caller_rank S fs) m catch × IsIntercepted S m (owns_in i.scope i.phase) standing.syncs × CompletesIn S standing i i.phase
    × CallsRun S (below_rest i.scope (rest_of i.phase) standing) fs)

-- a round of the innermost call begins
abbrev pub CallRounds : Scenario → Standing → List Call → Type 0
CallRounds S standing =
    Innermost (λ m place catch i fs.
    IsCall S (caller_rank S fs) m catch × IsIntercepted S m (owns_in i.scope i.phase) standing.syncs × IsTrue i.scope.owns × BeginsRound S standing i i.phase
    × CallsRun S (below_phase i.scope i.phase standing) fs)

-- what was suspended for the innermost call is carried again
abbrev pub CallResumes : Scenario → Standing → List Call → Type 0
CallResumes S standing =
    Innermost (λ m place catch i fs. IsCall S (caller_rank S fs) m catch × IsSome (attribute S m) × ResumesIn S i i.phase × CallsRun S standing fs)

-- after the connection is given back, what was suspended is resumed
abbrev pub GivesLast : List Call → Type 0
GivesLast = Innermost (λ m place catch i fs. IsTrue (is_resumption (rest_of i.phase)) × IsSome i.scope.suspended)

-- ---- the whole

-- what a stage may rely on of the calls under way and of what is carried
abbrev pub StageFits : Scenario → Stage → Carried → List Call → Type 0
StageFits S (Stage.Over x) carried fs = IsClass S x × CallsRun S (standing_of carried) fs
StageFits S (Stage.Opening m catch) carried fs = IsCall S (caller_rank S fs) m catch × IsSome (attribute S m) × CallsRun S (standing_of carried) fs
StageFits S (Stage.Returning c x) carried fs = IsClass S x × CallsRun S (standing_of carried) fs
StageFits S (Stage.Connecting a d) carried fs = CallsRun S (standing_of carried) fs
StageFits S (Stage.Accessing place a d) carried fs = CallsRun S (standing_of carried) fs
StageFits S (Stage.Dealing publication) carried fs = DeedsBelow S (caller_rank S fs) (later_deeds S publication) × IsBody fs × CallsRun S (standing_of carried) fs
StageFits S Stage.Taking carried fs = (carried ≡ bare) × CallOpens S fs
StageFits S (Stage.Beginning c) carried fs = (carried ≡ bare) × CallOpens S fs
StageFits S (Stage.Pointing t) carried fs = CallPoints S (standing_of carried) fs
StageFits S Stage.Completing carried fs = CallCompletes S (standing_of carried) fs
StageFits S Stage.Rounding carried fs = CallRounds S (standing_of carried) fs
StageFits S Stage.Resuming carried fs = CallResumes S (standing_of carried) fs
StageFits S (Stage.Committing t) carried fs = CallCompletes S (standing_of carried) fs
StageFits S (Stage.RollingBack t) carried fs = CallCompletes S (standing_of carried) fs
StageFits S (Stage.GoingBack t) carried fs = CallCompletes S (standing_of carried) fs
StageFits S (Stage.Releasing t) carried fs = CallCompletes S (standing_of carried) fs
StageFits S (Stage.GivingBack bound) carried fs = CallCompletes S (standing_of carried) fs × GivesLast fs
StageFits S Stage.Done carried fs = ⊤
StageFits S Stage.Failed carried fs = ⊥

-- the call under way is one of a client's
abbrev pub IsEarly : Stage → ℕ → Type 0
IsEarly Stage.Done top = ⊤
IsEarly Stage.Failed top = ⊤
IsEarly _ top = top < most_calls

-- a machine, with what the client holds
pub record IsSound (S : Scenario) (m : Machine) (tokens : Tokens) : Type 0 where
  pub stage : StageFits S m.stage m.context (stack m.frames)
  pub top : IsEarly m.stage m.top
  pub holds : m.tokens ≡ tokens

-- while a piece of the innermost call is done: its stage is still to come
pub record IsWithin (S : Scenario) (m : Machine) (tokens : Tokens) : Type 0 where
  pub calls : CallsRun S (standing_of m.context) (stack m.frames)
  pub top : m.top < most_calls
  pub holds : m.tokens ≡ tokens

-- a piece leaves a sound machine
abbrev pub Leaves : Scenario → Machine → Tokens → Machine → Type 0
Leaves S before tokens after = IsWithin S before tokens → IsSound S after (held after.stage)

-- the same where the innermost call was taken off, below which this stands
pub record IsApart (S : Scenario) (m : Machine) (below : Standing) : Type 0 where
  pub calls : CallsRun S below (stack m.frames)
  pub top : m.top < most_calls
  pub holds : m.tokens ≡ no_tokens

-- the rank below which the innermost call of a machine calls
abbrev pub rank_at : Scenario → Machine → ℕ
rank_at S m = caller_rank S (stack m.frames)

-- a scope that was just opened has what it needs
pub record IsOpen (S : Scenario) (m : MethodNo) (scope : OpenScope) (standing : Standing) : Type 0 where
  pub attribute : IsSome (attribute S m)
  pub unmarked : scope.local_mark ≡ false
  pub own : IsTrue (has_own scope standing)
  pub shelters : Shelters S m scope.owns standing.syncs

-- the call, of a rank below this, is one whose body runs, where this is carried
pub record IsEnding (S : Scenario) (k : ℕ) (c : Intercepted) (standing : Standing) : Type 0 where
  pub call : IsCall S k c.method c.catch
  pub intercepted : IsIntercepted S c.method c.interception.scope.owns standing.syncs
  pub own : IsTrue (has_own c.interception.scope standing)
  pub unmarked : c.interception.scope.local_mark ≡ false

-- it ends so, and leaves with this exception or with none
pub record IsEndingSo (S : Scenario) (k : ℕ) (c : Intercepted) (standing : Standing) (e : Ending) (x : Option ClassNo) : Type 0 where
  pub call : IsCall S k c.method c.catch
  pub intercepted : IsIntercepted S c.method c.interception.scope.owns standing.syncs
  pub own : IsTrue (has_own c.interception.scope standing)
  pub class : IsClass S x
  pub possible : IsTrue (may_end c.interception.scope.kind e)

-- it is one that completes, with these actions left and this exception so far
pub record IsCompleting (S : Scenario) (k : ℕ) (c : Intercepted) (standing : Standing) (rest : List Action) (x : Option ClassNo) : Type 0 where
  pub call : IsCall S k c.method c.catch
  pub intercepted : IsIntercepted S c.method (c.interception.scope.owns && ends_syncs rest) standing.syncs
  pub due : IsTrue (due_in c.interception.scope standing rest)
  pub class : IsClass S x

-- it is one of which a round is to begin, and what comes after it
pub record IsAtRound (S : Scenario) (k : ℕ) (c : Intercepted) (standing : Standing) (course : Course) : Type 0 where
  pub call : IsCall S k c.method c.catch
  pub intercepted : IsIntercepted S c.method c.interception.scope.owns standing.syncs
  pub due : IsTrue (due_after course.round c.interception.scope standing course.rest.now)
  pub class : IsClass S course.thrown
