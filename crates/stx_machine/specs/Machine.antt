-- What is left of a client's script at each stage of its machine.
use Rattle.std.specs.Prelude.{◌≡◌, ℕ, zero, suc, ◌+◌, ◌*◌, ◌<◌, ◌==◌, length, map, slice_get, ⊤, ℤ, ◌+ℤ◌, Bool, true, false, List, [], ◌∷◌, ◌++◌, ◌≤◌, drop, reverse, Option, Some, None, IfSome, unwrap_or}
use Rattle.std.specs.Option.{option_map, option_map_or}
use Rattle.stx_scenario.specs.declared.numbers.ClassNo.{ClassNo}
use Rattle.stx_scenario.specs.declared.numbers.EventNo.{EventNo}
use Rattle.stx_scenario.specs.declared.numbers.ListenerNo.{ListenerNo}
use Rattle.stx_scenario.specs.declared.numbers.MethodNo.{MethodNo}
use Rattle.stx_scenario.specs.declared.classes.TheConstants.{CANNOT_CREATE_TRANSACTION_EXCEPTION, CANNOT_GET_JDBC_CONNECTION_EXCEPTION}
use Rattle.stx_scenario.specs.declared.scenario.Listener.{Listener}
use Rattle.stx_scenario.specs.declared.scenario.Scenario.{Scenario}
use Rattle.stx_scenario.specs.declared.scenario.Propagation.{Propagation}
use Rattle.stx_scenario.specs.declared.scenario.Rule.{Rule}
use Rattle.stx_scenario.specs.declared.scenario.Stmt.{Stmt}
use Rattle.stx_scenario.specs.declared.scenario.TxAttr.{TxAttr}
use Rattle.stx_scenario.specs.Rooms.{Room}
use Rattle.stx_base.specs.declared.call.Want.{Want}
use Rattle.stx_base.specs.declared.history.Access.{Access}
use Rattle.stx_base.specs.declared.history.Answer.{Answer}
use Rattle.stx_base.specs.declared.history.PoolNote.{PoolNote}
use Rattle.stx_base.specs.declared.history.StoreNote.{StoreNote}
use Rattle.stx_base.specs.declared.line.Line.{Line}
use Rattle.stx_base.specs.declared.line.Label.{Label}
use Rattle.stx_base.specs.declared.manager.Round.{Round}
use Rattle.stx_base.specs.declared.manager.Action.{Action}
use Rattle.stx_base.specs.declared.manager.Ending.{Ending}
use Rattle.stx_base.specs.declared.manager.Kind.{Kind}
use Rattle.stx_base.specs.declared.manager.Opening.{Opening}
use Rattle.stx_base.specs.Attributes.{attribute}
use Rattle.stx_base.specs.Weight.{body_of, rank}
use Rattle.stx_model.specs.Contexts.{Context, Live, Registration, bare, ordered, ordered_labels, registered, with_global_mark, without_syncs}
use Rattle.stx_model.specs.Ending.{completion_refused}
use Rattle.stx_model.specs.Below.{listener_body}
use Rattle.stx_model.specs.Listeners.{Deed, Register, RunNow, Skip, deeds, runs_in}
use Rattle.stx_model.specs.Meanings.{State, Result, Over, Stops, Breaks, Meaning, and_then, finally, say, with_context, ask, on_take}
use Rattle.stx_model.specs.Opening.{opening}
use Rattle.stx_model.specs.Rounds.{Calls, Proxied, callback, stopping_round, swallowing_round, swallows, sync_body}
use Rattle.stx_model.specs.Scopes.{Scope, leaves, acts, ends, begins, opens, in_scope, empty, later_or, live_in, older_if, ruled, say_each, say_unbind, started_syncs, suspend, suspended, within}
use Rattle.stx_model.specs.Scopes.{completes as completes_so, resume}
use Rattle.stx_model.specs.Script.{body, unscoped, invoked, calls_below, deals, tops, calls_of}
use Rattle.stx_model.specs.Statements.{RowAccess, register_listener, registers, throws, concludes, caught, is_value, unless_busy, access_row, nothing_more, needed, added, in_transaction, on_connection}
use Rattle.stx_context.specs.Carrying as carrying
use Rattle.stx_context.specs.Carrying.{Carried, context_of}
use Rattle.stx_manager.specs.Scopes.{OpenScope}
use Rattle.stx_sync.specs.declared.registered.Registered.{Registered}
use Rattle.stx_sync.specs.Registries.{registration}
use Rattle.stx_frames.specs.declared.frame.Frame.{Frame}
use Rattle.stx_machine.specs.declared.completion.Intercepted.{Intercepted}
use Rattle.stx_machine.specs.declared.interception.Course.{Course}
use Rattle.stx_machine.specs.declared.interception.Interception.{Interception}
use Rattle.stx_machine.specs.declared.interception.Phase.{Phase}
use Rattle.stx_machine.specs.declared.machine.Machine.{Machine}
use Rattle.stx_machine.specs.declared.stage.Bound.{Bound}
use Rattle.stx_machine.specs.declared.stage.Place.{Place}
use Rattle.stx_machine.specs.declared.stage.Publication.{Publication}
use Rattle.stx_machine.specs.declared.stage.Stage.{Stage}
use Rattle.stx_machine.specs.declared.stage.Then.{Then}

-- ---- what a stage wants

-- it is done at once
abbrev pub falls : Stage → Bool
falls (Stage.Over x) = true
falls (Stage.Opening m catch) = true
falls Stage.Completing = true
falls Stage.Rounding = true
falls Stage.Resuming = true
falls (Stage.Dealing publication) = true
falls _ = false

-- memory ran out
abbrev pub has_failed : Stage → Bool
has_failed Stage.Failed = true
has_failed _ = false

-- where an access is made
abbrev pub want_at : Place → Access → Want
want_at (Place.Transaction t) = Want.Access t
want_at (Place.Connection c) = Want.Auto

abbrev pub want_of : Stage → Want
want_of (Stage.Connecting a d) = Want.Take
want_of (Stage.Accessing place a d) = want_at place a
want_of (Stage.Returning c x) = Want.Give c
want_of Stage.Taking = Want.Take
want_of (Stage.Beginning c) = Want.Begin
want_of (Stage.Pointing t) = Want.Point t
want_of (Stage.Committing t) = Want.Commit t
want_of (Stage.RollingBack t) = Want.Rollback t
want_of (Stage.GoingBack t) = Want.BackTo t
want_of (Stage.Releasing t) = Want.Release t
want_of (Stage.GivingBack bound) = Want.Give bound.connection
want_of Stage.Done = Want.Done
want_of _ = Want.Failed

-- ---- statements on rows

abbrev pub row_access : Place → RowAccess
row_access (Place.Transaction t) = in_transaction t
row_access (Place.Connection c) = on_connection c

abbrev pub does : RowAccess → Then → Answer → Meaning
does at Then.Nothing = nothing_more at
does at (Then.Need n) = needed at n
does at (Then.Add k n) = added at k n

-- an access, and then what is done with its answer
abbrev pub accesses : Place → Access → Then → Meaning
accesses place a d = access_row (row_access place) a (does (row_access place) d)

-- the same on a connection that is taken first
abbrev pub connects : Access → Then → Option ℕ → Meaning
connects a d (Some c) st = accesses (Place.Connection c) a d st
connects a d None st = throws CANNOT_GET_JDBC_CONNECTION_EXCEPTION st

-- ---- calls

-- how methods are called inside a method
abbrev pub inside : Scenario → MethodNo → Calls
inside S m = calls_below S (rank S m)

-- an attribute by default: propagation required, not read-only, and no rules (Spring: the defaults of @Transactional)
abbrev pub default_attribute : TxAttr
default_attribute = record { propagation = Propagation.Required; read_only = false; rules = [] }

-- the attribute of a method that has one
unfoldable pub attribute_of : Scenario → MethodNo → TxAttr
attribute_of S m = unwrap_or (attribute S m) default_attribute

-- a method's statements from this place on
abbrev pub statements : Scenario → MethodNo → ℕ → Meaning
statements S m place = body S (inside S m) (drop place (body_of S m))

-- the opening of a call's scope, and all after it
abbrev pub opened : Scenario → MethodNo → Meaning
opened S m st = opens S (inside S m) m (attribute_of S m) (statements S m 0) (opening S.settings (attribute_of S m) st.context) st

-- a nested scope on the savepoint that was just made
abbrev pub pointed : Scenario → MethodNo → Meaning
pointed S m st = within S (inside S m) m Kind.Point (attribute_of S m) (statements S m 0) st

-- the begin of a fresh scope on the connection that was taken, if one was
abbrev pub begun : Scenario → MethodNo → Interception → Option ℕ → Meaning
begun S m i = begins S (inside S m) m (attribute_of S m) (statements S m 0) i.scope.owns (unwrap_or (option_map context_of i.scope.suspended) bare)

-- ---- frames, the innermost first

abbrev pub Call : Type 0
Call = Frame Interception

abbrev pub stack : Room Call → List Call
stack frames = reverse frames.items

-- the innermost call is an intercepted one, of which this holds
abbrev pub Innermost : (MethodNo → ℕ → Option ClassNo → Interception → List Call → Type 0) → List Call → Type 0
Innermost P (Frame.Body m place catch (Some i) ∷ fs) = P m place catch i fs
Innermost P _ = ⊥

-- the rank of the innermost method; a client is above all
abbrev pub caller_rank : Scenario → List Call → ℕ
caller_rank S [] = 65
caller_rank S (Frame.Body m place catch scope ∷ fs) = rank S m
caller_rank S (_ ∷ fs) = caller_rank S fs

-- the scope that an interception of this method stands for
abbrev pub scope_of : MethodNo → Interception → Scope
scope_of m i = record { method = m; kind = i.scope.kind; owns = i.scope.owns; older = option_map context_of i.scope.suspended; outer = i.outer }

abbrev pub rest_of : Phase → List Action
rest_of (Phase.Completing rest x) = rest.now
rest_of (Phase.Round course) = course.rest.now
rest_of _ = []

abbrev pub thrown_of : Phase → Option ClassNo
thrown_of (Phase.Completing rest x) = x
thrown_of (Phase.Round course) = course.thrown
thrown_of _ = None

-- the actions that are left of a completion
abbrev pub completes : Scenario → MethodNo → Interception → List Action → Meaning
completes S m i rest = acts S (inside S m) (scope_of m i) rest (thrown_of i.phase)

-- the actions after a round in which y was thrown, or nothing: a before_commit round that throws ends in a rollback
abbrev pub rest_after : Kind → Round → List Action → Option ClassNo → List Action
rest_after kind Round.BeforeCommit rest (Some y) = completion_refused kind
rest_after kind round rest y = rest

-- a completion after a round in which y was thrown, or nothing
abbrev pub after_round : Scenario → MethodNo → Interception → Course → Option ClassNo → Meaning
after_round S m i course y = acts S (inside S m) (scope_of m i) (rest_after i.scope.kind course.round course.rest.now y) (later_or y course.thrown)

-- a call after a piece of it that came to r. Before its scope is open, and while it completes, the piece is all of it
abbrev pub phase_after : Scenario → MethodNo → ℕ → Interception → Phase → Result → Result
phase_after S m place i Phase.Running r = finally (and_then r (statements S m place)) (ends S (inside S m) (scope_of m i) (attribute_of S m))
phase_after S m place i (Phase.Round course) r = finally r (after_round S m i course)
phase_after S m place i _ r = r

abbrev pub call_after : Scenario → MethodNo → ℕ → Option Interception → Result → Result
call_after S m place None r = finally (and_then r (statements S m place)) (leaves m)
call_after S m place (Some i) r = phase_after S m place i i.phase r

-- ---- rounds

-- the first exception ends the round
abbrev pub stops : Round → Bool
stops Round.BeforeCommit = true
stops Round.AfterCommit = true
stops _ = false

-- the status that a round's callbacks are told, where the last one tells this
abbrev pub status : Round → Bool → Bool
status Round.AfterCompletion committed = committed
status Round.BeforeCompletion committed = false
status _ committed = true

-- the callbacks of these registrations
abbrev pub tells : Scenario → Calls → Round → Bool → List Registration → Meaning
tells S calls Round.BeforeCommit committed rs st = stopping_round S calls Round.BeforeCommit rs st
tells S calls Round.BeforeCompletion committed rs st = swallowing_round S calls Round.BeforeCompletion false rs st
tells S calls Round.AfterCommit committed rs st = stopping_round S calls Round.AfterCommit rs st
tells S calls Round.AfterCompletion committed rs st = swallowing_round S calls Round.AfterCompletion committed rs st

-- the callbacks of these registrations, after a callback that came to r
abbrev pub told_after : Scenario → Calls → Round → Bool → List Registration → Result → Result
told_after S calls round committed later r =
    elim (stops round) [
      | true ↦ and_then r (tells S calls round committed later)
      | false ↦ finally r (λ x after. tells S calls round committed later (swallows x after))
    ]

-- a whole round; before the last one the registrations are taken out of the context
abbrev pub whole_round : Scenario → Calls → Round → Bool → Meaning
whole_round S calls Round.AfterCompletion committed st =
    tells S calls Round.AfterCompletion committed (ordered (registered st.context.syncs)) (with_context (without_syncs st.context) st)
whole_round S calls round committed st = tells S calls round committed (ordered (registered st.context.syncs)) st

-- what a listener does in a round, if its phase is of that round
abbrev pub listener_callback : Round → Bool → Option Listener → List Stmt
listener_callback round committed (Some listener) = elim (runs_in listener.phase round committed) [ true ↦ listener.body | false ↦ [] ]
listener_callback round committed None = []

-- the statements of a registration's callback
abbrev pub callback_of : Scenario → Round → Bool → Label → List Stmt
callback_of S round committed (Label.Sync s) = sync_body round (slice_get S.syncs s.0)
callback_of S round committed (Label.Listener l) = listener_callback round committed (slice_get S.listeners l.0)

-- the callback under way, where so many registrations were told: the last of them
abbrev pub last_told : Scenario → Course → List Registered → ℕ → List Stmt
last_told S course todo zero = []
last_told S course todo (suc n) =
    option_map_or (λ (r : Registered). callback_of S course.round (status course.round course.committed) r.label) (slice_get todo n) []

-- the registrations that are still to be told
abbrev pub untold : List Registered → ℕ → List Registration
untold todo at = map registration (drop at todo)

-- a round after a piece of the callback under way that came to r
abbrev pub course_after : Scenario → Calls → Course → List Registered → ℕ → ℕ → Result → Result
course_after S calls course todo at place r =
    told_after S calls course.round course.committed (untold todo at) (and_then r (callback S calls (drop place (last_told S course todo at))))

abbrev pub in_round : Scenario → Calls → List Registered → ℕ → ℕ → Phase → Result → Result
in_round S calls todo at place (Phase.Round course) r = course_after S calls course todo at place r
in_round S calls todo at place _ r = r

-- the call whose completion a round is part of stands below it
abbrev pub round_after : Scenario → List Registered → ℕ → ℕ → List Call → Result → Result
round_after S todo at place (Frame.Body m statement catch (Some i) ∷ fs) r = in_round S (inside S m) todo at place i.phase r
round_after S todo at place _ r = r

-- ---- publications

-- how the innermost method calls others
abbrev pub calls_at : Scenario → List Call → Calls
calls_at S fs = calls_below S (caller_rank S fs)

-- with which listener a deed is
abbrev pub listener_of : Deed → ListenerNo
listener_of (Register l) = l
listener_of (RunNow l) = l
listener_of (Skip l) = l

-- the deeds after that with this listener
abbrev pub later_than : ListenerNo → List Deed → List Deed
later_than l [] = []
later_than l (d ∷ ds) = elim (l.0 == (listener_of d).0) [ true ↦ ds | false ↦ later_than l ds ]

abbrev pub deeds_after : Option ListenerNo → List Deed → List Deed
deeds_after None ds = ds
deeds_after (Some l) ds = later_than l ds

-- what is left to do with the listeners of a publication, which registers them or not, after that with one of them
abbrev pub later_deeds : Scenario → Publication → List Deed
later_deeds S p = deeds_after p.after (deeds S p.event p.registers p.registers)

-- the event of a listener
abbrev pub event_of : Scenario → ListenerNo → EventNo
event_of S l = option_map_or (λ (x : Listener). x.event) (slice_get S.listeners l.0) (record { 0 = 0 })

-- the publication of a listener that runs at once
abbrev pub publication_of : Scenario → ListenerNo → Publication
publication_of S l = record { event = event_of S l; after = Some l; registers = false }

-- a publication of which this listener was just dealt with
abbrev pub dealt : Publication → ListenerNo → Publication
dealt p l = record { event = p.event; after = Some l; registers = p.registers }

-- a listener is registered, and the others are dealt with
abbrev pub registers_one : Scenario → Calls → Publication → ListenerNo → Meaning
registers_one S calls p l st = and_then (register_listener S l st) (deals S calls (later_deeds S (dealt p l)))

-- a listener that runs at once after a piece of its body that came to r, and those after it
abbrev pub now_after : Scenario → Calls → ListenerNo → ℕ → Result → Result
now_after S calls l place r =
    and_then (and_then r (callback S calls (drop place (listener_body (slice_get S.listeners l.0))))) (deals S calls (later_deeds S (publication_of S l)))

-- it begins
abbrev pub runs_one : Scenario → Calls → ListenerNo → Meaning
runs_one S calls l st = now_after S calls l 0 (Over None (say (Line.Listen l) st))

-- a body after a piece of it that came to r, and what its call catches
abbrev pub body_after : Scenario → MethodNo → ℕ → Option ClassNo → Option Interception → Result → Result
body_after S m place catch scope r = finally (call_after S m place scope r) (caught S catch)

-- a frame after a piece of it that came to r, on top of these
abbrev pub frame_after : Scenario → List Call → Call → Result → Result
frame_after S fs (Frame.Body m place catch scope) r = body_after S m place catch scope r
frame_after S fs (Frame.Round round todo at place x) r = round_after S todo at place fs r
frame_after S fs (Frame.Now listener place) r = now_after S (calls_at S fs) listener place r

-- the call under way after a piece of its innermost frame that came to r
unfoldable pub unwound : Scenario → List Call → Result → Result
unwound S [] r = r
unwound S (f ∷ fs) r = unwound S fs (frame_after S fs f r)

-- ---- stages

-- the context was resumed: its registrations are told
abbrev pub tells_resumed : State → State
tells_resumed st = say_each Line.Resume (ordered_labels st.context.syncs) st

-- after that the completion goes on, or the call is refused whose scope found no connection
abbrev pub resumes_call : Scenario → MethodNo → Interception → Phase → Meaning
resumes_call S m i Phase.Opening st =
    leaves m (Some CANNOT_CREATE_TRANSACTION_EXCEPTION) (say (Line.Throw CANNOT_CREATE_TRANSACTION_EXCEPTION) (tells_resumed st))
resumes_call S m i (Phase.Completing rest x) st = acts S (inside S m) (scope_of m i) rest.now x (tells_resumed st)
resumes_call S m i _ st = Breaks st

-- a round of the call begins
abbrev pub rounds_call : Scenario → MethodNo → Interception → Phase → Meaning
rounds_call S m i (Phase.Round course) st = whole_round S (inside S m) course.round course.committed st
rounds_call S m i _ st = Breaks st

abbrev pub of_call : Scenario → MethodNo → Interception → Stage → Meaning
of_call S m i Stage.Taking st = ask Want.Take (on_take (begun S m i)) st
of_call S m i (Stage.Beginning c) st = begun S m i (Some c) st
of_call S m i (Stage.Pointing t) st = ask (Want.Point t) (λ _. pointed S m) st
of_call S m i Stage.Completing st = completes S m i (rest_of i.phase) st
of_call S m i Stage.Rounding st = rounds_call S m i i.phase st
of_call S m i Stage.Resuming st = resumes_call S m i i.phase st
of_call S m i (Stage.Committing t) st = ask (Want.Commit t) (λ _. completes S m i (rest_of i.phase)) st
of_call S m i (Stage.RollingBack t) st = ask (Want.Rollback t) (λ _. completes S m i (rest_of i.phase)) st
of_call S m i (Stage.GoingBack t) st =
    ask (Want.BackTo t) (λ _ back. completes S m i (rest_of i.phase) (with_context (with_global_mark false back.context) back)) st
of_call S m i (Stage.Releasing t) st = ask (Want.Release t) (λ _. completes S m i (rest_of i.phase)) st
of_call S m i (Stage.GivingBack bound) st = ask (Want.Give bound.connection) (λ _. completes S m i (rest_of i.phase)) st
of_call S m i Stage.Done st = Stops Want.Done st
of_call S m i _ st = Breaks st

abbrev pub of_top : Scenario → List Call → Stage → Meaning
of_top S (Frame.Body m place catch (Some i) ∷ fs) stage st = of_call S m i stage st
of_top S _ Stage.Done st = Stops Want.Done st
of_top S _ _ st = Breaks st

-- the piece that is left of the innermost frame
abbrev pub piece : Scenario → List Call → Stage → Meaning
piece S fs (Stage.Over x) st = Over x st
piece S fs (Stage.Opening m catch) st = finally (opened S m st) (caught S catch)
piece S fs (Stage.Connecting a d) st = ask Want.Take (on_take (connects a d)) st
piece S fs (Stage.Accessing place a d) st = accesses place a d st
piece S fs (Stage.Returning c x) st = ask (Want.Give c) (λ _. concludes x) st
piece S fs (Stage.Dealing publication) st = deals S (calls_at S fs) (later_deeds S publication) st
piece S fs stage st = of_top S fs stage st

-- ---- a client

-- a bound connection with its transaction, while it is given back
abbrev pub live_of : Bound → Live
live_of bound = record { connection = bound.connection; transaction = bound.transaction; read_only = bound.read_only; mark = bound.mark }

-- a connection is bound until it was given back
abbrev pub context_at : Stage → Carried → Context
context_at (Stage.GivingBack bound) carried =
    record {
      tx = Some (live_of bound);
      syncs = option_map (λ r. r.list) carried.syncs;
    }
context_at _ carried = context_of carried

abbrev pub state_with : Machine → Context → List PoolNote → List StoreNote → State
state_with m context pool store = record { lines = m.lines.items; context = context; local = m.local; pool = pool; store = store }

-- before these notes
abbrev pub state_before : Machine → List PoolNote → List StoreNote → State
state_before m = state_with m (context_of m.context)

abbrev pub state_at : Machine → List PoolNote → List StoreNote → State
state_at m = state_with m (context_at m.stage m.context)

-- the client's calls after the one at this place
abbrev pub later_calls : Scenario → ℕ → ℕ → Result → Result
later_calls S n top r = finally r (λ _. tops S (top + 1) (drop (top + 1) (calls_of S n)))

-- and the calls from this place on
abbrev pub tops_from : Scenario → ℕ → ℕ → Meaning
tops_from S n top st = tops S top (drop top (calls_of S n)) st

-- the client after a piece of the innermost frame of this machine that came to r
abbrev pub onward : Scenario → ℕ → Machine → Result → Result
onward S n m r = later_calls S n m.top (unwound S (stack m.frames) r)

-- and after a call on top of these frames that came to r, of which its statement catches this
abbrev pub onward_caught : Scenario → ℕ → Machine → Option ClassNo → Result → Result
onward_caught S n m catch r = onward S n m (finally r (caught S catch))

-- what is left of the script of client n
abbrev pub run : Scenario → ℕ → Machine → List PoolNote → List StoreNote → Result
run S n m pool store = onward S n m (piece S (stack m.frames) m.stage (state_at m pool store))

-- ---- steps

-- where this piece of the innermost frame was left before, the machine after it is what is left of the script of client n,
-- whatever notes are still to come
abbrev pub ComesTo : Scenario → ℕ → Machine → Meaning → Machine → Type 0
ComesTo S n before meaning after =
    (pool : List PoolNote) (store : List StoreNote)
    → onward S n before (meaning (state_before before pool store)) ≡ run S n after pool store

-- whichever the client is
abbrev pub Comes : Scenario → Machine → Meaning → Machine → Type 0
Comes S before meaning after = (n : ℕ) → ComesTo S n before meaning after

-- what is left stays
abbrev pub Goes : Scenario → ℕ → Machine → Machine → Type 0
Goes S n before after = (pool : List PoolNote) (store : List StoreNote) → run S n before pool store ≡ run S n after pool store

-- ---- pieces of statements

-- the first access of a statement on a row, and what is done with its answer
abbrev pub access_in : Stmt → Option (Access × Then)
access_in (Stmt.Read k) = Some (Access.Read k, Then.Nothing)
access_in (Stmt.Write k v) = Some (Access.Write k v, Then.Nothing)
access_in (Stmt.Erase k) = Some (Access.Erase k, Then.Nothing)
access_in (Stmt.Need k n) = Some (Access.Read k, Then.Need n)
access_in (Stmt.Add k n) = Some (Access.Read k, Then.Add k n)
access_in _ = None

-- in the live transaction, if there is one, else on a connection of its own
abbrev pub row_in : Option Live → Access → Then → Meaning
row_in (Some live) a d st = accesses (Place.Transaction live.transaction) a d st
row_in None a d st = ask Want.Take (on_take (connects a d)) st

abbrev pub row_statement_of : Machine → Access → Then → Meaning
row_statement_of m a d = row_in (context_of m.context).tx a d

-- the end of a statement on a row
abbrev pub ends_access : Place → Option ClassNo → Meaning
ends_access place = (row_access place).ends

-- after the answer to an access
abbrev pub row_answered : Place → Then → Answer → Meaning
row_answered place d answer = unless_busy (row_access place) (does (row_access place) d) answer

-- the sum, if it is a value
abbrev pub sum_of : ℤ → ℤ → Option ℤ
sum_of v n = elim (is_value (v +ℤ n)) [ true ↦ Some (v +ℤ n) | false ↦ None ]

-- ---- pieces of calls

-- the class is one that there is
abbrev pub IsClass : Scenario → Option ClassNo → Type 0
IsClass S None = ⊤
IsClass S (Some x) = x.0 < length S.classes

-- a call through the proxy, and what its statement catches
abbrev pub called : Scenario → MethodNo → Option ClassNo → Meaning
called S m catch st = finally (invoked S (inside S m) Proxied m st) (caught S catch)

-- a call that opens no scope, and what its statement catches
abbrev pub entered : Scenario → Line → MethodNo → Option ClassNo → Meaning
entered S line m catch st = finally (unscoped S (inside S m) line m st) (caught S catch)

-- between two calls, this is what the machine after it leaves of the script of client n
abbrev pub GoesTo : Scenario → ℕ → Meaning → Machine → Machine → Type 0
GoesTo S n meaning before after =
    (pool : List PoolNote) (store : List StoreNote) → meaning (state_before before pool store) ≡ run S n after pool store

-- ---- what falls in each small step

-- a line was said
abbrev pub IsLonger : Machine → Machine → Type 0
IsLonger before after = length before.lines.items < length after.lines.items

-- how much of a completion is left: each action may have a round, and a round its last callback
abbrev pub left_round : Round → ℕ → ℕ
left_round Round.BeforeCommit n = 4 * n + 24
left_round round n = 4 * n

abbrev pub left_after : Course → ℕ
left_after course = left_round course.round (length course.rest.now)

abbrev pub left_in : Stage → Phase → ℕ
left_in Stage.Completing (Phase.Completing rest x) = 4 * length rest.now
left_in Stage.Resuming (Phase.Completing rest x) = 4 * length rest.now + 1
left_in Stage.Rounding (Phase.Round course) = left_after course + 2
left_in (Stage.Over x) (Phase.Round course) = left_after course + 1
left_in _ _ = 0

abbrev pub left_of : Stage → List Call → ℕ
left_of (Stage.Dealing publication) fs = 1
left_of (Stage.Over x) (Frame.Now listener place ∷ fs) = 2
left_of stage (Frame.Body m place catch (Some i) ∷ fs) = left_in stage i.phase
left_of stage (Frame.Round round todo at told x ∷ Frame.Body m place catch (Some i) ∷ fs) = left_in stage i.phase
left_of _ _ = 0

abbrev pub left : Machine → ℕ
left m = left_of m.stage (stack m.frames)

-- a step of what is done at once, before which so many actions were left: a line was said, or nothing is done at once any
-- more, or fewer actions are left
pub data Moves (n : ℕ) (before after : Machine) : Type 0 where
  Says : IsLonger before after → Moves n before after
  Waits : falls after.stage ≡ false → Moves n before after
  Shrinks : length before.lines.items ≡ length after.lines.items → left after < n → Moves n before after

-- however many actions were left
abbrev pub MovesOn : Machine → Machine → Type 0
MovesOn before after = (n : ℕ) → Moves n before after

-- ---- scopes

-- a scope that was just opened, with the local mark round it
abbrev pub script_scope : MethodNo → OpenScope → Option Bool → Scope
script_scope m scope outer = record { method = m; kind = scope.kind; owns = scope.owns; older = option_map context_of scope.suspended; outer = outer }

-- an open scope: its body, and then its end
abbrev pub started : Scenario → MethodNo → OpenScope → Meaning
started S m scope st = in_scope S (inside S m) (script_scope m scope st.local) (attribute_of S m) (statements S m 0) st

-- an intercepted call that was just put on top
abbrev pub new_call : MethodNo → Option ClassNo → OpenScope → Option Bool → Phase → Call
new_call m catch scope outer phase = Frame.Body m 0 catch (Some (record { scope = scope; outer = outer; phase = phase }))

-- these calls are on top of those before; nothing else changes
pub record IsPushed (before : Machine) (call : Call) (after : Machine) : Type 0 where
  pub frames : after.frames.items ≡ before.frames.items ++ call ∷ []
  pub room : before.frames.spare ≡ after.frames.spare + 1
  pub rest : after ≡ record before { frames = after.frames }

-- these are the registrations of the context by order
abbrev pub AreTold : List Registered → Context → Type 0
AreTold told context = map registration told ≡ ordered (registered context.syncs)

-- what was carried is suspended, and so many lines told it
pub record Suspends (told : ℕ) (before after : Machine) : Type 0 where
  pub state : (pool : List PoolNote) (store : List StoreNote) → suspend (state_before before pool store) ≡ state_before after pool store
  pub rest : after ≡ record before { context = carrying.bare; lines = after.lines }
  pub room : before.lines.spare ≤ after.lines.spare + told + 1
  pub longer : length before.lines.items ≤ length after.lines.items

-- that the bound connection is unbound was said, if one is bound
pub record SaysUnbind (before after : Machine) : Type 0 where
  pub state : (pool : List PoolNote) (store : List StoreNote) → say_unbind (context_of before.context).tx (state_before before pool store) ≡ state_before after pool store
  pub rest : after ≡ record before { lines = after.lines }
  pub room : before.lines.spare ≤ after.lines.spare + 1
  pub longer : length before.lines.items ≤ length after.lines.items

pub record SuspendsIf (suspends : Bool) (told : ℕ) (before after : Machine) : Type 0 where
  pub state : (pool : List PoolNote) (store : List StoreNote) → suspended suspends (state_before before pool store) ≡ state_before after pool store
  pub rest : after ≡ record before { context = after.context; lines = after.lines }
  pub room : before.lines.spare ≤ after.lines.spare + told + 1
  pub longer : length before.lines.items ≤ length after.lines.items

-- the line that tells a registration, which was resumed or is suspended
abbrev pub told_line : Bool → Label → Line
told_line true label = Line.Resume label
told_line false label = Line.Suspend label

-- what is carried, where it was suspended
abbrev pub held_if : Bool → Carried → Option Carried
held_if true carried = Some carried
held_if false carried = None

-- an owner of synchronisation starts it
abbrev pub with_syncs_started : Bool → Context → Context
with_syncs_started owns context = record { tx = context.tx; syncs = started_syncs owns context.syncs }

-- this is carried again, and its connection is bound; its registrations are still to be told
pub record Resumes (before : Machine) (older : Carried) (after : Machine) : Type 0 where
  pub state : (pool : List PoolNote) (store : List StoreNote) → resume (context_of older) (state_before before pool store) ≡ tells_resumed (state_before after pool store)
  pub rest : after ≡ record before { context = older; lines = after.lines }
  pub room : before.lines.spare ≤ after.lines.spare + 1
  pub longer : length before.lines.items ≤ length after.lines.items

-- the begin of a fresh scope, after the context that was there
abbrev pub fresh_begun : Scenario → MethodNo → Bool → Context → Option ℕ → Meaning
fresh_begun S m owns older = begins S (inside S m) m (attribute_of S m) (statements S m 0) owns older

-- a nested scope, from its savepoint on
abbrev pub point_opened : Scenario → MethodNo → Meaning
point_opened S m st = live_in st.context.tx (λ live. ask (Want.Point live.transaction) (λ _. pointed S m)) st

-- an empty scope
abbrev pub empty_opened : Scenario → MethodNo → Bool → Bool → Meaning
empty_opened S m suspends owns st = empty S (inside S m) m (attribute_of S m) (statements S m 0) owns (older_if suspends st.context) (suspended suspends st)

-- ---- what a small step tells

abbrev pub suspends : Opening → Bool
suspends (Opening.Fresh true owns) = true
suspends (Opening.Empty true owns) = true
suspends _ = false

-- all registrations are told where they are suspended, where a round begins, and where they are resumed
abbrev pub tells_all : Scenario → Stage → Context → Bool
tells_all S (Stage.Opening m catch) context = suspends (opening S.settings (attribute_of S m) context)
tells_all S Stage.Rounding context = true
tells_all S Stage.Resuming context = true
tells_all S _ context = false

-- the registrations that the step at a stage tells, by order
abbrev pub told_by : Scenario → Stage → Context → List Registration
told_by S stage context = elim (tells_all S stage context) [ true ↦ ordered (registered context.syncs) | false ↦ [] ]

-- there is room for one registration more, where synchronisation is active
abbrev pub HasRegistryRoom : Carried → Type 0
HasRegistryRoom carried = IfSome carried.syncs (λ r. 1 ≤ r.spare)

-- a registration was added, and its line said
pub record Registers (r : Registration) (before after : Machine) : Type 0 where
  pub state : (pool : List PoolNote) (store : List StoreNote) → registers r (context_of before.context).syncs (state_before before pool store) ≡ Over None (state_before after pool store)
  pub rest : after ≡ record before { context = after.context; lines = after.lines }
  pub longer : IsLonger before after

-- it is added or not: it isn't where no synchronisation is active, and nothing changes then
abbrev pub RegistersIf : Bool → Registration → Machine → Machine → Type 0
RegistersIf true r before after = Registers r before after
RegistersIf false r before after = (before.context.syncs ≡ None) × (after ≡ before)

-- ---- completion

-- an intercepted call that is put back on top in this phase
abbrev pub put_back : Intercepted → Phase → Call
put_back call phase = Frame.Body call.method call.place call.catch (Some (record { scope = call.interception.scope; outer = call.interception.outer; phase = phase }))

-- the call on top, as it was
abbrev pub on_top : Intercepted → Call
on_top call = Frame.Body call.method call.place call.catch (Some call.interception)

abbrev pub IsResuming : Phase → Type 0
IsResuming Phase.Opening = ⊤
IsResuming (Phase.Completing rest x) = ⊤
IsResuming _ = ⊥

-- the innermost call is an intercepted one
abbrev pub IsIntercepting : List Call → Type 0
IsIntercepting = Innermost (λ m place catch i fs. ⊤)

-- what these actions of a call's completion are to its caller
abbrev pub acts_of : Scenario → Intercepted → List Action → Option ClassNo → Meaning
acts_of S call rest x st = finally (acts S (inside S call.method) (scope_of call.method call.interception) rest x st) (caught S call.catch)

-- the round that an action is, with what it tells of the transaction
abbrev pub round_in : Action → Option (Round × Bool)
round_in Action.RoundBeforeCompletion = Some (Round.BeforeCompletion, false)
round_in Action.RoundAfterCommit = Some (Round.AfterCommit, true)
round_in (Action.RoundAfterCompletion committed) = Some (Round.AfterCompletion, committed)
round_in _ = None

-- what a round and the actions after it are to a call's caller, where the scope owns synchronisation; else only the actions
abbrev pub round_if : Scenario → Calls → Bool → Round → Bool → Meaning
round_if S calls owns round committed st = elim owns [ true ↦ whole_round S calls round committed st | false ↦ Over None st ]

abbrev pub rounds_of : Scenario → Intercepted → Course → Meaning
rounds_of S call course st =
    finally
    (finally (round_if S (inside S call.method) call.interception.scope.owns course.round course.committed st) (after_round S call.method call.interception course))
    (caught S call.catch)

-- the end of a call's scope, and all after it
abbrev pub ends_of : Scenario → Intercepted → Option ClassNo → Meaning
ends_of S call x st = finally (ends S (inside S call.method) (scope_of call.method call.interception) (attribute_of S call.method) x st) (caught S call.catch)

-- the completion of a call's scope that ends so
abbrev pub completes_of : Scenario → Intercepted → Ending → Option ClassNo → Meaning
completes_of S call e x st = finally (completes_so S (inside S call.method) (scope_of call.method call.interception) e x st) (caught S call.catch)

-- the innermost call is one for which what was suspended is carried again: it completes, or was refused
abbrev pub ResumesOn : List Call → Type 0
ResumesOn = Innermost (λ m place catch i fs. IsResuming i.phase)

-- the rules' line, where the body threw
pub record Rules (S : Scenario) (rules : List Rule) (x : Option ClassNo) (before after : Machine) : Type 0 where
  pub state : (pool : List PoolNote) (store : List StoreNote) → ruled S rules x (state_before before pool store) ≡ state_before after pool store
  pub rest : after ≡ record before { lines = after.lines }
  pub room : before.lines.spare ≤ after.lines.spare + 1
  pub longer : length before.lines.items ≤ length after.lines.items

-- the transaction that is bound has this number
abbrev pub HasTransaction : Option Live → ℕ → Type 0
HasTransaction (Some live) t = live.transaction ≡ t
HasTransaction None t = ⊥

-- no line was taken back
abbrev pub MovesLines : Machine → Machine → Type 0
MovesLines before after = length before.lines.items ≤ length after.lines.items
