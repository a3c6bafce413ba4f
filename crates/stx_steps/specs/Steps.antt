-- What a small step is of, and what a note does: what it tells, rounds and publications that were taken off, statements, replies.
use Rattle.std.specs.Prelude.{Bool, IsSome, IsTrue, List, None, Option, Some, [], false, length, slice_get, true, unwrap_or, ℕ, ⊤, ◌++◌, ◌+◌, ◌<◌, ◌∷◌, ◌≡◌, ◌≤◌}
use Rattle.std.specs.Option.{option_map}
use Rattle.stx_scenario.specs.declared.numbers.ClassNo.{ClassNo}
use Rattle.stx_scenario.specs.declared.numbers.ListenerNo.{ListenerNo}
use Rattle.stx_scenario.specs.declared.numbers.MethodNo.{MethodNo}
use Rattle.stx_scenario.specs.declared.scenario.Listener.{Listener}
use Rattle.stx_scenario.specs.declared.scenario.Scenario.{Scenario}
use Rattle.stx_scenario.specs.declared.scenario.Stmt.{Stmt}
use Rattle.stx_base.specs.declared.history.PoolNote.{PoolNote}
use Rattle.stx_base.specs.declared.history.StoreNote.{StoreNote}
use Rattle.stx_base.specs.declared.line.Line.{Line}
use Rattle.stx_base.specs.declared.line.Label.{Label}
use Rattle.stx_base.specs.declared.manager.Round.{Round}
use Rattle.stx_base.specs.declared.history.Note.{Note}
use Rattle.stx_base.specs.declared.manager.Kind.{Kind}
use Rattle.stx_base.specs.Notes.{is_answer, pool_line, store_line}
use Rattle.stx_base.specs.Attributes.{attribute}
use Rattle.stx_base.specs.Weight.{rank}
use Rattle.stx_model.specs.Contexts.{bare}
use Rattle.stx_model.specs.Below.{SyncBelow}
use Rattle.stx_model.specs.Listeners.{Deed, deeds, runs_in}
use Rattle.stx_model.specs.Meanings.{Breaks, Meaning, Result, State, finally, say, with_context}
use Rattle.stx_model.specs.Playable.{IsPlayable}
use Rattle.stx_model.specs.Rounds.{callback_line}
use Rattle.stx_model.specs.Scopes.{fresh_context, in_scope}
use Rattle.stx_model.specs.Script.{body}
use Rattle.stx_model.specs.Statements.{caught}
use Rattle.stx_context.specs.Carrying as carrying
use Rattle.stx_context.specs.Carrying.{context_of}
use Rattle.stx_frames.specs.declared.frame.Frame.{Frame}
use Rattle.stx_sync.specs.declared.registered.Registered.{Registered}
use Rattle.stx_machine.specs.declared.completion.Intercepted.{Intercepted}
use Rattle.stx_machine.specs.declared.interception.Course.{Course}
use Rattle.stx_machine.specs.declared.interception.Interception.{Interception}
use Rattle.stx_machine.specs.declared.interception.Phase.{Phase}
use Rattle.stx_machine.specs.declared.machine.Machine.{Machine}
use Rattle.stx_machine.specs.declared.stage.Stage.{Stage}
use Rattle.stx_base.specs.Limits.{most_calls}
use Rattle.stx_machine.specs.declared.tokens.Tokens.{Tokens}
use Rattle.stx_steps.specs.declared.rounds.Telling.{Telling}
use Rattle.stx_machine.specs.Machine.{inside, attribute_of, statements, pointed, begun, Call, stack, after_round, tells, untold, course_after, later_deeds, state_before, run, want_of, IsClass, put_back, IsIntercepting}
use Rattle.stx_machine.specs.Sound.{no_tokens, Standing, standing_of, due_told, IsCall, IsIntercepted, IsPartTold, DeedsBelow, CallCompletes, IsApart, IsSound, below_round, brought, held, held_out, rank_at}

-- ---- what a small step deals with

-- the next of these deeds
abbrev pub first_deed : List Deed → Option Deed
first_deed [] = None
first_deed (d ∷ ds) = Some d

-- what the step at a stage does with a listener
abbrev pub deed_by : Scenario → Stage → Option Deed
deed_by S (Stage.Dealing publication) = first_deed (later_deeds S publication)
deed_by S _ = None

-- where a scope is to be opened, the method has an attribute
abbrev pub CanPrepare : Scenario → Stage → Type 0
CanPrepare S (Stage.Opening m catch) = IsSome (attribute S m)
CanPrepare S _ = ⊤

-- a sound machine of a client that a playable scenario has
pub record IsSoundClient (S : Scenario) (n : ℕ) (m : Machine) : Type 0 where
  pub playable : IsPlayable S
  pub client : n < length S.clients
  pub sound : IsSound S m (held m.stage)

-- ---- rounds

-- whether a listener runs in a round
abbrev pub listener_runs : Round → Bool → Option Listener → Bool
listener_runs round committed (Some listener) = runs_in listener.phase round committed
listener_runs round committed None = false

abbrev pub runs_on : Scenario → ListenerNo → Round → Bool → Bool
runs_on S l round committed = listener_runs round committed (slice_get S.listeners l.0)

-- the lines with which a registration's callback begins
abbrev pub begins_callback : Scenario → Round → Bool → Label → State → State
begins_callback S round committed (Label.Sync s) st = say (callback_line round committed (Label.Sync s)) st
begins_callback S round committed (Label.Listener l) st =
    elim (runs_on S l round committed) [
      | true ↦ say (Line.Listen l) (say (callback_line round committed (Label.Listener l)) st)
      | false ↦ say (callback_line round committed (Label.Listener l)) st
    ]

-- they were said
pub record SaysCallback (S : Scenario) (round : Round) (committed : Bool) (label : Label) (before after : Machine) : Type 0 where
  pub state : (pool : List PoolNote) (store : List StoreNote) → begins_callback S round committed label (state_before before pool store) ≡ state_before after pool store
  pub rest : after ≡ record before { lines = after.lines }
  pub room : before.lines.spare ≤ after.lines.spare + 2
  pub longer : length before.lines.items < length after.lines.items

-- the innermost call is at a round
abbrev pub IsInRoundPhase : Phase → Type 0
IsInRoundPhase (Phase.Round course) = ⊤
IsInRoundPhase _ = ⊥

abbrev pub IsRounding : List Call → Type 0
IsRounding (Frame.Body m place catch (Some i) ∷ fs) = IsInRoundPhase i.phase
IsRounding _ = ⊥

-- what a round that was taken off comes to after a piece of the callback under way
abbrev pub telling_after : Scenario → Telling → Result → Result
telling_after S t r =
    finally
    (finally (course_after S (inside S t.call.method) t.course t.todo t.at t.place r) (after_round S t.call.method t.call.interception t.course))
    (caught S t.call.catch)

-- what the registrations that are still to be told come to
abbrev pub tells_on : Scenario → Telling → Meaning
tells_on S t st =
    finally
    (finally (tells S (inside S t.call.method) t.course.round t.course.committed (untold t.todo t.at) st) (after_round S t.call.method t.call.interception t.course))
    (caught S t.call.catch)

-- a round's frame
abbrev pub round_frame : Telling → Call
round_frame t = Frame.Round t.course.round t.todo t.at t.place None

-- a round is on top of the call that it is part of, and both on top of those before
pub record IsToldOn (before : Machine) (t : Telling) (after : Machine) : Type 0 where
  pub frames : stack after.frames ≡ round_frame t ∷ put_back t.call (Phase.Round t.course) ∷ stack before.frames
  pub room : before.frames.spare ≡ after.frames.spare + 2
  pub rest : after ≡ record before { frames = after.frames }

-- a round of these registrations, of which so many were told, was taken off with the call that it is part of; of the last
-- one's callback so many statements were made
pub record TakesRound (before : Machine) (registrations : List Registered) (told made : ℕ) (t : Telling) (after : Machine) : Type 0 where
  pub call : stack before.frames ≡ put_back t.call (Phase.Round t.course) ∷ stack after.frames
  pub todo : t.todo ≡ registrations
  pub at : t.at ≡ told
  pub place : t.place ≡ made
  pub room : after.frames.spare ≡ before.frames.spare + 1
  pub rest : after ≡ record before { frames = after.frames }

-- a call that was taken off is one of which a round is made, and what comes after it
pub record IsInRound (S : Scenario) (k : ℕ) (c : Intercepted) (standing : Standing) (course : Course) : Type 0 where
  pub call : IsCall S k c.method c.catch
  pub intercepted : IsIntercepted S c.method c.interception.scope.owns standing.syncs
  pub due : IsTrue (due_told course.round c.interception.scope standing course.rest.now)
  pub class : IsClass S course.thrown

-- a round that was taken off, with the call that it is part of
pub record IsTelling (S : Scenario) (k : ℕ) (t : Telling) (standing : Standing) : Type 0 where
  pub round : IsInRound S k t.call standing t.course
  pub told : IsPartTold S t.call.method t.todo t.at

-- it was taken off this machine
pub record IsTakenOff (S : Scenario) (m : Machine) (t : Telling) : Type 0 where
  pub telling : IsTelling S (rank_at S m) t (standing_of m.context)
  pub apart : IsApart S m (below_round t.call.interception.scope t.course (standing_of m.context))

-- ---- statements and callbacks

-- what a body of this method may do
abbrev pub MayMake : Scenario → MethodNo → Stmt → Type 0
MayMake S caller (Stmt.Call m catch) = IsCall S (rank S caller) m catch
MayMake S caller (Stmt.This m catch) = IsCall S (rank S caller) m catch
MayMake S caller (Stmt.Throw x) = x.0 < length S.classes
MayMake S caller (Stmt.Register sync) = SyncBelow S (rank S caller) sync
MayMake S caller (Stmt.Publish event) = (active live : Bool) → DeedsBelow S (rank S caller) (deeds S event active live)
MayMake S caller _ = ⊤

-- what a callback may do that calls only methods of a rank below this
abbrev pub MayCallBack : Scenario → ℕ → Stmt → Type 0
MayCallBack S k (Stmt.Call m catch) = IsCall S k m catch
MayCallBack S k (Stmt.This m catch) = ⊥
MayCallBack S k (Stmt.Throw x) = x.0 < length S.classes
MayCallBack S k Stmt.Mark = ⊥
MayCallBack S k (Stmt.Register sync) = ⊥
MayCallBack S k (Stmt.Publish event) = ⊥
MayCallBack S k _ = ⊤

-- the statement at the place, if nothing was thrown and there is one
abbrev pub IsNext : List Stmt → ℕ → Option ClassNo → Option Stmt → Type 0
IsNext body place thrown (Some s) = (thrown ≡ None) × (slice_get body place ≡ Some s)
IsNext body place thrown None = thrown ≡ None → slice_get body place ≡ None

-- where the innermost call waits for its transaction, nothing is carried
pub record IsOpening (m : Machine) (tokens : Tokens) : Type 0 where
  pub bare : m.context ≡ carrying.bare
  pub call : IsIntercepting (stack m.frames)
  pub top : m.top < most_calls
  pub holds : m.tokens ≡ tokens

-- where the innermost call completes
pub record IsEndingCall (S : Scenario) (m : Machine) : Type 0 where
  pub call : CallCompletes S (standing_of m.context) (stack m.frames)
  pub top : m.top < most_calls
  pub holds : m.tokens ≡ no_tokens

-- ---- notes

-- the note answers what the machine of a playable scenario wants, its line was said, and there is room for the step after it
pub record IsHeard (S : Scenario) (note : Note) (m : Machine) : Type 0 where
  pub playable : IsPlayable S
  pub sound : IsSound S m (brought note (held_out m.stage))
  pub answers : IsTrue (is_answer (want_of m.stage) note)
  pub lines : 3 ≤ m.lines.spare
  pub frames : 1 ≤ m.frames.spare

-- the machine before a line was said
abbrev pub before_line : Machine → List Line → Machine
before_line m lines = record m { lines = record (m.lines) { items = lines } }

-- a note of the pool whose line was said takes one machine to the other, whatever notes are still to come and whichever the
-- client is; likewise a note of the store
abbrev pub HearsPool : Scenario → PoolNote → Machine → Machine → Type 0
HearsPool S note before after =
    (n : ℕ) (lines : List Line) (pool : List PoolNote) (store : List StoreNote)
    → before.lines.items ≡ lines ++ pool_line note ∷ [] → run S n (before_line before lines) (note ∷ pool) store ≡ run S n after pool store

abbrev pub HearsStore : Scenario → StoreNote → Machine → Machine → Type 0
HearsStore S note before after =
    (n : ℕ) (lines : List Line) (pool : List PoolNote) (store : List StoreNote)
    → before.lines.items ≡ lines ++ store_line note ∷ [] → run S n (before_line before lines) pool (note ∷ store) ≡ run S n after pool store

-- a note takes one machine to the other
abbrev pub Hears : Scenario → Note → Machine → Machine → Type 0
Hears S (Note.Pool note) before after = (n : ℕ) (pool : List PoolNote) (store : List StoreNote) → run S n before (note ∷ pool) store ≡ run S n after pool store
Hears S (Note.Store note) before after = (n : ℕ) (pool : List PoolNote) (store : List StoreNote) → run S n before pool (note ∷ store) ≡ run S n after pool store

-- the innermost call, where its scope found no connection
abbrev pub finds_none : Scenario → List Call → Meaning
finds_none S (Frame.Body m place catch (Some i) ∷ fs) st = begun S m i None st
finds_none S _ st = Breaks st

-- something was suspended for the innermost call
abbrev pub HasSuspended : List Call → Type 0
HasSuspended (Frame.Body m place catch (Some i) ∷ fs) = IsSome i.scope.suspended
HasSuspended _ = ⊥

-- the innermost call, where its savepoint was made
abbrev pub starts_pointed : Scenario → List Call → Meaning
starts_pointed S (Frame.Body m place catch (Some i) ∷ fs) st = pointed S m st
starts_pointed S _ st = Breaks st

-- a fresh scope whose transaction just began
abbrev pub starts_on : Scenario → MethodNo → Interception → ℕ → ℕ → Meaning
starts_on S m i c t st =
    in_scope S (inside S m)
    (record { method = m; kind = Kind.Fresh; owns = i.scope.owns; older = Some (unwrap_or (option_map context_of i.scope.suspended) bare); outer = st.local })
    (attribute_of S m) (statements S m 0)
    (with_context (fresh_context c t (attribute_of S m).read_only i.scope.owns) st)

abbrev pub starts : Scenario → List Call → ℕ → ℕ → Meaning
starts S (Frame.Body m place catch (Some i) ∷ fs) c t st = starts_on S m i c t st
starts S _ c t st = Breaks st
