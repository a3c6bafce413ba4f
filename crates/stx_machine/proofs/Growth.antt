-- What is left of a script begins with the lines that were said; and where a machine waits for a shared call, it stops there.
use Rattle.std.proofs.Common.{◌≡◌, ◌∙◌, ◌+◌, ◌∷◌, [], ℕ, Bool, false, List, Option, Some, None, refl, ap}
use Rattle.std.specs.Prelude.{drop, slice_get, unwrap_or}
use Rattle.std.specs.Option.{option_map}
use Rattle.stx_scenario.specs.declared.numbers.ClassNo.{ClassNo}
use Rattle.stx_scenario.specs.declared.numbers.MethodNo.{MethodNo}
use Rattle.stx_scenario.specs.declared.classes.TheConstants.{CANNOT_CREATE_TRANSACTION_EXCEPTION, CANNOT_GET_JDBC_CONNECTION_EXCEPTION}
use Rattle.stx_scenario.specs.declared.scenario.Scenario.{Scenario}
use Rattle.stx_base.specs.declared.call.Want.{Want}
use Rattle.stx_base.specs.declared.history.Access.{Access}
use Rattle.stx_base.specs.declared.history.Answer.{Answer}
use Rattle.stx_base.specs.declared.history.Note.{Note}
use Rattle.stx_base.specs.declared.history.PoolNote.{PoolNote}
use Rattle.stx_base.specs.declared.history.StoreNote.{StoreNote}
use Rattle.stx_base.specs.declared.line.Line.{Line}
use Rattle.stx_base.specs.declared.manager.Action.{Action}
use Rattle.stx_base.specs.declared.manager.Kind.{Kind}
use Rattle.stx_base.specs.declared.manager.Round.{Round}
use Rattle.stx_base.specs.Weight.{body_of, rank}
use Rattle.stx_model.specs.Contexts.{Context, Registration, bare, ordered, ordered_labels, registered, with_global_mark, without_syncs}
use Rattle.stx_model.specs.Meanings.{State, Stops, Meaning, state_of, and_then, finally, say, with_context, on_take, on_begin, on_access}
use Rattle.stx_model.specs.Opening.{opening}
use Rattle.stx_model.specs.Reads.{StartsWith}
use Rattle.stx_model.specs.Rounds.{Calls, callback, swallows}
use Rattle.stx_model.specs.Scopes.{acts, begins, ends, later_or, leaves, say_each}
use Rattle.stx_model.specs.Below.{listener_body}
use Rattle.stx_model.specs.Script.{calls_of, deals, tops}
use Rattle.stx_model.specs.Statements.{RowAccess, caught, concludes, unless_busy}
use Rattle.stx_model.proofs.Steady.{IsSteady, after_change, either_steady, say_steady, over_steady, breaks_steady, finally_steady, and_then_steady, ask_steady, on_take_steady, unasked}
use Rattle.stx_model.proofs.SteadyPieces.{AreSteady, in_fresh, throws_steady, concludes_steady, caught_steady, access_steady, needed_steady, added_steady, leaves_steady, acts_steady, ends_steady, begins_steady, opens_steady, body_steady, calls_below_steady, done_steady, tops_steady, callback_steady, deals_steady, stopping_steady, swallowing_steady, swallows_change, say_each_change, within_steady}
use Rattle.stx_context.specs.Carrying.{Carried, context_of}
use Rattle.stx_frames.specs.declared.frame.Frame.{Frame}
use Rattle.stx_sync.specs.declared.registered.Registered.{Registered}
use Rattle.stx_machine.specs.declared.interception.Course.{Course}
use Rattle.stx_machine.specs.declared.interception.Interception.{Interception}
use Rattle.stx_machine.specs.declared.interception.Phase.{Phase}
use Rattle.stx_machine.specs.declared.machine.Machine.{Machine}
use Rattle.stx_machine.specs.declared.stage.Place.{Place}
use Rattle.stx_machine.specs.declared.stage.Stage.{Stage}
use Rattle.stx_machine.specs.declared.stage.Then.{Then}
use Rattle.stx_machine.specs.declared.tokens.Tokens.{Tokens}
use Rattle.stx_machine.specs.Machine.{Call, Innermost, accesses, attribute_of, begun, after_round, call_after, caller_rank, calls_at, completes, connects, course_after, does, falls, frame_after, has_failed, in_round, inside, last_told, later_calls, later_deeds, of_call, of_top, opened, phase_after, piece, pointed, publication_of, rest_after, rest_of, unwound, resumes_call, round_after, rounds_call, row_access, run, scope_of, stack, state_at, statements, stops, tells, tells_resumed, thrown_of, told_after, untold, want_at, want_of, whole_round, onward}
use Rattle.stx_machine.specs.Sound.{IsSound, StageFits}
use Rattle.stx_machine.proofs.Stacks.{each_innermost}

-- ---- accesses

does_steady : (at : RowAccess) → ((x : Option ClassNo) → IsSteady (at.ends x)) → (d : Then) (r : Answer) → IsSteady (does at d r)
does_steady at ends Then.Nothing r = ends None
does_steady at ends (Then.Need n) r = needed_steady at ends n r
does_steady at ends (Then.Add k n) r = added_steady at ends k n r

ends_at_steady : (place : Place) (x : Option ClassNo) → IsSteady ((row_access place).ends x)
ends_at_steady (Place.Transaction t) x = concludes_steady x
ends_at_steady (Place.Connection c) x = ask_steady (Want.Give c) (λ _. concludes x) (λ n. concludes_steady x)

accesses_steady : (place : Place) (a : Access) (d : Then) → IsSteady (accesses place a d)
accesses_steady place a d =
    let at = row_access place in access_steady at (ends_at_steady place) a (does at d) (does_steady at (ends_at_steady place) d)

connects_steady : (a : Access) (d : Then) (c : Option ℕ) → IsSteady (connects a d c)
connects_steady a d (Some c) = accesses_steady (Place.Connection c) a d
connects_steady a d None = throws_steady CANNOT_GET_JDBC_CONNECTION_EXCEPTION

-- ---- calls

inside_steady : (S : Scenario) (m : MethodNo) → AreSteady (inside S m)
inside_steady S m = calls_below_steady S (rank S m)

statements_steady : (S : Scenario) (m : MethodNo) (place : ℕ) → IsSteady (statements S m place)
statements_steady S m place = body_steady S (inside S m) (inside_steady S m) (drop place (body_of S m))

opened_steady : (S : Scenario) (m : MethodNo) → IsSteady (opened S m)
opened_steady S m st =
    let a = attribute_of S m in
    opens_steady S (inside S m) (inside_steady S m) m a (statements S m 0) (statements_steady S m 0) (opening S.settings a st.context) st

begun_steady : (S : Scenario) (m : MethodNo) (i : Interception) (c : Option ℕ) → IsSteady (begun S m i c)
begun_steady S m i c =
    begins_steady S (inside S m) (inside_steady S m) m (attribute_of S m) (statements S m 0) (statements_steady S m 0) i.scope.owns
    (unwrap_or (option_map context_of i.scope.suspended) bare) c

completes_steady : (S : Scenario) (m : MethodNo) (i : Interception) (rest : List Action) → IsSteady (completes S m i rest)
completes_steady S m i rest = acts_steady S (inside S m) (inside_steady S m) (scope_of m i) rest (thrown_of i.phase)

after_round_steady : (S : Scenario) (m : MethodNo) (i : Interception) (course : Course) (y : Option ClassNo) → IsSteady (after_round S m i course y)
after_round_steady S m i course y =
    acts_steady S (inside S m) (inside_steady S m) (scope_of m i) (rest_after i.scope.kind course.round course.rest.now y) (later_or y course.thrown)

-- ---- rounds

module _ (S : Scenario) (calls : Calls) (steady : AreSteady calls) where
  tells_steady : (round : Round) (committed : Bool) (rs : List Registration) → IsSteady (tells S calls round committed rs)
  tells_steady Round.BeforeCommit committed rs = stopping_steady S calls steady Round.BeforeCommit rs
  tells_steady Round.BeforeCompletion committed rs = swallowing_steady S calls steady Round.BeforeCompletion false rs
  tells_steady Round.AfterCommit committed rs = stopping_steady S calls steady Round.AfterCommit rs
  tells_steady Round.AfterCompletion committed rs = swallowing_steady S calls steady Round.AfterCompletion committed rs

  told_steady : (round : Round) (committed : Bool) (later : List Registration) (first : Meaning) → IsSteady first
      → IsSteady (λ st. told_after S calls round committed later (first st))
  told_steady round committed later first begins =
      either_steady (stops round) (λ st. and_then (first st) (tells S calls round committed later))
      (λ st. finally (first st) (λ x after. tells S calls round committed later (swallows x after)))
      (and_then_steady first (tells S calls round committed later) begins (tells_steady round committed later))
      (finally_steady first (λ x after. tells S calls round committed later (swallows x after)) begins
      (λ x. after_change (swallows x) (tells S calls round committed later) (swallows_change x) (tells_steady round committed later)))

  course_steady : (course : Course) (todo : List Registered) (at place : ℕ) (first : Meaning) → IsSteady first
      → IsSteady (λ st. course_after S calls course todo at place (first st))
  course_steady course todo at place first begins =
      let body = drop place (last_told S course todo at) in
      told_steady course.round course.committed (untold todo at) (λ st. and_then (first st) (callback S calls body))
      (and_then_steady first (callback S calls body) begins (callback_steady S calls steady body))

  whole_steady : (round : Round) (committed : Bool) → IsSteady (whole_round S calls round committed)
  whole_steady Round.BeforeCommit committed st = tells_steady Round.BeforeCommit committed (ordered (registered st.context.syncs)) st
  whole_steady Round.BeforeCompletion committed st = tells_steady Round.BeforeCompletion committed (ordered (registered st.context.syncs)) st
  whole_steady Round.AfterCommit committed st = tells_steady Round.AfterCommit committed (ordered (registered st.context.syncs)) st
  whole_steady Round.AfterCompletion committed st =
      tells_steady Round.AfterCompletion committed (ordered (registered st.context.syncs)) (with_context (without_syncs st.context) st)

-- ---- frames

module _ (S : Scenario) (first : Meaning) (steady : IsSteady first) where
  rest_steady : (m : MethodNo) (place : ℕ) → IsSteady (λ st. and_then (first st) (statements S m place))
  rest_steady m place = and_then_steady first (statements S m place) steady (statements_steady S m place)

  phase_steady : (m : MethodNo) (place : ℕ) (i : Interception) (phase : Phase) → IsSteady (λ st. phase_after S m place i phase (first st))
  phase_steady m place i Phase.Running =
      finally_steady (λ st. and_then (first st) (statements S m place)) (ends S (inside S m) (scope_of m i) (attribute_of S m)) (rest_steady m place)
      (ends_steady S (inside S m) (inside_steady S m) (scope_of m i) (attribute_of S m))
  phase_steady m place i Phase.Opening = steady
  phase_steady m place i (Phase.Completing rest x) = steady
  phase_steady m place i (Phase.Round course) = finally_steady first (after_round S m i course) steady (after_round_steady S m i course)

  round_steady : (todo : List Registered) (at place : ℕ) (calls : Calls) → AreSteady calls → (phase : Phase)
      → IsSteady (λ st. in_round S calls todo at place phase (first st))
  round_steady todo at place calls are Phase.Opening = steady
  round_steady todo at place calls are Phase.Running = steady
  round_steady todo at place calls are (Phase.Completing rest x) = steady
  round_steady todo at place calls are (Phase.Round course) = course_steady S calls are course todo at place first steady

  below_steady : (todo : List Registered) (at place : ℕ) (fs : List Call) → IsSteady (λ st. round_after S todo at place fs (first st))
  below_steady todo at place [] = steady
  below_steady todo at place (Frame.Body m statement catch (Some i) ∷ fs) = round_steady todo at place (inside S m) (inside_steady S m) i.phase
  below_steady todo at place (Frame.Body m statement catch None ∷ fs) = steady
  below_steady todo at place (Frame.Round round others told statement x ∷ fs) = steady
  below_steady todo at place (Frame.Now listener statement ∷ fs) = steady

  call_steady : (m : MethodNo) (place : ℕ) (scope : Option Interception) → IsSteady (λ st. call_after S m place scope (first st))
  call_steady m place None = finally_steady (λ st. and_then (first st) (statements S m place)) (leaves m) (rest_steady m place) (leaves_steady m)
  call_steady m place (Some i) = phase_steady m place i i.phase

  frame_steady : (fs : List Call) (f : Call) → IsSteady (λ st. frame_after S fs f (first st))
  frame_steady fs (Frame.Body m place catch scope) =
      finally_steady (λ st. call_after S m place scope (first st)) (caught S catch) (call_steady m place scope) (caught_steady S catch)
  frame_steady fs (Frame.Round round todo at place x) = below_steady todo at place fs
  frame_steady fs (Frame.Now listener place) =
      let calls = calls_at S fs in
      let body = drop place (listener_body (slice_get S.listeners listener.0)) in
      let rest = later_deeds S (publication_of S listener) in
      and_then_steady (λ st. and_then (first st) (callback S calls body)) (deals S calls rest)
      (and_then_steady first (callback S calls body) steady (callback_steady S calls (calls_below_steady S (caller_rank S fs)) body))
      (deals_steady S calls (calls_below_steady S (caller_rank S fs)) rest)

resume_steady : (S : Scenario) (fs : List Call) (first : Meaning) → IsSteady first → IsSteady (λ st. unwound S fs (first st))
unfolding unwound
resume_steady S [] first steady = steady
resume_steady S (f ∷ fs) first steady = resume_steady S fs (λ st. frame_after S fs f (first st)) (frame_steady S first steady fs f)

-- ---- stages

rounds_call_steady : (S : Scenario) (m : MethodNo) (i : Interception) (phase : Phase) → IsSteady (rounds_call S m i phase)
rounds_call_steady S m i Phase.Opening = breaks_steady
rounds_call_steady S m i Phase.Running = breaks_steady
rounds_call_steady S m i (Phase.Completing rest x) = breaks_steady
rounds_call_steady S m i (Phase.Round course) = whole_steady S (inside S m) (inside_steady S m) course.round course.committed

told_then_steady : (next : Meaning) → IsSteady next → IsSteady (λ st. next (tells_resumed st))
told_then_steady next steady st =
    let labels = ordered_labels st.context.syncs in
    after_change (say_each Line.Resume labels) next (say_each_change Line.Resume labels) steady st

resumes_call_steady : (S : Scenario) (m : MethodNo) (i : Interception) (phase : Phase) → IsSteady (resumes_call S m i phase)
resumes_call_steady S m i Phase.Opening =
    let x = CANNOT_CREATE_TRANSACTION_EXCEPTION in
    told_then_steady (λ st. leaves m (Some x) (say (Line.Throw x) st)) (say_steady (Line.Throw x) (leaves m (Some x)) (leaves_steady m (Some x)))
resumes_call_steady S m i Phase.Running = breaks_steady
resumes_call_steady S m i (Phase.Completing rest x) =
    told_then_steady (acts S (inside S m) (scope_of m i) rest.now x) (acts_steady S (inside S m) (inside_steady S m) (scope_of m i) rest.now x)
resumes_call_steady S m i (Phase.Round course) = breaks_steady

of_call_steady : (S : Scenario) (m : MethodNo) (i : Interception) (stage : Stage) → IsSteady (of_call S m i stage)
of_call_steady S m i Stage.Taking = ask_steady Want.Take (on_take (begun S m i)) (on_take_steady (begun S m i) (begun_steady S m i))
of_call_steady S m i (Stage.Beginning c) = begun_steady S m i (Some c)
of_call_steady S m i (Stage.Pointing t) =
    ask_steady (Want.Point t) (λ _. pointed S m)
    (λ n. within_steady S (inside S m) (inside_steady S m) m Kind.Point (attribute_of S m) (statements S m 0) (statements_steady S m 0))
of_call_steady S m i Stage.Completing = completes_steady S m i (rest_of i.phase)
of_call_steady S m i Stage.Rounding = rounds_call_steady S m i i.phase
of_call_steady S m i Stage.Resuming = resumes_call_steady S m i i.phase
of_call_steady S m i (Stage.Committing t) =
    ask_steady (Want.Commit t) (λ _. completes S m i (rest_of i.phase)) (λ n. completes_steady S m i (rest_of i.phase))
of_call_steady S m i (Stage.RollingBack t) =
    ask_steady (Want.Rollback t) (λ _. completes S m i (rest_of i.phase)) (λ n. completes_steady S m i (rest_of i.phase))
of_call_steady S m i (Stage.GivingBack bound) =
    ask_steady (Want.Give bound.connection) (λ _. completes S m i (rest_of i.phase)) (λ n. completes_steady S m i (rest_of i.phase))
of_call_steady S m i (Stage.GoingBack t) =
    let next : Note → Meaning = λ _ back. completes S m i (rest_of i.phase) (with_context (with_global_mark false back.context) back) in
    ask_steady (Want.BackTo t) next (λ n back. completes_steady S m i (rest_of i.phase) (with_context (with_global_mark false back.context) back))
of_call_steady S m i (Stage.Releasing t) =
    ask_steady (Want.Release t) (λ _. completes S m i (rest_of i.phase)) (λ n. completes_steady S m i (rest_of i.phase))
of_call_steady S m i Stage.Done = done_steady
of_call_steady S m i stage = breaks_steady

of_top_steady : (S : Scenario) (fs : List Call) (stage : Stage) → IsSteady (of_top S fs stage)
of_top_steady S (Frame.Body m place catch (Some i) ∷ fs) stage = of_call_steady S m i stage
of_top_steady S fs Stage.Done = done_steady
of_top_steady S fs stage = breaks_steady

piece_steady : (S : Scenario) (fs : List Call) (stage : Stage) → IsSteady (piece S fs stage)
piece_steady S fs (Stage.Over x) = over_steady x
piece_steady S fs (Stage.Opening m catch) = finally_steady (opened S m) (caught S catch) (opened_steady S m) (caught_steady S catch)
piece_steady S fs (Stage.Connecting a d) = ask_steady Want.Take (on_take (connects a d)) (on_take_steady (connects a d) (connects_steady a d))
piece_steady S fs (Stage.Accessing place a d) = accesses_steady place a d
piece_steady S fs (Stage.Dealing publication) = deals_steady S (calls_at S fs) (calls_below_steady S (caller_rank S fs)) (later_deeds S publication)
piece_steady S fs (Stage.Returning c x) = ask_steady (Want.Give c) (λ _. concludes x) (λ n. concludes_steady x)
piece_steady S fs stage = of_top_steady S fs stage

run_steady : (S : Scenario) (n top : ℕ) (fs : List Call) (stage : Stage) → IsSteady (λ st. later_calls S n top (unwound S fs (piece S fs stage st)))
run_steady S n top fs stage =
    let later = drop (top + 1) (calls_of S n) in
    finally_steady (λ st. unwound S fs (piece S fs stage st)) (λ _. tops S (top + 1) later) (resume_steady S fs (piece S fs stage) (piece_steady S fs stage))
    (λ _. tops_steady S (top + 1) later)

-- no line is taken back
pub run_starts : (S : Scenario) (n : ℕ) (m : Machine) (pool : List PoolNote) (store : List StoreNote)
    → StartsWith (state_of (run S n m pool store)).lines m.lines.items
run_starts S n m pool store = (run_steady S n m.top (stack m.frames) m.stage (state_at m pool store)).0.0

-- ---- stopping

told_stops : (S : Scenario) (calls : Calls) (round : Round) (committed : Bool) (later : List Registration) (w : Want) (st : State)
    → told_after S calls round committed later (Stops w st) ≡ Stops w st
told_stops S calls Round.BeforeCommit committed later w st = refl
told_stops S calls Round.BeforeCompletion committed later w st = refl
told_stops S calls Round.AfterCommit committed later w st = refl
told_stops S calls Round.AfterCompletion committed later w st = refl

round_stops : (S : Scenario) (todo : List Registered) (at place : ℕ) (fs : List Call) (w : Want) (st : State) → round_after S todo at place fs (Stops w st) ≡ Stops w st
round_stops S todo at place [] w st = refl
round_stops S todo at place (Frame.Body m statement catch (Some i) ∷ fs) w st = by_phase i.phase
  where
    by_phase : (phase : Phase) → in_round S (inside S m) todo at place phase (Stops w st) ≡ Stops w st
    by_phase Phase.Opening = refl
    by_phase Phase.Running = refl
    by_phase (Phase.Completing rest x) = refl
    by_phase (Phase.Round course) = told_stops S (inside S m) course.round course.committed (untold todo at) w st
round_stops S todo at place (Frame.Body m statement catch None ∷ fs) w st = refl
round_stops S todo at place (Frame.Round round others told statement x ∷ fs) w st = refl
round_stops S todo at place (Frame.Now listener statement ∷ fs) w st = refl

frame_stops : (S : Scenario) (fs : List Call) (f : Call) (w : Want) (st : State) → frame_after S fs f (Stops w st) ≡ Stops w st
frame_stops S fs (Frame.Body m place catch None) w st = refl
frame_stops S fs (Frame.Body m place catch (Some i)) w st = ap (λ r. finally r (caught S catch)) (by_phase i.phase)
  where
    by_phase : (phase : Phase) → phase_after S m place i phase (Stops w st) ≡ Stops w st
    by_phase Phase.Running = refl
    by_phase Phase.Opening = refl
    by_phase (Phase.Completing rest x) = refl
    by_phase (Phase.Round course) = refl
frame_stops S fs (Frame.Round round todo at place x) w st = round_stops S todo at place fs w st
frame_stops S fs (Frame.Now listener place) w st = refl

resume_stops : (S : Scenario) (fs : List Call) (w : Want) (st : State) → unwound S fs (Stops w st) ≡ Stops w st
unfolding unwound
resume_stops S [] w st = refl
resume_stops S (f ∷ fs) w st = ap (unwound S fs) (frame_stops S fs f w st) ∙ resume_stops S fs w st

-- with no note to come
abbrev still : List Line → Context → Option Bool → State
still lines context local = record { lines = lines; context = context; local = local; pool = []; store = [] }

-- a stage of an intercepted call that waits for this
abbrev AsksIn : Scenario → Stage → Want → State → Type 0
AsksIn S stage w st = (m : MethodNo) (i : Interception) → of_call S m i stage st ≡ Stops w st

module _ (S : Scenario) (lines : List Line) (context : Context) (local : Option Bool) where
  here : State
  here = still lines context local

  top_stops : (P : MethodNo → ℕ → Option ClassNo → Interception → List Call → Type 0) (fs : List Call) → Innermost P fs → (stage : Stage) (w : Want) → AsksIn S stage w here → of_top S fs stage here ≡ Stops w here
  top_stops P fs is stage w asks = each_innermost P (λ fs. of_top S fs stage here ≡ Stops w here) (λ m place catch i fs held. asks m i) fs is

  begins_stops : (c : ℕ) → AsksIn S (Stage.Beginning c) Want.Begin here
  unfolding begins here
  begins_stops c m i =
      let older = unwrap_or (option_map context_of i.scope.suspended) bare in
      unasked Want.Begin (on_begin (in_fresh S (inside S m) m (attribute_of S m) (statements S m 0) i.scope.owns older c)) here refl

  done_stops : (fs : List Call) → of_top S fs Stage.Done (still lines context local) ≡ Stops Want.Done (still lines context local)
  done_stops [] = refl
  done_stops (Frame.Body m place catch (Some i) ∷ fs) = refl
  done_stops (Frame.Body m place catch None ∷ fs) = refl
  done_stops (Frame.Round round todo at place x ∷ fs) = refl
  done_stops (Frame.Now listener place ∷ fs) = refl

  accesses_stops : (place : Place) (a : Access) (d : Then) → accesses place a d (still lines context local) ≡ Stops (want_at place a) (still lines context local)
  accesses_stops (Place.Transaction t) a d =
      let at = row_access (Place.Transaction t) in unasked (Want.Access t a) (on_access (unless_busy at (does at d))) (still lines context local) refl
  accesses_stops (Place.Connection c) a d =
      let at = row_access (Place.Connection c) in unasked (Want.Auto a) (on_access (unless_busy at (does at d))) (still lines context local) refl

  piece_stops : (fs : List Call) (stage : Stage) (carried : Carried) → StageFits S stage carried fs → falls stage ≡ false → has_failed stage ≡ false
      → piece S fs stage (still lines context local) ≡ Stops (want_of stage) (still lines context local)
  unfolding here
  piece_stops fs (Stage.Over x) carried fits waits going = cc
  piece_stops fs (Stage.Opening m catch) carried fits waits going = cc
  piece_stops fs Stage.Completing carried fits waits going = cc
  piece_stops fs Stage.Rounding carried fits waits going = cc
  piece_stops fs (Stage.Dealing publication) carried fits waits going = cc
  piece_stops fs Stage.Resuming carried fits waits going = cc
  piece_stops fs (Stage.Connecting a d) carried fits waits going = unasked Want.Take (on_take (connects a d)) (still lines context local) refl
  piece_stops fs (Stage.Accessing place a d) carried fits waits going = accesses_stops place a d
  piece_stops fs (Stage.Returning c x) carried fits waits going = unasked (Want.Give c) (λ _. concludes x) (still lines context local) refl
  piece_stops fs Stage.Taking carried fits waits going =
      top_stops _ fs fits.1 Stage.Taking Want.Take (λ m i. unasked Want.Take (on_take (begun S m i)) here refl)
  piece_stops fs (Stage.Beginning c) carried fits waits going = top_stops _ fs fits.1 (Stage.Beginning c) Want.Begin (begins_stops c)
  piece_stops fs (Stage.Pointing t) carried fits waits going =
      top_stops _ fs fits (Stage.Pointing t) (Want.Point t) (λ m i. unasked (Want.Point t) (λ _. pointed S m) here refl)
  piece_stops fs (Stage.Committing t) carried fits waits going =
      top_stops _ fs fits (Stage.Committing t) (Want.Commit t)
      (λ m i. unasked (Want.Commit t) (λ _. completes S m i (rest_of i.phase)) here refl)
  piece_stops fs (Stage.RollingBack t) carried fits waits going =
      top_stops _ fs fits (Stage.RollingBack t) (Want.Rollback t)
      (λ m i. unasked (Want.Rollback t) (λ _. completes S m i (rest_of i.phase)) here refl)
  piece_stops fs (Stage.GoingBack t) carried fits waits going =
      top_stops _ fs fits (Stage.GoingBack t) (Want.BackTo t)
      (λ m i. unasked (Want.BackTo t) (λ _ back. completes S m i (rest_of i.phase) (with_context (with_global_mark false back.context) back)) here refl)
  piece_stops fs (Stage.Releasing t) carried fits waits going =
      top_stops _ fs fits (Stage.Releasing t) (Want.Release t)
      (λ m i. unasked (Want.Release t) (λ _. completes S m i (rest_of i.phase)) here refl)
  piece_stops fs (Stage.GivingBack given) carried fits waits going =
      top_stops _ fs fits.0 (Stage.GivingBack given) (Want.Give given.connection)
      (λ m i. unasked (Want.Give given.connection) (λ _. completes S m i (rest_of i.phase)) here refl)
  piece_stops fs Stage.Done carried fits waits going = done_stops fs
  piece_stops fs Stage.Failed carried fits waits going = cc

-- where it waits for a shared call, or is done, it stops there
pub run_stops : (S : Scenario) (n : ℕ) (m : Machine) (tokens : Tokens) → IsSound S m tokens → falls m.stage ≡ false → has_failed m.stage ≡ false
    → run S n m [] [] ≡ Stops (want_of m.stage) (state_at m [] [])
run_stops S n m tokens sound waits going =
    let st = state_at m [] [] in
    ap (onward S n m)
    (piece_stops S m.lines.items st.context m.local (stack m.frames) m.stage m.context sound.stage waits going)
    ∙ ap (later_calls S n m.top) (resume_stops S (stack m.frames) (want_of m.stage) st)
