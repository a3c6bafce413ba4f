-- Rounds and callbacks, one after the other.
use Rattle.std.proofs.Common.{◌≡◌, ℕ, zero, suc, ◌+◌, ◌*◌, ◌^◌, ◌<◌, ◌≤◌, Bool, true, false, List, [], ◌∷◌, drop, length, map, Option, Some, None, refl, sym, ap, ◌∙◌, subst, arith, add-one}
use Rattle.std.specs.Prelude.{◌&&◌, not, slice_get}
use Rattle.std.specs.Option.{is_some, option_map_or, option_or}
use Rattle.std.proofs.lemmas.Option.{slice_get_within}
use Rattle.std.proofs.lemmas.Bool.{false≢true, and_parts, ltb-true}
use Rattle.stx_scenario.specs.Rooms.{Room}
use Rattle.stx_scenario.specs.declared.numbers.ClassNo.{ClassNo}
use Rattle.stx_scenario.specs.declared.numbers.ListenerNo.{ListenerNo}
use Rattle.stx_scenario.specs.declared.numbers.MethodNo.{MethodNo}
use Rattle.stx_scenario.specs.declared.scenario.Listener.{Listener}
use Rattle.stx_scenario.specs.declared.scenario.Scenario.{Scenario}
use Rattle.stx_scenario.specs.declared.scenario.Stmt.{Stmt}
use Rattle.stx_scenario.specs.declared.scenario.SyncDecl.{SyncDecl}
use Rattle.stx_base.specs.declared.history.PoolNote.{PoolNote}
use Rattle.stx_base.specs.declared.history.StoreNote.{StoreNote}
use Rattle.stx_base.specs.declared.line.Label.{Label}
use Rattle.stx_base.specs.declared.line.Line.{Line}
use Rattle.stx_base.specs.declared.manager.Action.{Action}
use Rattle.stx_base.specs.declared.manager.Kind.{Kind}
use Rattle.stx_base.specs.declared.manager.Round.{Round}
use Rattle.stx_base.specs.Limits.{most_calls}
use Rattle.stx_base.specs.Weight.{rank}
use Rattle.stx_base.specs.Valid.{CallbackInOrder, ListenerInOrder, SyncInOrder, is_catch, names_known}
use Rattle.stx_base.proofs.ValidLaws.{entry_of}
use Rattle.stx_model.specs.Below.{CallbackBelow, CallbacksBelow, LabelBelow, RegisteredBelow, listener_body}
use Rattle.stx_model.specs.Contexts.{Context, Registration, ordered, registered, without_syncs}
use Rattle.stx_model.specs.Ending.{completion, completion_refused}
use Rattle.stx_model.specs.Listeners.{runs_in}
use Rattle.stx_model.specs.Meanings.{State, Result, Over, and_then, say, with_context, finally}
use Rattle.stx_model.specs.Playable.{IsPlayable}
use Rattle.stx_model.specs.Scopes.{later_or}
use Rattle.stx_model.specs.Script.{deals}
use Rattle.stx_model.specs.Statements.{caught}
use Rattle.stx_model.specs.Rounds.{Calls, callback, callback_line, callback_statement, called_back, listens_in, stopping_round, swallowing_round, sync_body, told}
use Rattle.stx_context.specs.Carrying.{Carried, context_of}
use Rattle.stx_frames.specs.declared.frame.Frame.{Frame}
use Rattle.stx_manager.specs.Scopes.{OpenScope}
use Rattle.stx_sync.specs.declared.registered.Registered.{Registered}
use Rattle.stx_sync.specs.Registries.{registration}
use Rattle.stx_machine.specs.declared.completion.Intercepted.{Intercepted}
use Rattle.stx_machine.specs.declared.interception.Course.{Course}
use Rattle.stx_machine.specs.declared.machine.Machine.{Machine}
use Rattle.stx_steps.specs.declared.rounds.Telling.{Telling}
use Rattle.stx_machine.specs.declared.interception.Phase.{Phase}
use Rattle.stx_machine.specs.declared.stage.Stage.{Stage}
use Rattle.stx_machine.specs.Machine.{AreTold, Call, IsClass, course_after, later_calls, put_back, run, state_before, whole_round, callback_of, last_told, left_round, listener_callback, rest_after, unwound, stack, status, stops, tells, told_after, untold, caller_rank, later_deeds, now_after, publication_of, Comes, acts_of, after_round, inside, of_top, on_top, phase_after, rounds_call, onward}
use Rattle.stx_steps.specs.Steps.{IsToldOn, round_frame, begins_callback, listener_runs, telling_after, IsNext, IsTelling, MayCallBack, IsTakenOff, SaysCallback, TakesRound, tells_on}
use Rattle.stx_machine.specs.Sound.{CallsRun, IsApart, IsAtRound, IsCall, IsPartTold, IsWithin, Shelters, Standing, below_rest, below_round, bond_of, due_after, due_in, due_told, ends_after, ends_syncs, is_due, no_tokens, rank_at, releases, standing_of, standing_under, without_own, BeginsRound, CallRounds, IsIntercepted, below_phase, owns_in}
use Rattle.stx_steps.proofs.Coming.{comes_off}
use Rattle.stx_machine.proofs.Endings.{refused_releases, refused_ends}
use Rattle.stx_model.proofs.Callable.{by_order_all}
use Rattle.stx_machine.proofs.Places.{all_at, drop_at, drop_past}

-- ---- a round on top

-- what a round means that was put back on top, with the call that it is part of
pub resume_told : (S : Scenario) (before : Machine) (t : Telling) (after : Machine) (r : Result) → IsToldOn before t after
    → unwound S (stack before.frames) (telling_after S t r) ≡ unwound S (stack after.frames) r
unfolding unwound
resume_told S before t after r is = ap (λ fs. unwound S fs r) (sym is.frames)

-- before the next callback, or before the first
told_on : (S : Scenario) (n : ℕ) (before : Machine) (t : Telling) (after : Machine) (pool : List PoolNote) (store : List StoreNote) → IsToldOn before t after
    → later_calls S n before.top (unwound S (stack before.frames) (telling_after S t (Over None (state_before before pool store))))
    ≡ run S n (record after { stage = Stage.Over None }) pool store
told_on S n before t after pool store is =
    ap (later_calls S n before.top) (resume_told S before t after (Over None (state_before before pool store)) is)
    ∙ ap (λ z. run S n (record z { stage = Stage.Over None }) pool store) (sym is.rest)

runs_told : (S : Scenario) (before : Machine) (t : Telling) (after : Machine) → IsToldOn before t after
    → IsTelling S (rank_at S before) t (standing_of before.context)
    → CallsRun S (below_round t.call.interception.scope t.course (standing_of before.context)) (stack before.frames)
    → CallsRun S (standing_of after.context) (stack after.frames)
runs_told S before t after is telling calls =
    let round = telling.round in
    subst (CallsRun S (standing_of after.context)) (sym is.frames)
    (subst (λ z. CallsRun S (standing_of z.context) (round_frame t ∷ put_back t.call (Phase.Round t.course) ∷ stack before.frames)) (sym is.rest)
    (round.call, round.intercepted, (round.due, round.class), telling.told, calls))

within_told : (S : Scenario) (before : Machine) (t : Telling) (after : Machine) → IsToldOn before t after
    → IsTelling S (rank_at S before) t (standing_of before.context)
    → IsApart S before (below_round t.call.interception.scope t.course (standing_of before.context)) → IsWithin S after no_tokens
within_told S before t after is telling apart = record {
  calls = runs_told S before t after is telling apart.calls;
  top = subst (λ top. top < most_calls) (sym (ap (λ (z : Machine). z.top) is.rest)) apart.top;
  holds = ap (λ (z : Machine). z.tokens) is.rest ∙ apart.holds;
}

-- ---- a round and its call taken off

module _ (S : Scenario) (m off : Machine) (frames : Room Call) (t : Telling) (round : Round) (todo : List Registered) (at place : ℕ) (x : Option ClassNo)
    (top : stack m.frames ≡ Frame.Round round todo at place x ∷ stack frames) (takes : TakesRound (record m { frames = frames }) todo at place t off) where
  both_off : stack m.frames ≡ Frame.Round round t.todo t.at t.place x ∷ put_back t.call (Phase.Round t.course) ∷ stack off.frames
  both_off = top ∙ (λ k. Frame.Round round (sym takes.todo k) (sym takes.at k) (sym takes.place k) x ∷ takes.call k)

  pub taken_off : IsWithin S m no_tokens → IsTakenOff S off t
  taken_off within =
      let calls = subst (CallsRun S (standing_of m.context)) both_off within.calls in
      let was : m.context ≡ off.context = sym (ap (λ (z : Machine). z.context) takes.rest) in
      record {
        telling = subst (λ k. IsTelling S (rank_at S off) t (standing_of k)) was (record {
          round = record { call = calls.0; intercepted = calls.1; due = calls.2.0; class = calls.2.1 };
          told = calls.3;
        });
        apart = record {
          calls = subst (λ k. CallsRun S (below_round t.call.interception.scope t.course (standing_of k)) (stack off.frames)) was calls.4;
          top = subst (λ top. top < most_calls) (sym (ap (λ (z : Machine). z.top) takes.rest)) within.top;
          holds = ap (λ (z : Machine). z.tokens) takes.rest ∙ within.holds;
        };
      }

  -- what is left of it is what it was a piece of
  pub goes_off : (after : Machine) (thrown : Option ClassNo) → Comes S off (λ st. telling_after S t (Over thrown st)) after → Comes S m (Over thrown) after
  unfolding unwound
  goes_off after thrown comes n pool store =
      ap (λ fs. later_calls S n m.top (unwound S fs (Over thrown (state_before m pool store)))) both_off
      ∙ ap (λ (z : Machine). later_calls S n z.top (unwound S (stack off.frames) (telling_after S t (Over thrown (state_before z pool store))))) (sym takes.rest)
      ∙ comes n pool store

-- ---- the callback of a registration

module _ (S : Scenario) (calls : Calls) (round : Round) (committed : Bool) where
  runs_as : (l : ListenerNo) (listener : Listener) (st : State) (runs : Bool)
      → elim runs as (λ _. Result) [ true ↦ callback S calls listener.body (say (Line.Listen l) st) | false ↦ Over None st ]
      ≡ callback S calls (elim runs as (λ _. List Stmt) [ true ↦ listener.body | false ↦ [] ]) (elim runs as (λ _. State) [ true ↦ say (Line.Listen l) st | false ↦ st ])
  unfolding callback
  runs_as l listener st true = refl
  runs_as l listener st false = refl

  listens_as : (l : ListenerNo) (o : Option Listener) (st : State)
      → listens_in S calls round committed l o st
      ≡ callback S calls (listener_callback round committed o) (elim (listener_runs round committed o) as (λ _. State) [ true ↦ say (Line.Listen l) st | false ↦ st ])
  unfolding callback
  listens_as l (Some listener) st = runs_as l listener st (runs_in listener.phase round committed)
  listens_as l None st = refl

  called_as : (label : Label) (st : State)
      → called_back S calls round committed label (say (callback_line round committed label) st)
      ≡ callback S calls (callback_of S round committed label) (begins_callback S round committed label st)
  called_as (Label.Sync s) st = refl
  called_as (Label.Listener l) st = listens_as l (slice_get S.listeners l.0) (say (callback_line round committed (Label.Listener l)) st)

  -- its lines, and then its statements
  pub told_is : (r : Registration) (st : State)
      → told S calls round committed r st ≡ callback S calls (callback_of S round committed r.label) (begins_callback S round committed r.label st)
  unfolding told
  told_is r st = called_as r.label st

-- ---- the registrations that are still to be told

module _ (S : Scenario) (calls : Calls) (committed : Bool) where
  -- the first of them, and then the others
  pub tells_first : (round : Round) (r : Registration) (later : List Registration) (st : State)
      → tells S calls round committed (r ∷ later) st ≡ told_after S calls round committed later (told S calls round (status round committed) r st)
  unfolding stopping_round swallowing_round
  tells_first Round.BeforeCommit r later st = refl
  tells_first Round.BeforeCompletion r later st = refl
  tells_first Round.AfterCommit r later st = refl
  tells_first Round.AfterCompletion r later st = refl

  -- there are none
  pub tells_none : (round : Round) (st : State) → tells S calls round committed [] st ≡ Over None st
  unfolding stopping_round swallowing_round
  tells_none Round.BeforeCommit st = refl
  tells_none Round.BeforeCompletion st = refl
  tells_none Round.AfterCommit st = refl
  tells_none Round.AfterCompletion st = refl

  -- after a callback that threw nothing, after one whose exception ends the round, and after one whose exception is swallowed
  pub goes_on_told : (round : Round) (later : List Registration) (st : State)
      → told_after S calls round committed later (Over None st) ≡ tells S calls round committed later st
  goes_on_told Round.BeforeCommit later st = refl
  goes_on_told Round.BeforeCompletion later st = refl
  goes_on_told Round.AfterCommit later st = refl
  goes_on_told Round.AfterCompletion later st = refl

  pub stops_told : (round : Round) (later : List Registration) (x : ClassNo) (st : State) → stops round ≡ true
      → told_after S calls round committed later (Over (Some x) st) ≡ Over (Some x) st
  stops_told Round.BeforeCommit later x st is = refl
  stops_told Round.BeforeCompletion later x st is = absurd (false≢true is)
  stops_told Round.AfterCommit later x st is = refl
  stops_told Round.AfterCompletion later x st is = absurd (false≢true is)

  pub swallowed : (round : Round) (later : List Registration) (x : ClassNo) (st : State) → stops round ≡ false
      → told_after S calls round committed later (Over (Some x) st) ≡ tells S calls round committed later (say (Line.Swallow x) st)
  swallowed Round.BeforeCommit later x st is = absurd (false≢true (sym is))
  swallowed Round.BeforeCompletion later x st is = refl
  swallowed Round.AfterCommit later x st is = absurd (false≢true (sym is))
  swallowed Round.AfterCompletion later x st is = refl

-- ---- the next registration

pub told_here : (S : Scenario) (course : Course) (todo : List Registered) (at : ℕ) (r : Registered) → slice_get todo at ≡ Some r
    → last_told S course todo (at + 1) ≡ callback_of S course.round (status course.round course.committed) r.label
told_here S course todo at r there =
    ap (last_told S course todo) (add-one at)
    ∙ ap (λ o. option_map_or (λ (r : Registered). callback_of S course.round (status course.round course.committed) r.label) o []) there

-- its callback begins
pub next_told : (S : Scenario) (calls : Calls) (course : Course) (todo : List Registered) (at : ℕ) (r : Registered) (st : State) → slice_get todo at ≡ Some r
    → tells S calls course.round course.committed (untold todo at) st
    ≡ course_after S calls course todo (at + 1) 0 (Over None (begins_callback S course.round (status course.round course.committed) r.label st))
next_told S calls course todo at r st there =
    let committed = status course.round course.committed in
    ap (λ rs. tells S calls course.round course.committed (map registration rs) st) (drop_at todo at r there)
    ∙ tells_first S calls course.committed course.round (registration r) (untold todo (at + 1)) st
    ∙ ap (told_after S calls course.round course.committed (untold todo (at + 1))) (told_is S calls course.round committed (registration r) st)
    ∙ ap (λ body. told_after S calls course.round course.committed (untold todo (at + 1)) (callback S calls body (begins_callback S course.round committed r.label st)))
    (sym (told_here S course todo at r there))

-- there is none
pub last_was_told : (S : Scenario) (calls : Calls) (course : Course) (todo : List Registered) (at : ℕ) (st : State) → slice_get todo at ≡ None
    → tells S calls course.round course.committed (untold todo at) st ≡ Over None st
last_was_told S calls course todo at st past =
    ap (λ rs. tells S calls course.round course.committed (map registration rs) st) (drop_past todo at past) ∙ tells_none S calls course.committed course.round st

pub one_more_told : (S : Scenario) (m : MethodNo) (todo : List Registered) (at : ℕ) (r : Registered) → slice_get todo at ≡ Some r → IsPartTold S m todo at → IsPartTold S m todo (at + 1)
one_more_told S m todo at r there told =
    let within = slice_get_within todo at r there in record { below = told.below; few = told.few; within = omega (arith, within) }

-- ---- the callback under way

module _ (S : Scenario) (calls : Calls) (body : List Stmt) (place : ℕ) (st : State) where
  -- its next statement, and the statements after it
  pub next_called : (s : Stmt) → slice_get body place ≡ Some s
      → callback S calls (drop place body) st ≡ and_then (callback_statement S calls s st) (callback S calls (drop (place + 1) body))
  unfolding callback
  next_called s here = ap (λ b. callback S calls b st) (drop_at body place s here)

  -- its end
  pub over_called : (x : Option ClassNo) → IsNext body place x None → and_then (Over x st) (callback S calls (drop place body)) ≡ Over x st
  unfolding callback
  over_called (Some x) past = refl
  over_called None past = ap (λ b. callback S calls b st) (drop_past body place (past refl))

module _ (S : Scenario) (calls : Calls) (course : Course) (todo : List Registered) (at place : ℕ) (st : State) where
  -- where it is over, those are told that are left
  pub over_told : IsNext (last_told S course todo at) place None None
      → course_after S calls course todo at place (Over None st) ≡ tells S calls course.round course.committed (untold todo at) st
  over_told past =
      ap (told_after S calls course.round course.committed (untold todo at)) (over_called S calls (last_told S course todo at) place st None past)
      ∙ goes_on_told S calls course.committed course.round (untold todo at) st

  pub statement_told : (s : Stmt) → slice_get (last_told S course todo at) place ≡ Some s
      → course_after S calls course todo at place (Over None st) ≡ course_after S calls course todo at (place + 1) (callback_statement S calls s st)
  statement_told s here =
      ap (told_after S calls course.round course.committed (untold todo at)) (next_called S calls (last_told S course todo at) place st s here)

-- a callback that threw nothing is over
pub none_thrown : (S : Scenario) (t : Telling) (st : State) → IsNext (last_told S t.course t.todo t.at) t.place None None → telling_after S t (Over None st) ≡ tells_on S t st
none_thrown S t st past =
    ap (λ r. finally (finally r (after_round S t.call.method t.call.interception t.course)) (caught S t.call.catch))
    (over_told S (inside S t.call.method) t.course t.todo t.at t.place st past)

-- ---- the next callback

-- none is left
pub none_next : (S : Scenario) (t : Telling) (st : State) → slice_get t.todo t.at ≡ None → tells_on S t st ≡ acts_of S t.call (rest_after t.call.interception.scope.kind t.course.round t.course.rest.now None) (later_or None t.course.thrown) st
none_next S t st past =
    ap (λ r. finally (finally r (after_round S t.call.method t.call.interception t.course)) (caught S t.call.catch))
    (last_was_told S (inside S t.call.method) t.course t.todo t.at st past)

-- its lines were said, and it was put on top
module _ (S : Scenario) (m said after : Machine) (t : Telling) (r : Registered) (there : slice_get t.todo t.at ≡ Some r)
    (says : SaysCallback S t.course.round (status t.course.round t.course.committed) r.label m said)
    (on : IsToldOn said (record t { at = t.at + 1; place = 0 }) after) where
  pub goes_next : Comes S m (tells_on S t) (record after { stage = Stage.Over None })
  goes_next n pool store =
      let at : Machine → Result → Result = λ z r. onward S n z (finally (finally r (after_round S t.call.method t.call.interception t.course)) (caught S t.call.catch)) in
      let begins : State → Result = λ st. course_after S (inside S t.call.method) t.course t.todo (t.at + 1) 0 (Over None st) in
      ap (at m) (next_told S (inside S t.call.method) t.course t.todo t.at r (state_before m pool store) there)
      ∙ ap (λ st. at m (begins st)) (says.state pool store)
      ∙ ap (λ z. at z (begins (state_before said pool store))) (sym says.rest)
      ∙ told_on S n said (record t { at = t.at + 1; place = 0 }) after pool store on

  pub within_next : IsTakenOff S m t → IsWithin S after no_tokens
  within_next off =
      let next : Telling = record t { at = t.at + 1; place = 0 } in
      let telling : IsTelling S (rank_at S m) next (standing_of m.context) = record {
        round = off.telling.round;
        told = one_more_told S t.call.method t.todo t.at r there off.telling.told;
      } in
      within_told S said next after on (subst (λ (z : Machine). IsTelling S (rank_at S z) next (standing_of z.context)) (sym says.rest) telling)
      (subst (λ (z : Machine). IsApart S z (below_round t.call.interception.scope t.course (standing_of z.context))) (sym says.rest)
      (record { calls = off.apart.calls; top = off.apart.top; holds = off.apart.holds }))

-- ---- what a callback may do

all_here : (S : Scenario) (body : List Stmt) (place : ℕ) (s : Stmt) → CallbackInOrder S body → slice_get body place ≡ Some s → names_known S s ≡ true
all_here S body place s order here = entry_of (λ s. names_known S s ≡ true) body place s order.known here

module _ (S : Scenario) (place : ℕ) (s : Stmt) where
  known_in_sync : (sync : SyncDecl) → SyncInOrder S sync → (round : Round) → slice_get (sync_body round (Some sync)) place ≡ Some s → names_known S s ≡ true
  known_in_sync sync order Round.BeforeCommit here = all_here S sync.before_commit place s order.before_commit here
  known_in_sync sync order Round.BeforeCompletion here = all_here S sync.before_completion place s order.before_completion here
  known_in_sync sync order Round.AfterCommit here = all_here S sync.after_commit place s order.after_commit here
  known_in_sync sync order Round.AfterCompletion here = all_here S sync.after_completion place s order.after_completion here

  known_of_sync : (o : Option SyncDecl) → ((sync : SyncDecl) → o ≡ Some sync → SyncInOrder S sync) → (round : Round)
      → slice_get (sync_body round o) place ≡ Some s → names_known S s ≡ true
  known_of_sync (Some sync) order round here = known_in_sync sync (order sync refl) round here
  known_of_sync None order Round.BeforeCommit here = absurd cc
  known_of_sync None order Round.BeforeCompletion here = absurd cc
  known_of_sync None order Round.AfterCommit here = absurd cc
  known_of_sync None order Round.AfterCompletion here = absurd cc

  known_of_listener : (o : Option Listener) → ((listener : Listener) → o ≡ Some listener → ListenerInOrder S listener) → (round : Round) (committed : Bool)
      → slice_get (listener_callback round committed o) place ≡ Some s → names_known S s ≡ true
  known_of_listener (Some listener) order round committed here = by_run (runs_in listener.phase round committed) here
    where
      by_run : (runs : Bool) → slice_get (elim runs as (λ _. List Stmt) [ true ↦ listener.body | false ↦ [] ]) place ≡ Some s → names_known S s ≡ true
      by_run true there = all_here S listener.body place s (order listener refl).body there
      by_run false there = absurd cc
  known_of_listener None order round committed here = absurd cc

  -- all that it names is there
  pub known_called : IsPlayable S → (round : Round) (committed : Bool) (label : Label) → slice_get (callback_of S round committed label) place ≡ Some s
      → names_known S s ≡ true
  known_called playable round committed (Label.Sync n) here =
      known_of_sync (slice_get S.syncs n.0) (λ sync there. entry_of (SyncInOrder S) S.syncs n.0 sync playable.order.places.syncs there) round here
  known_called playable round committed (Label.Listener n) here =
      known_of_listener (slice_get S.listeners n.0) (λ listener there. entry_of (ListenerInOrder S) S.listeners n.0 listener playable.order.places.listeners there)
      round committed here

  -- ---- ranks

  module _ (k : ℕ) where
    below_of_listener : (o : Option Listener) → CallbacksBelow S k (listener_body o) → (round : Round) (committed : Bool)
        → slice_get (listener_callback round committed o) place ≡ Some s → CallbackBelow S k s
    below_of_listener (Some listener) below round committed here = by_run (runs_in listener.phase round committed) here
      where
        by_run : (runs : Bool) → slice_get (elim runs as (λ _. List Stmt) [ true ↦ listener.body | false ↦ [] ]) place ≡ Some s → CallbackBelow S k s
        by_run true there = all_at (CallbackBelow S k) listener.body place s below there
        by_run false there = absurd cc
    below_of_listener None below round committed here = absurd cc

    below_called : (round : Round) (committed : Bool) (label : Label) → LabelBelow S k label
        → slice_get (callback_of S round committed label) place ≡ Some s → CallbackBelow S k s
    below_called round committed (Label.Sync n) below here = all_at (CallbackBelow S k) (sync_body round (slice_get S.syncs n.0)) place s (below round) here
    below_called round committed (Label.Listener n) below here = below_of_listener (slice_get S.listeners n.0) below round committed here

caught_known : (S : Scenario) (catch : Option ClassNo) → is_catch S catch ≡ true → IsClass S catch
caught_known S None known = tt
caught_known S (Some x) known = ltb-true x.0 (length S.classes) known

pub may_call : (S : Scenario) (k : ℕ) (s : Stmt) → names_known S s ≡ true → CallbackBelow S k s → MayCallBack S k s
may_call S k (Stmt.Read row) known below = tt
may_call S k (Stmt.Write row v) known below = tt
may_call S k (Stmt.Erase row) known below = tt
may_call S k (Stmt.Add row v) known below = tt
may_call S k (Stmt.Need row v) known below = tt
may_call S k (Stmt.Call n catch) known below =
    let (method, rest) = and_parts _ _ known in record { method = ltb-true n.0 (length S.methods) method; class = caught_known S catch rest; low = below }
may_call S k (Stmt.This n catch) known below = below
may_call S k (Stmt.Throw x) known below = ltb-true x.0 (length S.classes) known
may_call S k Stmt.Mark known below = below
may_call S k (Stmt.Publish e) known below = below
may_call S k (Stmt.Register r) known below = below

-- each statement of the callback under way is one that it may do
pub may_call_back : (S : Scenario) (m : MethodNo) (course : Course) (todo : List Registered) (at place : ℕ) (s : Stmt) → IsPlayable S
    → RegisteredBelow S (rank S m) (map registration todo) → slice_get (last_told S course todo at) place ≡ Some s → MayCallBack S (rank S m) s
may_call_back S m course todo zero place s playable below here = absurd cc
may_call_back S m course todo (suc at) place s playable below here = by_place (slice_get todo at) refl here
  where
    committed : Bool
    committed = status course.round course.committed

    all_told : (rs : List Registered) (i : ℕ) (r : Registered) → RegisteredBelow S (rank S m) (map registration rs) → slice_get rs i ≡ Some r
        → LabelBelow S (rank S m) r.label
    all_told [] i r all there = absurd cc
    all_told (x ∷ rs) zero r all there =
        let first : x ≡ r = cc in subst (λ (z : Registered). LabelBelow S (rank S m) z.label) first all.0
    all_told (x ∷ rs) (suc i) r all there = all_told rs i r all.1 there

    by_place : (o : Option Registered) → slice_get todo at ≡ o
        → slice_get (option_map_or (λ (r : Registered). callback_of S course.round committed r.label) o []) place ≡ Some s → MayCallBack S (rank S m) s
    by_place (Some r) there stands =
        may_call S (rank S m) s (known_called S place s playable course.round committed r.label stands)
        (below_called S place s (rank S m) course.round committed r.label (all_told todo at r below there) stands)
    by_place None there stands = absurd cc

-- ---- after a round

no_more : (b : Bool) → not b ≡ true → b ≡ false
no_more false is = refl
no_more true is = absurd (false≢true is)

-- where synchronisation isn't active, it doesn't matter who owns it
unowned : (o : Option (List Registration)) → not (is_some o) ≡ true → (a b : Bool)
    → elim a as (λ _. Option (List Registration)) [ true ↦ None | false ↦ o ] ≡ elim b as (λ _. Option (List Registration)) [ true ↦ None | false ↦ o ]
unowned None not true true = refl
unowned None not true false = refl
unowned None not false true = refl
unowned None not false false = refl
unowned (Some rs) not a b = absurd (false≢true not)

module _ (scope : OpenScope) (standing : Standing) (rest : List Action) where
  below_with : Bool → Bool → Standing
  below_with pointed ends = standing_under scope.suspended (without_own pointed (scope.owns && ends) standing)

  -- what is left is due
  pub due_after_round : (round : Round) (x : Option ClassNo) → due_told round scope standing rest ≡ true
      → due_in scope standing (rest_after scope.kind round rest x) ≡ true
  due_after_round Round.BeforeCommit (Some x) due = (and_parts _ _ (and_parts _ _ due).1).0
  due_after_round Round.BeforeCommit None due = (and_parts _ _ due).0
  due_after_round Round.BeforeCompletion x due = due
  due_after_round Round.AfterCommit x due = due
  due_after_round Round.AfterCompletion x due = (and_parts _ _ due).1

  -- and the same stands below it
  pub below_after_round : (round : Round) (x : Option ClassNo) → due_told round scope standing rest ≡ true
      → standing_under scope.suspended (without_own (releases rest) (scope.owns && ends_after round rest) standing)
      ≡ below_rest scope (rest_after scope.kind round rest x) standing
  unfolding below_with
  below_after_round Round.BeforeCommit (Some x) due =
      let both : not (releases rest) && ends_syncs rest ≡ true = (and_parts _ _ (and_parts _ _ due).1).1 in
      let kept : releases rest ≡ false = no_more (releases rest) (and_parts _ _ both).0 in
      let last : ends_syncs rest ≡ true = (and_parts (not (releases rest)) (ends_syncs rest) both).1 in
      (λ k. below_with (kept k) (last k)) ∙ sym (λ k. below_with (refused_releases scope.kind k) (refused_ends scope.kind k))
  below_after_round Round.BeforeCommit None due = refl
  below_after_round Round.BeforeCompletion x due = refl
  below_after_round Round.AfterCommit x due = refl
  below_after_round Round.AfterCompletion x due =
      let bond = (without_own (releases rest) false standing).bond in
      ap (λ syncs. standing_under scope.suspended (record { bond = bond; syncs = syncs })) (unowned standing.syncs (and_parts _ _ due).0 (scope.owns && true) (scope.owns && ends_syncs rest))

few_refused : (kind : Kind) → length (completion_refused kind) ≤ 6
unfolding completion
few_refused Kind.Fresh = omega arith
few_refused Kind.Join = omega arith
few_refused Kind.Point = omega arith
few_refused Kind.Empty = omega arith

-- and it is no more than was left
pub few_after_round : (kind : Kind) (round : Round) (rest : List Action) (x : Option ClassNo) → 4 * length (rest_after kind round rest x) ≤ left_round round (length rest)
few_after_round kind Round.BeforeCommit rest (Some x) = let few = few_refused kind in omega (arith, few)
few_after_round kind Round.BeforeCommit rest None = omega arith
few_after_round kind Round.BeforeCompletion rest x = omega arith
few_after_round kind Round.AfterCommit rest x = omega arith
few_after_round kind Round.AfterCompletion rest x = omega arith

pub later_known : (S : Scenario) (y x : Option ClassNo) → IsClass S y → IsClass S x → IsClass S (option_or y x)
later_known S (Some z) x first second = first
later_known S None x first second = second

-- ---- the beginning of a round

-- the last round takes the registrations out
abbrev round_context : Round → Context → Context
round_context Round.AfterCompletion context = without_syncs context
round_context round context = context

abbrev round_standing : Round → Standing → Standing
round_standing Round.AfterCompletion standing = record { bond = standing.bond; syncs = None }
round_standing round standing = standing

-- they were taken out
pub record Begins (round : Round) (before after : Machine) : Type 0 where
  pub context : context_of after.context ≡ round_context round (context_of before.context)
  pub tx : after.context.tx ≡ before.context.tx
  pub rest : after ≡ record before { context = after.context }

pub as_it_was : (round : Round) (m : Machine) → (round ≡ Round.AfterCompletion → ⊥) → Begins round m m
as_it_was Round.BeforeCommit m not = record { context = refl; tx = refl; rest = refl }
as_it_was Round.BeforeCompletion m not = record { context = refl; tx = refl; rest = refl }
as_it_was Round.AfterCommit m not = record { context = refl; tx = refl; rest = refl }
as_it_was Round.AfterCompletion m not = absurd (not refl)

standing_begun : (round : Round) (before after : Carried) → context_of after ≡ round_context round (context_of before) → after.tx ≡ before.tx
    → standing_of after ≡ round_standing round (standing_of before)
standing_begun Round.BeforeCommit before after context tx = λ i. record { bond = bond_of (tx i); syncs = (context i).syncs }
standing_begun Round.BeforeCompletion before after context tx = λ i. record { bond = bond_of (tx i); syncs = (context i).syncs }
standing_begun Round.AfterCommit before after context tx = λ i. record { bond = bond_of (tx i); syncs = (context i).syncs }
standing_begun Round.AfterCompletion before after context tx = λ i. record { bond = bond_of (tx i); syncs = (context i).syncs }

module _ (S : Scenario) (calls : Calls) (committed : Bool) (told : List Registered) (before after : Machine) (pool : List PoolNote) (store : List StoreNote)
    (are : AreTold told (context_of before.context)) where
  tells_from : (round : Round) → Begins round before after
      → tells S calls round committed (map registration told) (with_context (round_context round (context_of before.context)) (state_before before pool store))
      ≡ tells S calls round committed (map registration told) (state_before after pool store)
  tells_from round begins =
      ap (λ context. tells S calls round committed (map registration told) (with_context context (state_before before pool store))) (sym begins.context)
      ∙ ap (λ z. tells S calls round committed (map registration told) (state_before z pool store)) (sym begins.rest)

  -- the whole round: all that were registered are told
  pub whole_is : (round : Round) → Begins round before after
      → whole_round S calls round committed (state_before before pool store) ≡ tells S calls round committed (map registration told) (state_before after pool store)
  whole_is Round.BeforeCommit begins =
      ap (λ rs. tells S calls Round.BeforeCommit committed rs (state_before before pool store)) (sym are) ∙ tells_from Round.BeforeCommit begins
  whole_is Round.BeforeCompletion begins =
      ap (λ rs. tells S calls Round.BeforeCompletion committed rs (state_before before pool store)) (sym are) ∙ tells_from Round.BeforeCompletion begins
  whole_is Round.AfterCommit begins =
      ap (λ rs. tells S calls Round.AfterCommit committed rs (state_before before pool store)) (sym are) ∙ tells_from Round.AfterCommit begins
  whole_is Round.AfterCompletion begins =
      ap (λ rs. tells S calls Round.AfterCompletion committed rs (with_context (without_syncs (context_of before.context)) (state_before before pool store))) (sym are)
      ∙ tells_from Round.AfterCompletion begins

-- where none was told yet
pub none_told : (S : Scenario) (calls : Calls) (course : Course) (todo : List Registered) (st : State)
    → tells S calls course.round course.committed (map registration todo) st ≡ course_after S calls course todo 0 0 (Over None st)
unfolding callback
none_told S calls course todo st = sym (goes_on_told S calls course.committed course.round (map registration todo) st)

-- ---- what is due in it

not_active : (active owns : Bool) → owns ≡ true → active && not owns ≡ false
not_active true true is = refl
not_active false true is = refl
not_active active false is = absurd (false≢true is)

module _ (scope : OpenScope) (owned : scope.owns ≡ true) (standing : Standing) (rest : List Action) where
  pub due_begun : (round : Round) → due_after round scope standing rest ≡ true → due_told round scope (round_standing round standing) rest ≡ true
  due_begun Round.BeforeCommit due = due
  due_begun Round.BeforeCompletion due = due
  due_begun Round.AfterCommit due = due
  due_begun Round.AfterCompletion due =
      ap (λ active. is_due scope.owns (is_some scope.suspended) standing.bond active rest) (sym (not_active (is_some standing.syncs) scope.owns owned)) ∙ due

  pub below_begun : (round : Round) → standing_under scope.suspended (without_own (releases rest) (scope.owns && ends_after round rest) standing)
      ≡ standing_under scope.suspended (without_own (releases rest) (scope.owns && ends_after round rest) (round_standing round standing))
  below_begun Round.BeforeCommit = refl
  below_begun Round.BeforeCompletion = refl
  below_begun Round.AfterCommit = refl
  below_begun Round.AfterCompletion =
      ap (λ owns. standing_under scope.suspended (without_own (releases rest) (owns && true) standing)) owned
      ∙ ap (λ owns. standing_under scope.suspended (without_own (releases rest) (owns && true) (record { bond = standing.bond; syncs = None }))) (sym owned)

module _ (S : Scenario) (m : MethodNo) (owns : Bool) (owned : owns ≡ true) (standing : Standing) (shelters : Shelters S m owns standing.syncs) where
  pub shelters_begun : (round : Round) → Shelters S m owns (round_standing round standing).syncs
  shelters_begun Round.BeforeCommit = shelters
  shelters_begun Round.BeforeCompletion = shelters
  shelters_begun Round.AfterCommit = shelters
  shelters_begun Round.AfterCompletion = subst (λ b. Shelters S m b None) (sym owned) tt

  -- all that are told call only methods of lower rank
  pub told_below : (told : List Registered) → map registration told ≡ ordered (registered standing.syncs) → RegisteredBelow S (rank S m) (map registration told)
  told_below told are =
      subst (RegisteredBelow S (rank S m)) (sym are)
      (by_order_all (λ r. LabelBelow S (rank S m) r.label) (λ r. r.order) (registered standing.syncs) (subst (λ b. Shelters S m b standing.syncs) owned shelters))

module _ (S : Scenario) (before after : Machine) (call : Intercepted) (course : Course) (begins : Begins course.round before after) (owned : call.interception.scope.owns ≡ true) where
  begun_standing : standing_of after.context ≡ round_standing course.round (standing_of before.context)
  begun_standing = standing_begun course.round before.context after.context begins.context begins.tx

  begun_frames : after.frames ≡ before.frames
  begun_frames = ap (λ (z : Machine). z.frames) begins.rest

  -- a round that begins is one that is made
  pub telling_begun : (told : List Registered) → IsAtRound S (rank_at S before) call (standing_of before.context) course → AreTold told (context_of before.context)
      → length told < 2 ^ 32
      → IsTelling S (rank_at S after) (record { call = call; course = course; todo = told; at = 0; place = 0 }) (standing_of after.context)
  telling_begun told at are few =
      let m = call.method in
      let scope = call.interception.scope in
      let standing = standing_of before.context in
      let rest = course.rest.now in
      let sheltered = shelters_begun S m scope.owns owned standing at.intercepted.shelters course.round in
      record {
        round = record {
          call = subst (λ frames. IsCall S (caller_rank S (stack frames)) m call.catch) (sym begun_frames) at.call;
          intercepted = record {
            attribute = at.intercepted.attribute;
            shelters = subst (λ (z : Standing). Shelters S m scope.owns z.syncs) (sym begun_standing) sheltered;
          };
          due = subst (λ z. due_told course.round scope z rest ≡ true) (sym begun_standing) (due_begun scope owned standing rest course.round at.due);
          class = at.class;
        };
        told = record { below = told_below S m scope.owns owned standing at.intercepted.shelters told are; few = few; within = omega arith };
      }

  -- and the same stands below it
  pub apart_begun : IsApart S before (below_round call.interception.scope course (standing_of before.context))
      → IsApart S after (below_round call.interception.scope course (standing_of after.context))
  apart_begun apart =
      let scope = call.interception.scope in
      record {
        calls =
            subst (λ frames. CallsRun S (below_round scope course (standing_of after.context)) (stack frames)) (sym begun_frames)
            (subst (λ below. CallsRun S below (stack before.frames))
            (below_begun scope owned (standing_of before.context) course.rest.now course.round ∙ ap (below_round scope course) (sym begun_standing)) apart.calls);
        top = subst (λ top. top < most_calls) (sym (ap (λ (z : Machine). z.top) begins.rest)) apart.top;
        holds = ap (λ (z : Machine). z.tokens) begins.rest ∙ apart.holds;
      }

-- the call on top was taken off, its round began, and both were put on top
module _ (S : Scenario) (m off mid after : Machine) (call : Intercepted) (course : Course) (told : List Registered)
    (top : stack m.frames ≡ on_top call ∷ stack off.frames) (rest : off ≡ record m { frames = off.frames }) (phase : call.interception.phase ≡ Phase.Round course)
    (begins : Begins course.round off mid) (are : AreTold told (context_of m.context))
    (on : IsToldOn mid (record { call = call; course = course; todo = told; at = 0; place = 0 }) after) where
  are_off : AreTold told (context_of off.context)
  are_off = subst (λ (z : Machine). AreTold told (context_of z.context)) (sym rest) are

  pub within_begun : CallRounds S (standing_of m.context) (stack m.frames) → length told < 2 ^ 32 → m.top < most_calls → m.tokens ≡ no_tokens → IsWithin S after no_tokens
  within_begun rounds few early holds =
      let i = call.interception in
      let standing = standing_of off.context in
      let there = subst (CallRounds S standing) top (subst (λ (z : Machine). CallRounds S (standing_of z.context) (stack m.frames)) (sym rest) rounds) in
      let due = subst (BeginsRound S standing i) phase there.3 in
      let at : IsAtRound S (rank_at S off) call standing course = record {
        call = there.0;
        intercepted = subst (λ p. IsIntercepted S call.method (owns_in i.scope p) standing.syncs) phase there.1;
        due = due.0;
        class = due.1;
      } in
      let apart : IsApart S off (below_round i.scope course standing) = record {
        calls = subst (λ p. CallsRun S (below_phase i.scope p standing) (stack off.frames)) phase there.4;
        top = subst (λ top. top < most_calls) (sym (ap (λ (z : Machine). z.top) rest)) early;
        holds = ap (λ (z : Machine). z.tokens) rest ∙ holds;
      } in
      within_told S mid (record { call = call; course = course; todo = told; at = 0; place = 0 }) after on
      (telling_begun S off mid call course begins there.2 told at are_off few) (apart_begun S off mid call course begins there.2 apart)

  -- what the call was a piece of, where it was at this phase
  abbrev in_phase : Phase → State → Result
  in_phase p st = finally (phase_after S call.method call.place call.interception p (rounds_call S call.method call.interception p st)) (caught S call.catch)

  goes_from_off : Comes S off (in_phase call.interception.phase) (record after { stage = Stage.Over None })
  goes_from_off n pool store =
      let calls = inside S call.method in
      let at : Machine → Result → Result = λ z r. onward S n z (finally (finally r (after_round S call.method call.interception course)) (caught S call.catch)) in
      ap (λ p. onward S n off (in_phase p (state_before off pool store))) phase
      ∙ ap (at off) (whole_is S calls course.committed told off mid pool store are_off course.round begins)
      ∙ ap (λ z. at z (tells S calls course.round course.committed (map registration told) (state_before mid pool store))) (sym begins.rest)
      ∙ ap (at mid) (none_told S calls course told (state_before mid pool store))
      ∙ told_on S n mid (record { call = call; course = course; todo = told; at = 0; place = 0 }) after pool store on

  pub goes_begun : Comes S m (of_top S (stack m.frames) Stage.Rounding) (record after { stage = Stage.Over None })
  goes_begun = comes_off S m (record after { stage = Stage.Over None }) off call (λ fs. of_top S fs Stage.Rounding) top rest goes_from_off

-- ---- listeners that run at once

module _ (S : Scenario) (calls : Calls) (l : ListenerNo) (place : ℕ) where
  -- a statement of a listener, and the listener after it
  pub now_next : (s : Stmt) (st : State) → slice_get (listener_body (slice_get S.listeners l.0)) place ≡ Some s
      → now_after S calls l place (Over None st) ≡ now_after S calls l (place + 1) (callback_statement S calls s st)
  unfolding callback
  now_next s st here =
      ap (λ b. and_then (callback S calls b st) (deals S calls (later_deeds S (publication_of S l)))) (drop_at (listener_body (slice_get S.listeners l.0)) place s here)

  -- a listener that has ended
  pub now_ends : (x : Option ClassNo) (st : State) → IsNext (listener_body (slice_get S.listeners l.0)) place x None
      → now_after S calls l place (Over x st) ≡ and_then (Over x st) (deals S calls (later_deeds S (publication_of S l)))
  unfolding callback
  now_ends (Some x) st past = refl
  now_ends None st past =
      ap (λ b. and_then (callback S calls b st) (deals S calls (later_deeds S (publication_of S l)))) (drop_past (listener_body (slice_get S.listeners l.0)) place (past refl))

-- each statement of a listener is one that it may do
pub may_listen : (S : Scenario) (l : ListenerNo) (place : ℕ) (s : Stmt) (k : ℕ) → IsPlayable S → CallbacksBelow S k (listener_body (slice_get S.listeners l.0))
    → slice_get (listener_body (slice_get S.listeners l.0)) place ≡ Some s → MayCallBack S k s
may_listen S l place s k playable below here = by_place (slice_get S.listeners l.0) refl below here
  where
    by_place : (o : Option Listener) → slice_get S.listeners l.0 ≡ o → CallbacksBelow S k (listener_body o) → slice_get (listener_body o) place ≡ Some s → MayCallBack S k s
    by_place (Some listener) there under stands =
        may_call S k s (all_here S listener.body place s (entry_of (ListenerInOrder S) S.listeners l.0 listener playable.order.places.listeners there).body stands)
        (all_at (CallbackBelow S k) listener.body place s under stands)
    by_place None there under stands = absurd cc
