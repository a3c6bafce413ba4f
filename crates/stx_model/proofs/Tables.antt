-- The tables of the manager, each computed whole: openings by propagation and context, endings by kind and condition,
-- what each completion says and leaves, and what is done with listeners.
use Rattle.std.proofs.Common.{◌≡◌, pos, Bool, true, false, List, [], ◌∷◌, map, Option, Some, None, refl}
use Rattle.std.specs.List.{filter_map}
use Rattle.stx_scenario.specs.declared.classes.TheConstants.{CANNOT_CREATE_TRANSACTION_EXCEPTION, NESTED_TRANSACTION_NOT_SUPPORTED_EXCEPTION, ILLEGAL_TRANSACTION_STATE_EXCEPTION, UNEXPECTED_ROLLBACK_EXCEPTION}
use Rattle.stx_scenario.specs.declared.numbers.ClassNo.{ClassNo}
use Rattle.stx_scenario.specs.declared.scenario.Scenario.{Scenario}
use Rattle.stx_scenario.specs.declared.scenario.Settings.{Settings}
use Rattle.stx_scenario.specs.declared.scenario.Propagation.{Propagation}
use Rattle.stx_scenario.specs.declared.scenario.SyncMode.{SyncMode}
use Rattle.stx_scenario.specs.declared.scenario.Phase.{Phase}
use Rattle.stx_base.specs.declared.line.Line.{Line}
use Rattle.stx_base.specs.declared.manager.Kind.{Kind}
use Rattle.stx_base.specs.declared.manager.Opening.{Opening}
use Rattle.stx_base.specs.declared.manager.Ending.{Ending}
use Rattle.stx_base.specs.declared.manager.Round.{Round}
use Rattle.stx_model.specs.Contexts.{Context, Registration, bare}
use Rattle.stx_model.specs.Meanings.{Result, State, Over, Breaks, ask}
use Rattle.stx_model.specs.Rounds.{Calls, callback_statement, callback, told, stopping_round, swallowing_round}
use Rattle.stx_model.specs.Scopes.{Scope, acts, completes}
use Rattle.stx_model.specs.Opening.{opening}
use Rattle.stx_model.specs.Ending.{ending, completion}
use Rattle.stx_model.specs.Listeners.{Register, RunNow, Skip, deeds, runs_in}
use Rattle.stx_model.proofs.Small.{m, e, listener_no, s, t, settings, last_of_all, sync, listener, plainly, with_transaction, pool_note, store_note}
use Rattle.stx_model.proofs.Traces.{leave, leave_throws, throw, mark_global, give, bind, resume, back_to, release, commit, rollback, before_commit, before_completion, after_commit, after_completion_committed, after_completion_rolled_back}

-- ---- openings

abbrev propagations : List Propagation
propagations = Propagation.Required ∷ Propagation.Supports ∷ Propagation.Mandatory ∷ Propagation.RequiresNew
    ∷ Propagation.NotSupported ∷ Propagation.Never ∷ Propagation.Nested ∷ []

-- bare; synchronisation alone; a live transaction; a live transaction that is marked
abbrev contexts : Option (List Registration) → List Context
contexts syncs = bare ∷ record { tx = None; syncs = Some [] } ∷ with_transaction false syncs ∷ with_transaction true syncs ∷ []

abbrev opened_by : Settings → Option (List Registration) → Propagation → List Opening
opened_by settings syncs propagation =
    map (opening settings (record { propagation = propagation; read_only = false; rules = [] })) (contexts syncs)

-- a line for each propagation, with a cell for each context
abbrev openings : Settings → Option (List Registration) → List (List Opening)
openings settings syncs = map (opened_by settings syncs) propagations

abbrev join : Opening
join = Opening.Join

-- without savepoints, and with them where the transaction is marked or isn't
abbrev no_nested : Opening
no_nested = Opening.Refuse NESTED_TRANSACTION_NOT_SUPPORTED_EXCEPTION

abbrev no_creation : Opening
no_creation = Opening.Refuse CANNOT_CREATE_TRANSACTION_EXCEPTION

abbrev point : Opening
point = Opening.Point

-- the table of a manager, by what tells managers apart: whether a fresh scope owns synchronisation, whether an empty one
-- does that finds none active, and the cells of nested in a live transaction
abbrev table : Bool → Bool → List Opening → List (List Opening)
table fresh_owns empty_owns nested_in_live =
    -- required
    (fresh ∷ fresh_apart ∷ join ∷ join ∷ [])
    -- supports
    ∷ (empty ∷ empty_in_active ∷ join ∷ join ∷ [])
    -- mandatory
    ∷ (illegal ∷ illegal ∷ join ∷ join ∷ [])
    -- requires_new
    ∷ (fresh ∷ fresh_apart ∷ fresh_apart ∷ fresh_apart ∷ [])
    -- not_supported
    ∷ (empty ∷ empty_in_active ∷ empty_apart ∷ empty_apart ∷ [])
    -- never
    ∷ (empty ∷ empty_in_active ∷ illegal ∷ illegal ∷ [])
    -- nested
    ∷ (fresh ∷ fresh_apart ∷ nested_in_live) ∷ []
  where
    -- a scope of its own, and one that comes after a suspension
    fresh : Opening
    fresh = Opening.Fresh false fresh_owns

    fresh_apart : Opening
    fresh_apart = Opening.Fresh true fresh_owns

    empty : Opening
    empty = Opening.Empty false empty_owns

    empty_in_active : Opening
    empty_in_active = Opening.Empty false false

    empty_apart : Opening
    empty_apart = Opening.Empty true empty_owns

    illegal : Opening
    illegal = Opening.Refuse ILLEGAL_TRANSACTION_STATE_EXCEPTION

pub openings_in_the_mode_always : openings (settings 8 SyncMode.Always true) (Some []) ≡ table true true (point ∷ no_creation ∷ [])
unfolding opening
openings_in_the_mode_always = refl

pub openings_in_the_mode_actual : openings (settings 8 SyncMode.Actual true) (Some []) ≡ table true false (point ∷ no_creation ∷ [])
unfolding opening
openings_in_the_mode_actual = refl

pub openings_in_the_mode_never : openings (settings 8 SyncMode.Never true) None ≡ table false false (point ∷ no_creation ∷ [])
unfolding opening
openings_in_the_mode_never = refl

pub openings_without_savepoints : openings (settings 8 SyncMode.Always false) (Some []) ≡ table true true (no_nested ∷ no_nested ∷ [])
unfolding opening
openings_without_savepoints = refl

-- ---- endings

abbrev kinds : List Kind
kinds = Kind.Fresh ∷ Kind.Join ∷ Kind.Point ∷ Kind.Empty ∷ []

-- no mark; a global one; the rules say rollback; they do under a global mark; a local mark; both marks
abbrev ended_by : Kind → List Ending
ended_by kind = ending kind false false (with_transaction false None) ∷ ending kind false false (with_transaction true None)
    ∷ ending kind true false (with_transaction false None) ∷ ending kind true false (with_transaction true None)
    ∷ ending kind false true (with_transaction false None) ∷ ending kind false true (with_transaction true None) ∷ []

-- a line for each kind, with a cell for each condition
pub endings_of_scopes : map ended_by kinds ≡
    -- fresh
    (Ending.Commit ∷ Ending.Unexpected ∷ Ending.Rollback ∷ Ending.Rollback ∷ Ending.Rollback ∷ Ending.Rollback ∷ [])
    -- joined
    ∷ (Ending.Commit ∷ Ending.Unexpected ∷ Ending.Rollback ∷ Ending.Rollback ∷ Ending.Rollback ∷ Ending.Rollback ∷ [])
    -- point
    ∷ (Ending.Commit ∷ Ending.Unexpected ∷ Ending.Rollback ∷ Ending.Rollback ∷ Ending.Rollback ∷ Ending.Rollback ∷ [])
    -- empty
    ∷ (Ending.Commit ∷ Ending.Commit ∷ Ending.Rollback ∷ Ending.Rollback ∷ Ending.Rollback ∷ Ending.Rollback ∷ []) ∷ []
endings_of_scopes = refl

-- an empty scope has no transaction
pub endings_without_a_transaction :
    ending Kind.Empty false false bare ∷ ending Kind.Empty true false bare ∷ ending Kind.Empty false true bare ∷ []
    ≡ Ending.Commit ∷ Ending.Rollback ∷ Ending.Rollback ∷ []
endings_without_a_transaction = refl

-- ---- completions

-- what a fresh scope and an empty one that suspended give back: connection 9, and a registration of t
abbrev older : Context
older = record {
  tx = Some (record { connection = 9; transaction = 9; read_only = false; mark = true });
  syncs = Some (record { label = t; order = last_of_all } ∷ []);
}

abbrev older_of : Kind → Option Context
older_of Kind.Fresh = Some older
older_of Kind.Empty = Some older
older_of _ = None

abbrev owner : Kind → Bool
owner Kind.Fresh = true
owner Kind.Empty = true
owner _ = false

abbrev scope_of : Kind → Scope
scope_of kind = record { method = m; kind = kind; owns = owner kind; older = older_of kind; outer = None }

-- a registration of s; an empty scope has no transaction
abbrev inner_syncs : Option (List Registration)
inner_syncs = Some (record { label = s; order = last_of_all } ∷ [])

abbrev inner_of : Kind → Bool → Context
inner_of Kind.Empty marked = record { tx = None; syncs = inner_syncs }
inner_of kind marked = with_transaction marked inner_syncs

abbrev is_unexpected : Ending → Bool
is_unexpected Ending.Unexpected = true
is_unexpected _ = false

-- no callback holds a call
abbrev no_calls : Calls
no_calls way m st = Breaks st

-- the state before a completion; the transaction is marked where the ending is unexpected
abbrev before : Kind → Ending → List Line → State
before kind ending lines = record {
  lines = [];
  context = inner_of kind (is_unexpected ending);
  local = Some false;
  pool = filter_map pool_note lines;
  store = filter_map store_note lines;
}

-- a completion over the notes that these lines tell
abbrev completed : Kind → Ending → List Line → Result
completed kind ending lines =
    completes (record (plainly []) { syncs = sync last_of_all ∷ sync last_of_all ∷ [] }) no_calls (scope_of kind) ending None (before kind ending lines)

-- it says exactly these lines, leaves with this or nothing, and this is the context then
unfoldable pub Completes : Kind → Ending → List Line → Option ClassNo → Context → Type 0
unfolding completes acts told callback callback_statement stopping_round swallowing_round completion ask
Completes kind ending lines thrown context =
    completed kind ending lines ≡ Over thrown (record { lines = lines; context = context; local = None; pool = []; store = [] })

pub a_fresh_scope_commits : Completes Kind.Fresh Ending.Commit (
    before_commit s ∷ before_completion s ∷ commit 1 1 ∷ after_commit s ∷ after_completion_committed s ∷ give 1 ∷ bind 9 ∷ resume t ∷ leave m ∷ [])
    None older
unfolding Completes
a_fresh_scope_commits = refl

pub a_fresh_scope_rolls_back : Completes Kind.Fresh Ending.Rollback (
    before_completion s ∷ rollback 1 ∷ after_completion_rolled_back s ∷ give 1 ∷ bind 9 ∷ resume t ∷ leave m ∷ [])
    None older
unfolding Completes
a_fresh_scope_rolls_back = refl

pub a_fresh_scope_ends_unexpectedly : Completes Kind.Fresh Ending.Unexpected (
    before_completion s ∷ rollback 1 ∷ after_completion_rolled_back s ∷ throw UNEXPECTED_ROLLBACK_EXCEPTION ∷ give 1 ∷ bind 9 ∷ resume t
    ∷ leave_throws m UNEXPECTED_ROLLBACK_EXCEPTION ∷ [])
    (Some UNEXPECTED_ROLLBACK_EXCEPTION) older
unfolding Completes
a_fresh_scope_ends_unexpectedly = refl

pub a_joined_scope_commits_nothing : Completes Kind.Join Ending.Commit (leave m ∷ []) None (with_transaction false inner_syncs)
unfolding Completes
a_joined_scope_commits_nothing = refl

pub a_joined_scope_marks_where_it_rolls_back :
    Completes Kind.Join Ending.Rollback (mark_global ∷ leave m ∷ []) None (with_transaction true inner_syncs)
unfolding Completes
a_joined_scope_marks_where_it_rolls_back = refl

pub a_joined_scope_marks_where_it_ends_unexpectedly :
    Completes Kind.Join Ending.Unexpected (mark_global ∷ leave m ∷ []) None (with_transaction true inner_syncs)
unfolding Completes
a_joined_scope_marks_where_it_ends_unexpectedly = refl

pub a_point_releases : Completes Kind.Point Ending.Commit (release 1 ∷ leave m ∷ []) None (with_transaction false inner_syncs)
unfolding Completes
a_point_releases = refl

pub a_point_goes_back : Completes Kind.Point Ending.Rollback (back_to 1 ∷ release 1 ∷ leave m ∷ []) None (with_transaction false inner_syncs)
unfolding Completes
a_point_goes_back = refl

pub a_point_that_goes_back_unexpectedly_clears_the_mark : Completes Kind.Point Ending.Unexpected (
    back_to 1 ∷ release 1 ∷ throw UNEXPECTED_ROLLBACK_EXCEPTION ∷ leave_throws m UNEXPECTED_ROLLBACK_EXCEPTION ∷ [])
    (Some UNEXPECTED_ROLLBACK_EXCEPTION) (with_transaction false inner_syncs)
unfolding Completes
a_point_that_goes_back_unexpectedly_clears_the_mark = refl

pub an_empty_scope_tells_a_commit : Completes Kind.Empty Ending.Commit (
    before_commit s ∷ before_completion s ∷ after_commit s ∷ after_completion_committed s ∷ bind 9 ∷ resume t ∷ leave m ∷ [])
    None older
unfolding Completes
an_empty_scope_tells_a_commit = refl

pub an_empty_scope_tells_a_rollback : Completes Kind.Empty Ending.Rollback (
    before_completion s ∷ after_completion_rolled_back s ∷ bind 9 ∷ resume t ∷ leave m ∷ [])
    None older
unfolding Completes
an_empty_scope_tells_a_rollback = refl

-- ---- listeners

-- with fallback and without, and one with a lower order value
abbrev three_listeners : Scenario
three_listeners = record (plainly []) {
  listeners = listener Phase.AfterCommit true [] ∷ listener Phase.AfterCommit false []
      ∷ record (listener Phase.BeforeCommit true []) { order = pos 1 } ∷ [];
}

pub in_a_transaction_with_synchronisation_each_is_registered :
    deeds three_listeners e true true ≡ Register (listener_no 2) ∷ Register (listener_no 0) ∷ Register (listener_no 1) ∷ []
unfolding deeds
in_a_transaction_with_synchronisation_each_is_registered = refl

pub without_either_those_with_fallback_run_at_once :
    deeds three_listeners e true false ∷ deeds three_listeners e false true ∷ deeds three_listeners e false false ∷ []
    ≡ (RunNow (listener_no 2) ∷ RunNow (listener_no 0) ∷ Skip (listener_no 1) ∷ [])
    ∷ (RunNow (listener_no 2) ∷ RunNow (listener_no 0) ∷ Skip (listener_no 1) ∷ [])
    ∷ (RunNow (listener_no 2) ∷ RunNow (listener_no 0) ∷ Skip (listener_no 1) ∷ []) ∷ []
unfolding deeds
without_either_those_with_fallback_run_at_once = refl

pub listeners_of_another_event_are_not_dealt_with : deeds three_listeners (record { 0 = 1 }) true true ≡ []
unfolding deeds
listeners_of_another_event_are_not_dealt_with = refl

-- before_commit; before_completion; after_commit; after_completion of a commit; after_completion of a rollback
abbrev rounds_of : Phase → List Bool
rounds_of phase = runs_in phase Round.BeforeCommit true ∷ runs_in phase Round.BeforeCompletion true ∷ runs_in phase Round.AfterCommit true
    ∷ runs_in phase Round.AfterCompletion true ∷ runs_in phase Round.AfterCompletion false ∷ []

pub each_phase_has_its_round :
    map rounds_of (Phase.BeforeCommit ∷ Phase.AfterCommit ∷ Phase.AfterRollback ∷ Phase.AfterCompletion ∷ [])
    ≡ (true ∷ false ∷ false ∷ false ∷ false ∷ [])
    ∷ (false ∷ false ∷ false ∷ true ∷ false ∷ [])
    ∷ (false ∷ false ∷ false ∷ false ∷ true ∷ [])
    ∷ (false ∷ false ∷ false ∷ true ∷ true ∷ []) ∷ []
each_phase_has_its_round = refl
