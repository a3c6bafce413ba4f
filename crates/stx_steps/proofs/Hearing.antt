-- What the innermost piece does with the note that it was waiting for.
use Rattle.std.proofs.Common.{◌≡◌, ℕ, ◌++◌, ◌∷◌, [], Bool, true, false, List, Option, Some, None, refl, sym, ap, ◌∙◌, subst}
use Rattle.std.specs.Prelude.{IsSome}
use Rattle.std.proofs.lemmas.Bool.{false≢true}
use Rattle.stx_scenario.specs.declared.classes.TheConstants.{CANNOT_GET_JDBC_CONNECTION_EXCEPTION}
use Rattle.stx_scenario.specs.declared.numbers.ClassNo.{ClassNo}
use Rattle.stx_scenario.specs.declared.numbers.MethodNo.{MethodNo}
use Rattle.stx_scenario.specs.declared.scenario.Scenario.{Scenario}
use Rattle.stx_base.specs.declared.call.Want.{Want}
use Rattle.stx_base.specs.declared.history.Access.{Access}
use Rattle.stx_base.specs.declared.history.Answer.{Answer}
use Rattle.stx_base.specs.declared.history.Note.{Note}
use Rattle.stx_base.specs.declared.history.PoolNote.{PoolNote}
use Rattle.stx_base.specs.declared.history.StoreNote.{StoreNote}
use Rattle.stx_base.specs.declared.line.Line.{Line}
use Rattle.stx_base.specs.declared.manager.Action.{Action}
use Rattle.stx_base.specs.Notes.{is_answer, pool_answers, pool_line, store_answers, store_line}
use Rattle.stx_model.specs.Contexts.{Context, with_global_mark}
use Rattle.stx_model.specs.Meanings.{State, Meaning, ask, hear, on_access, on_begin, on_take, unread, with_context, with_local}
use Rattle.stx_model.specs.Rounds.{Calls}
use Rattle.stx_model.specs.Scopes.{Scope, acts, begins, leaves, resumed}
use Rattle.stx_model.specs.Statements.{concludes, throws, unless_busy}
use Rattle.stx_model.proofs.Steady.{asked}
use Rattle.stx_context.specs.Carrying.{context_of}
use Rattle.stx_frames.specs.declared.frame.Frame.{Frame}
use Rattle.stx_machine.specs.declared.interception.Interception.{Interception}
use Rattle.stx_machine.specs.declared.machine.Machine.{Machine}
use Rattle.stx_machine.specs.declared.stage.Bound.{Bound}
use Rattle.stx_machine.specs.declared.stage.Place.{Place}
use Rattle.stx_machine.specs.declared.stage.Stage.{Stage}
use Rattle.stx_machine.specs.declared.stage.Then.{Then}
use Rattle.stx_machine.specs.declared.tokens.Tokens.{Tokens}
use Rattle.stx_machine.specs.Machine.{Call, Comes, Innermost, accesses, begun, completes, context_at, does, inside, of_call, of_top, piece, pointed, rest_of, row_access, row_answered, run, scope_of, stack, state_before, state_with, thrown_of, want_of, onward}
use Rattle.stx_machine.specs.Sound.{CallCompletes, GivesLast, IsSound, Standing, StageFits, brought, held_out, is_resumption, standing_of}
use Rattle.stx_machine.proofs.Stacks.{each_innermost, mapped_some}
use Rattle.stx_machine.proofs.Standings.{resumption_is}
use Rattle.stx_steps.specs.Steps.{HearsPool, HearsStore, before_line, finds_none, starts, starts_on, starts_pointed}

module _ (lines : List Line) (local : Option Bool) (pool : List PoolNote) (store : List StoreNote) where
  at : Context → State
  at context = record { lines = lines; context = context; local = local; pool = pool; store = store }

  either_resumes : (scope : Scope) (older : Option Context) (x : Option ClassNo) (one other : Context) → IsSome older
      → leaves scope.method x (with_local scope.outer (resumed older (at one))) ≡ leaves scope.method x (with_local scope.outer (resumed older (at other)))
  unfolding at
  either_resumes scope (Some older) x one other is = refl
  either_resumes scope None x one other is = cc

  -- what was carried until then doesn't matter to a resumption
  last_resumes : (S : Scenario) (calls : Calls) (scope : Scope) (rest : List Action) (x : Option ClassNo) (one other : Context) → is_resumption rest ≡ true → IsSome scope.older
      → acts S calls scope rest x (at one) ≡ acts S calls scope rest x (at other)
  unfolding acts
  last_resumes S calls scope rest x one other is older =
      let only = resumption_is rest is in
      ap (λ r. acts S calls scope r x (at one)) only ∙ either_resumes scope scope.older x one other older ∙ ap (λ r. acts S calls scope r x (at other)) (sym only)

  last_completes : (S : Scenario) (fs : List Call) (one other : Context) → GivesLast fs → of_top S fs Stage.Completing (at one) ≡ of_top S fs Stage.Completing (at other)
  last_completes S fs one other =
      each_innermost _ (λ fs. of_top S fs Stage.Completing (at one) ≡ of_top S fs Stage.Completing (at other))
      (λ m place catch i fs last. last_resumes S (inside S m) (scope_of m i) (rest_of i.phase) (thrown_of i.phase) one other last.0 (mapped_some i.scope.suspended last.1)) fs

-- ---- the innermost call asks

module _ (S : Scenario) (w : Want) (note : Note) (st : State) (here : unread w st ≡ Some note) (suits : is_answer w note ≡ true) (stage : Stage) where
  -- the call asks for the note, and goes on with it
  goes_on_with : (next : MethodNo → Interception → Note → Meaning) (later : List Call → Meaning)
      → ((m : MethodNo) (i : Interception) → of_call S m i stage st ≡ ask w (next m i) st)
      → ((m : MethodNo) (place : ℕ) (catch : Option ClassNo) (i : Interception) (fs : List Call)
      → next m i note (hear note st) ≡ later (Frame.Body m place catch (Some i) ∷ fs) (hear note st))
      → (Asks : MethodNo → ℕ → Option ClassNo → Interception → List Call → Type 0) (fs : List Call) → Innermost Asks fs → of_top S fs stage st ≡ later fs (hear note st)
  goes_on_with next later asks same Asks =
      each_innermost Asks (λ fs. of_top S fs stage st ≡ later fs (hear note st)) (λ m place catch i fs is. asks m i ∙ asked w (next m i) st note true here suits ∙ same m place catch i fs)

  -- with its completion
  completes_on : ((m : MethodNo) (i : Interception) → of_call S m i stage st ≡ ask w (λ _. completes S m i (rest_of i.phase)) st)
      → (standing : Standing) (fs : List Call) → CallCompletes S standing fs → of_top S fs stage st ≡ of_top S fs Stage.Completing (hear note st)
  completes_on asks standing fs completing =
      goes_on_with (λ m i _. completes S m i (rest_of i.phase)) (λ fs. of_top S fs Stage.Completing) asks (λ m place catch i fs. refl) _ fs completing

-- ---- a note whose line was said

-- these lines were said
abbrev pub with_lines : List Line → State → State
with_lines lines st = record { lines = lines; context = st.context; local = st.local; pool = st.pool; store = st.store }

-- before the note was read, and its line said
abbrev pub unread_at : Machine → Stage → List Line → List PoolNote → List StoreNote → State
unread_at m stage lines pool store = with_lines lines (state_with m (context_at stage m.context) pool store)

abbrev pub read_at : Machine → List Line → Line → List PoolNote → List StoreNote → State
read_at m lines line pool store = with_lines (lines ++ line ∷ []) (state_before m pool store)

-- what is left at this stage, with this note of the pool to come, is this once it is read; likewise with a note of the store
pub record PoolHeard (S : Scenario) (m : Machine) (stage : Stage) (note : PoolNote) (meaning : Meaning) : Type 0 where
  pub goes : StageFits S stage m.context (stack m.frames) → pool_answers (want_of stage) note ≡ true → (lines : List Line) (pool : List PoolNote) (store : List StoreNote)
      → piece S (stack m.frames) stage (unread_at m stage lines (note ∷ pool) store) ≡ meaning (read_at m lines (pool_line note) pool store)

pub record StoreHeard (S : Scenario) (m : Machine) (stage : Stage) (note : StoreNote) (meaning : Meaning) : Type 0 where
  pub goes : StageFits S stage m.context (stack m.frames) → store_answers (want_of stage) note ≡ true → (lines : List Line) (pool : List PoolNote) (store : List StoreNote)
      → piece S (stack m.frames) stage (unread_at m stage lines pool (note ∷ store)) ≡ meaning (read_at m lines (store_line note) pool store)

module _ {S : Scenario} {m : Machine} {tokens : Tokens} {stage : Stage} (after : Machine) (sound : IsSound S m tokens) (at : m.stage ≡ stage) where
  fits : StageFits S stage m.context (stack m.frames)
  fits = subst (λ s. StageFits S s m.context (stack m.frames)) at sound.stage

  pub hears_pool : {note heard : PoolNote} {meaning : Meaning} → note ≡ heard → pool_answers (want_of m.stage) note ≡ true
      → PoolHeard S m stage heard meaning → Comes S m meaning after → HearsPool S note m after
  hears_pool {note} {heard} {meaning} same answers hears comes n lines pool store line =
      (λ k. run S n (record (before_line m lines) { stage = at k }) (same k ∷ pool) store)
      ∙ ap (onward S n m) (hears.goes fits ((λ k. pool_answers (want_of (sym at k)) (sym same k)) ∙ answers) lines pool store)
      ∙ ap (λ said. onward S n m (meaning (with_lines said (state_before m pool store)))) (ap (λ p. lines ++ pool_line p ∷ []) (sym same) ∙ sym line)
      ∙ comes n pool store

  pub hears_store : {note heard : StoreNote} {meaning : Meaning} → note ≡ heard → store_answers (want_of m.stage) note ≡ true
      → StoreHeard S m stage heard meaning → Comes S m meaning after → HearsStore S note m after
  hears_store {note} {heard} {meaning} same answers hears comes n lines pool store line =
      (λ k. run S n (record (before_line m lines) { stage = at k }) pool (same k ∷ store))
      ∙ ap (onward S n m) (hears.goes fits ((λ k. store_answers (want_of (sym at k)) (sym same k)) ∙ answers) lines pool store)
      ∙ ap (λ said. onward S n m (meaning (with_lines said (state_before m pool store)))) (ap (λ p. lines ++ store_line p ∷ []) (sym same) ∙ sym line)
      ∙ comes n pool store

-- the machine was sound at this stage, with what this note brought
pub sound_at : {S : Scenario} {m : Machine} {stage : Stage} {note heard : Note} → m.stage ≡ stage → note ≡ heard
    → IsSound S m (brought note (held_out m.stage)) → IsSound S (record m { stage = stage }) (brought heard (held_out stage))
sound_at {S} {m} {stage} {note} {heard} at same sound =
    subst (λ p. IsSound S (record m { stage = stage }) (brought p (held_out stage))) same
    (subst (λ s. IsSound S (record m { stage = s }) (brought note (held_out s))) at sound)

-- ---- each note

module _ {S : Scenario} {m : Machine} where
  pub heard_access : (place : Place) (a : Access) (d : Then) (u : ℕ) (b : Access) (r : Answer) → StoreHeard S m (Stage.Accessing place a d) (StoreNote.Access u b r) (row_answered place d r)
  heard_access (Place.Transaction t) a d u b r = record {
    goes = λ fits suits lines pool store.
        asked (Want.Access t a) (on_access (unless_busy (row_access (Place.Transaction t)) (does (row_access (Place.Transaction t)) d)))
        (unread_at m (Stage.Accessing (Place.Transaction t) a d) lines pool (StoreNote.Access u b r ∷ store)) (Note.Store (StoreNote.Access u b r)) true refl suits;
  }
  heard_access (Place.Connection c) a d u b r = record { goes = λ fits suits lines pool store. absurd (false≢true suits) }

  pub heard_auto : (place : Place) (a : Access) (d : Then) (b : Access) (r : Answer) → StoreHeard S m (Stage.Accessing place a d) (StoreNote.Auto b r) (row_answered place d r)
  heard_auto (Place.Connection c) a d b r = record {
    goes = λ fits suits lines pool store.
        asked (Want.Auto a) (on_access (unless_busy (row_access (Place.Connection c)) (does (row_access (Place.Connection c)) d)))
        (unread_at m (Stage.Accessing (Place.Connection c) a d) lines pool (StoreNote.Auto b r ∷ store)) (Note.Store (StoreNote.Auto b r)) true refl suits;
  }
  heard_auto (Place.Transaction t) a d b r = record { goes = λ fits suits lines pool store. absurd (false≢true suits) }

  pub heard_begin : (c t : ℕ) → StoreHeard S m (Stage.Beginning c) (StoreNote.Begin t) (starts S (stack m.frames) c t)
  unfolding begins
  heard_begin c t = record {
    goes = λ fits suits lines pool store.
        goes_on_with S Want.Begin (Note.Store (StoreNote.Begin t)) (unread_at m (Stage.Beginning c) lines pool (StoreNote.Begin t ∷ store)) refl refl (Stage.Beginning c)
        (λ n i. on_begin (starts_on S n i c)) (λ fs. starts S fs c t) (λ n i. refl) (λ n place catch i fs. refl) _ (stack m.frames) fits.1;
  }

  pub heard_commit : (t u k : ℕ) → StoreHeard S m (Stage.Committing t) (StoreNote.Commit u k) (of_top S (stack m.frames) Stage.Completing)
  heard_commit t u k = record {
    goes = λ fits suits lines pool store.
        completes_on S (Want.Commit t) (Note.Store (StoreNote.Commit u k)) (unread_at m (Stage.Committing t) lines pool (StoreNote.Commit u k ∷ store)) refl suits
        (Stage.Committing t) (λ n i. refl) (standing_of m.context) (stack m.frames) fits;
  }

  pub heard_rollback : (t u : ℕ) → StoreHeard S m (Stage.RollingBack t) (StoreNote.Rollback u) (of_top S (stack m.frames) Stage.Completing)
  heard_rollback t u = record {
    goes = λ fits suits lines pool store.
        completes_on S (Want.Rollback t) (Note.Store (StoreNote.Rollback u)) (unread_at m (Stage.RollingBack t) lines pool (StoreNote.Rollback u ∷ store)) refl suits
        (Stage.RollingBack t) (λ n i. refl) (standing_of m.context) (stack m.frames) fits;
  }

  pub heard_release : (t u : ℕ) → StoreHeard S m (Stage.Releasing t) (StoreNote.Release u) (of_top S (stack m.frames) Stage.Completing)
  heard_release t u = record {
    goes = λ fits suits lines pool store.
        completes_on S (Want.Release t) (Note.Store (StoreNote.Release u)) (unread_at m (Stage.Releasing t) lines pool (StoreNote.Release u ∷ store)) refl suits
        (Stage.Releasing t) (λ n i. refl) (standing_of m.context) (stack m.frames) fits;
  }

  -- the mark is taken back
  pub heard_return : (t u : ℕ) → StoreHeard S m (Stage.GoingBack t) (StoreNote.BackTo u) (λ st. of_top S (stack m.frames) Stage.Completing (with_context (with_global_mark false st.context) st))
  heard_return t u = record {
    goes = λ fits suits lines pool store.
        goes_on_with S (Want.BackTo t) (Note.Store (StoreNote.BackTo u)) (unread_at m (Stage.GoingBack t) lines pool (StoreNote.BackTo u ∷ store)) refl suits (Stage.GoingBack t)
        (λ n i _ back. completes S n i (rest_of i.phase) (with_context (with_global_mark false back.context) back))
        (λ fs st. of_top S fs Stage.Completing (with_context (with_global_mark false st.context) st)) (λ n i. refl) (λ n place catch i fs. refl) _
        (stack m.frames) fits;
  }

  pub heard_point : (t u : ℕ) → StoreHeard S m (Stage.Pointing t) (StoreNote.Point u) (starts_pointed S (stack m.frames))
  heard_point t u = record {
    goes = λ fits suits lines pool store.
        goes_on_with S (Want.Point t) (Note.Store (StoreNote.Point u)) (unread_at m (Stage.Pointing t) lines pool (StoreNote.Point u ∷ store)) refl suits (Stage.Pointing t)
        (λ n i _. pointed S n) (starts_pointed S) (λ n i. refl) (λ n place catch i fs. refl) _ (stack m.frames) fits;
  }

  pub heard_taken : (c : ℕ) → PoolHeard S m Stage.Taking (PoolNote.Taken c) (of_top S (stack m.frames) (Stage.Beginning c))
  heard_taken c = record {
    goes = λ fits suits lines pool store.
        goes_on_with S Want.Take (Note.Pool (PoolNote.Taken c)) (unread_at m Stage.Taking lines (PoolNote.Taken c ∷ pool) store) refl refl Stage.Taking
        (λ n i. on_take (begun S n i)) (λ fs. of_top S fs (Stage.Beginning c)) (λ n i. refl) (λ n place catch i fs. refl) _ (stack m.frames) fits.1;
  }

  pub heard_empty : PoolHeard S m Stage.Taking PoolNote.Empty (finds_none S (stack m.frames))
  heard_empty = record {
    goes = λ fits suits lines pool store.
        goes_on_with S Want.Take (Note.Pool PoolNote.Empty) (unread_at m Stage.Taking lines (PoolNote.Empty ∷ pool) store) refl refl Stage.Taking (λ n i. on_take (begun S n i)) (finds_none S)
        (λ n i. refl) (λ n place catch i fs. refl) _ (stack m.frames) fits.1;
  }

  pub heard_connection : (a : Access) (d : Then) (c : ℕ) → PoolHeard S m (Stage.Connecting a d) (PoolNote.Taken c) (accesses (Place.Connection c) a d)
  unfolding ask
  heard_connection a d c = record { goes = λ fits suits lines pool store. refl }

  pub heard_no_connection : (a : Access) (d : Then) → PoolHeard S m (Stage.Connecting a d) PoolNote.Empty (throws CANNOT_GET_JDBC_CONNECTION_EXCEPTION)
  unfolding ask
  heard_no_connection a d = record { goes = λ fits suits lines pool store. refl }

  pub heard_given : (c d : ℕ) (x : Option ClassNo) → PoolHeard S m (Stage.Returning c x) (PoolNote.Given d) (concludes x)
  heard_given c d x = record {
    goes = λ fits suits lines pool store.
        asked (Want.Give c) (λ _. concludes x) (unread_at m (Stage.Returning c x) lines (PoolNote.Given d ∷ pool) store) (Note.Pool (PoolNote.Given d)) true refl suits;
  }

  -- the connection was given back: whatever is carried until what was suspended is resumed
  pub heard_back : (bound : Bound) (d : ℕ) → PoolHeard S m (Stage.GivingBack bound) (PoolNote.Given d) (of_top S (stack m.frames) Stage.Completing)
  unfolding at
  heard_back bound d = record {
    goes = λ fits suits lines pool store.
        completes_on S (Want.Give bound.connection) (Note.Pool (PoolNote.Given d)) (unread_at m (Stage.GivingBack bound) lines (PoolNote.Given d ∷ pool) store) refl suits
        (Stage.GivingBack bound) (λ n i. refl) (standing_of m.context) (stack m.frames) fits.0
        ∙ last_completes (lines ++ Line.Give d ∷ []) m.local pool store S (stack m.frames) (context_at (Stage.GivingBack bound) m.context) (context_of m.context) fits.1;
  }
