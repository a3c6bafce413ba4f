-- Each piece of a script breaks only at a note that doesn't answer, where what it calls is of lower rank: what a scope
-- takes for granted at its end, its transaction and its registrations, is there still.
use Rattle.std.proofs.Common.{◌≡◌, ◌≢◌, ◌+◌, ◌<◌, ◌≤◌, ◌==◌, ◌∷◌, [], Bool, true, false, ℤ, ◌+ℤ◌, List, Option, Some, None, refl, sym, ap, ◌∙◌, subst, arith, eq-eqb, eqb-true}
use Rattle.std.specs.Prelude.{⊤, ℕ, zero, suc, int_lt, slice_get}
use Rattle.std.specs.List.{AllByRecursion}
use Rattle.std.specs.Option.{is_some}
use Rattle.std.proofs.lemmas.Bool.{false≢true}
use Rattle.stx_scenario.specs.declared.numbers.ClassNo.{ClassNo}
use Rattle.stx_scenario.specs.declared.numbers.MethodNo.{MethodNo}
use Rattle.stx_scenario.specs.declared.numbers.ListenerNo.{ListenerNo}
use Rattle.stx_scenario.specs.declared.numbers.RowNo.{RowNo}
use Rattle.stx_scenario.specs.declared.classes.TheConstants.{ILLEGAL_STATE_EXCEPTION, ARITHMETIC_EXCEPTION, CANNOT_ACQUIRE_LOCK_EXCEPTION, CANNOT_GET_JDBC_CONNECTION_EXCEPTION, UNEXPECTED_ROLLBACK_EXCEPTION}
use Rattle.stx_scenario.specs.declared.scenario.Scenario.{Scenario}
use Rattle.stx_scenario.specs.declared.scenario.Listener.{Listener}
use Rattle.stx_scenario.specs.declared.scenario.Stmt.{Stmt}
use Rattle.stx_scenario.specs.declared.scenario.TxAttr.{TxAttr}
use Rattle.stx_base.specs.declared.manager.Action.{Action}
use Rattle.stx_base.specs.declared.call.Want.{Want}
use Rattle.stx_base.specs.declared.history.Access.{Access}
use Rattle.stx_base.specs.declared.history.Answer.{Answer}
use Rattle.stx_base.specs.declared.line.Line.{Line}
use Rattle.stx_base.specs.declared.line.Label.{Label}
use Rattle.stx_base.specs.declared.manager.Kind.{Kind}
use Rattle.stx_base.specs.declared.manager.Opening.{Opening}
use Rattle.stx_base.specs.declared.manager.Ending.{Ending}
use Rattle.stx_base.specs.declared.manager.Round.{Round}
use Rattle.stx_base.specs.Attributes.{attribute}
use Rattle.stx_base.specs.Weight.{body_of, rank}
use Rattle.stx_model.specs.Contexts.{Context, Live, Registration, is_active, is_live, marked_globally, ordered, ordered_labels, registered, with_global_mark, without_syncs}
use Rattle.stx_model.specs.Opening.{opening}
use Rattle.stx_model.specs.Ending.{ending, has_before_commit, completion, completion_after}
use Rattle.stx_model.specs.Listeners.{Deed, Register, RunNow, Skip, deeds, runs_in}
use Rattle.stx_base.specs.Notes.{is_answer}
use Rattle.stx_base.specs.declared.history.Note.{Note}
use Rattle.stx_model.specs.Meanings.{State, Over, Meaning, finally, say, with_context, with_local, ask, on_take, on_begin, on_access, and_then}
use Rattle.stx_model.specs.Statements.{throws, concludes, catches, caught, RowAccess, unless_busy, access_row, nothing_more, value_of, is_value, needed, added, on_row, in_transaction, on_connection, connected, row_statement, marks, registers, register_listener}
use Rattle.stx_model.specs.Rounds.{Calls, Way, Proxied, Direct, sync_body, callback_line, swallows, round_of, callback_statement, callback, listens, listens_in, called_back, told, stopping_round, swallowing_round, last_round}
use Rattle.stx_model.specs.Scopes.{say_each, say_bind, suspend, resume, resumed, suspended, older_if, Scope, leaves, live_in, later_or, started_syncs, fresh_context, rolls, ruled, is_set, acts, completes, ends, in_scope, within, begins, empty, opens, intercepted}
use Rattle.stx_model.specs.Script.{deals, statement, body, unscoped, proxied, invoked, calls_below, invoke, tops}
use Rattle.stx_model.specs.Below.{listener_body, CallbackBelow, CallbacksBelow, LabelBelow, RegisteredBelow, DeedBelow, StatementBelow, StatementsBelow, MethodsBelow, Callable}
use Rattle.stx_model.proofs.Callable.{label_raise, registered_raise, all_append, by_order_all}
use Rattle.stx_model.proofs.SteadyPieces.{fresh_scope, in_fresh}
use Rattle.stx_model.proofs.Breaks.{EndsWell, Brings, finally_ends, and_then_ends, either_ends, live_in_ends, ask_brings, on_take_brings, on_begin_brings, on_access_brings, on_auto_brings}
use Rattle.stx_model.proofs.Openings.{opening_tells}

-- ---- pieces that leave the context as it is

-- a statement on a row
abbrev IsOnRow : Stmt → Type 0
IsOnRow (Stmt.Read k) = ⊤
IsOnRow (Stmt.Write k v) = ⊤
IsOnRow (Stmt.Erase k) = ⊤
IsOnRow (Stmt.Need k n) = ⊤
IsOnRow (Stmt.Add k n) = ⊤
IsOnRow _ = ⊥

module _ (kind : Context → Type 0) where
  throws_keep : (x : ClassNo) → Brings kind kind (throws x)
  throws_keep x st fits = fits

  concludes_keep : (x : Option ClassNo) → Brings kind kind (concludes x)
  concludes_keep None st fits = fits
  concludes_keep (Some x) st fits = fits

  caught_keep : (S : Scenario) (catch x : Option ClassNo) → Brings kind kind (caught S catch x)
  caught_keep S catch None st fits = fits
  caught_keep S catch (Some x) st fits = either_ends kind (catches S catch x) (Over None (say (Line.Catch x) st)) (Over (Some x) st) (λ _. fits) (λ _. fits)

  -- an access at these, whatever is done with its answer
  abbrev Carries : RowAccess → Type 0
  Carries at = (a : Access) (next : Answer → Meaning) → ((r : Answer) → Brings kind kind (next r)) → (n : Note) → is_answer (at.want a) n ≡ true
      → Brings kind kind (on_access next n)

  module _ (at : RowAccess) (carries : Carries at) (ends_keep : (x : Option ClassNo) → Brings kind kind (at.ends x)) where
    unless_busy_keeps : (next : Answer → Meaning) → ((r : Answer) → Brings kind kind (next r))
        → (r : Answer) → Brings kind kind (unless_busy at next r)
    unless_busy_keeps next keeps (Answer.Busy t) = ends_keep (Some CANNOT_ACQUIRE_LOCK_EXCEPTION)
    unless_busy_keeps next keeps (Answer.Found v) = keeps (Answer.Found v)
    unless_busy_keeps next keeps Answer.Absent = keeps Answer.Absent
    unless_busy_keeps next keeps Answer.Done = keeps Answer.Done

    access_keeps : (a : Access) (next : Answer → Meaning) → ((r : Answer) → Brings kind kind (next r)) → Brings kind kind (access_row at a next)
    access_keeps a next keeps =
        ask_brings kind kind (at.want a) (on_access (unless_busy at next)) (carries a (unless_busy at next) (unless_busy_keeps next keeps))

    needed_keeps : (n : ℤ) (r : Answer) → Brings kind kind (needed at n r)
    needed_keeps n r st fits =
        either_ends kind (int_lt (value_of r) n) (at.ends (Some ILLEGAL_STATE_EXCEPTION) st) (at.ends None st)
        (λ _. ends_keep (Some ILLEGAL_STATE_EXCEPTION) st fits) (λ _. ends_keep None st fits)

    added_keeps : (k : RowNo) (n : ℤ) (r : Answer) → Brings kind kind (added at k n r)
    added_keeps k n r st fits =
        let write = Access.Write k (value_of r +ℤ n) in
        either_ends kind (is_value (value_of r +ℤ n)) (access_row at write (nothing_more at) st) (at.ends (Some ARITHMETIC_EXCEPTION) st)
        (λ _. access_keeps write (nothing_more at) (λ r. ends_keep None) st fits) (λ _. ends_keep (Some ARITHMETIC_EXCEPTION) st fits)

    on_row_keeps : (s : Stmt) → IsOnRow s → Brings kind kind (on_row at s)
    on_row_keeps (Stmt.Read k) is = access_keeps (Access.Read k) (nothing_more at) (λ r. ends_keep None)
    on_row_keeps (Stmt.Write k v) is = access_keeps (Access.Write k v) (nothing_more at) (λ r. ends_keep None)
    on_row_keeps (Stmt.Erase k) is = access_keeps (Access.Erase k) (nothing_more at) (λ r. ends_keep None)
    on_row_keeps (Stmt.Need k n) is = access_keeps (Access.Read k) (needed at n) (needed_keeps n)
    on_row_keeps (Stmt.Add k n) is = access_keeps (Access.Read k) (added at k n) (added_keeps k n)
    on_row_keeps s is = absurd is

  connected_keeps : (s : Stmt) → IsOnRow s → (c : Option ℕ) → Brings kind kind (connected s c)
  connected_keeps s is (Some c) =
      on_row_keeps (on_connection c) (λ a next keeps. on_auto_brings kind kind next keeps a)
      (λ x. ask_brings kind kind (Want.Give c) (λ _. concludes x) (λ n is. concludes_keep x)) s is
  connected_keeps s is None = throws_keep CANNOT_GET_JDBC_CONNECTION_EXCEPTION

  row_keeps : (live : Option Live) (s : Stmt) → IsOnRow s → Brings kind kind (row_statement live s)
  row_keeps (Some live) s is =
      on_row_keeps (in_transaction live.transaction) (λ a next keeps. on_access_brings kind kind next keeps live.transaction a) concludes_keep s is
  row_keeps None s is =
      ask_brings kind kind Want.Take (on_take (connected s)) (on_take_brings kind kind (connected s) (connected_keeps s is))

-- ---- contexts

-- a transaction is live or not, and the registrations call only methods below a rank
abbrev pub At : Scenario → ℕ → Bool → Context → Type 0
At S j live context = (is_live context ≡ live) × RegisteredBelow S j (registered context.syncs)

marked_live : (mark : Bool) (tx : Option Live) → is_some (marked_globally mark tx) ≡ is_some tx
marked_live mark (Some live) = refl
marked_live mark None = refl

-- a mark changes nothing here
at_marked : (S : Scenario) (j : ℕ) (live mark : Bool) (context : Context) → At S j live context → At S j live (with_global_mark mark context)
at_marked S j live mark context fits = (marked_live mark context.tx ∙ fits.0, fits.1)

said_each_context : (line : Label → Line) (labels : List Label) (st : State) → (say_each line labels st).context ≡ st.context
said_each_context line [] st = refl
said_each_context line (l ∷ ls) st = said_each_context line ls (say (line l) st)

bind_context : (tx : Option Live) (st : State) → (say_bind tx st).context ≡ st.context
bind_context (Some live) st = refl
bind_context None st = refl

-- a scope that suspended what there was begins with no registration
none_started : (S : Scenario) (k : ℕ) (owns : Bool) → RegisteredBelow S k (registered (started_syncs owns None))
none_started S k true = tt
none_started S k false = tt

-- what is resumed is there again
pub resume_context : (older : Context) (st : State) → (resume older st).context ≡ older
resume_context older st =
    said_each_context Line.Resume (ordered_labels older.syncs) (say_bind older.tx (with_context older st)) ∙ bind_context older.tx (with_context older st)

swallows_context : (x : Option ClassNo) (st : State) → (swallows x st).context ≡ st.context
swallows_context (Some x) st = refl
swallows_context None st = refl

-- ---- scopes

-- whether a transaction is live after the resumption
abbrev live_again : Option Context → Bool → Bool
live_again (Some older) live = is_live older
live_again None live = live

abbrev OlderBelow : Scenario → ℕ → Option Context → Type 0
OlderBelow S j (Some older) = RegisteredBelow S j (registered older.syncs)
OlderBelow S j None = ⊤

-- a scope inside which registrations call below the rank i, and outside it below j; one that owns them has none of others
record Spans (S : Scenario) (k i j : ℕ) (scope : Scope) : Type 0 where
  inside : k ≤ i
  outside : i ≤ j
  own : scope.owns ≡ true → i ≡ k
  older : OlderBelow S j scope.older

-- these actions, from where a transaction is live or not to where one is or not: calls on the store need one, and what
-- was suspended is resumed last
abbrev Ready : Option Context → Bool → Bool → List Action → Type 0
Ready older live out [] = live ≡ out
Ready older live out (Action.Resumption ∷ []) = live_again older live ≡ out
Ready older live out (Action.Resumption ∷ a ∷ rest) = ⊥
Ready older live out (Action.CommitStore ∷ rest) = (live ≡ true) × Ready older live out rest
Ready older live out (Action.RollbackStore ∷ rest) = (live ≡ true) × Ready older live out rest
Ready older live out (Action.BackToPoint ∷ rest) = (live ≡ true) × Ready older live out rest
Ready older live out (Action.ReleasePoint ∷ rest) = (live ≡ true) × Ready older live out rest
Ready older live out (Action.GiveBack ∷ rest) = (live ≡ true) × Ready older live out rest
Ready older live out (a ∷ rest) = Ready older live out rest

-- a scope of this kind, likewise
abbrev Opens : Kind → Option Context → Bool → Bool → Type 0
Opens Kind.Fresh older live out = (live ≡ true) × (live_again older live ≡ out)
Opens Kind.Join older live out = live ≡ out
Opens Kind.Point older live out = (live ≡ true) × (live ≡ out)
Opens Kind.Empty older live out = live_again older live ≡ out

-- an empty scope never ends unexpectedly
abbrev pub Happens : Kind → Ending → Type 0
Happens Kind.Empty Ending.Unexpected = ⊥
Happens _ _ = ⊤

pub happens : (kind : Kind) (rolls local : Bool) (context : Context) → Happens kind (ending kind rolls local context)
happens Kind.Fresh rolls local context = tt
happens Kind.Join rolls local context = tt
happens Kind.Point rolls local context = tt
happens Kind.Empty true local context = tt
happens Kind.Empty false true context = tt
happens Kind.Empty false false context = tt

completion_ready : (kind : Kind) (e : Ending) (older : Option Context) (live out : Bool) → Happens kind e → Opens kind older live out
    → Ready older live out (completion kind e)
unfolding completion
completion_ready Kind.Fresh Ending.Commit older live out may opens = (opens.0, (opens.0, opens.1))
completion_ready Kind.Fresh Ending.Rollback older live out may opens = (opens.0, (opens.0, opens.1))
completion_ready Kind.Fresh Ending.Unexpected older live out may opens = (opens.0, (opens.0, opens.1))
completion_ready Kind.Join Ending.Commit older live out may opens = opens
completion_ready Kind.Join Ending.Rollback older live out may opens = opens
completion_ready Kind.Join Ending.Unexpected older live out may opens = opens
completion_ready Kind.Point Ending.Commit older live out may opens = opens
completion_ready Kind.Point Ending.Rollback older live out may opens = (opens.0, opens)
completion_ready Kind.Point Ending.Unexpected older live out may opens = (opens.0, opens)
completion_ready Kind.Empty Ending.Commit older live out may opens = opens
completion_ready Kind.Empty Ending.Rollback older live out may opens = opens
completion_ready Kind.Empty Ending.Unexpected older live out may opens = absurd may

-- also where a callback of the before_commit round threw
after_ready : (kind : Kind) (e : Ending) (y : Option ClassNo) (older : Option Context) (live out : Bool)
    → has_before_commit kind e ≡ true → Happens kind e
    → Opens kind older live out → Ready older live out (completion_after kind e y)
after_ready kind e None older live out has may opens = completion_ready kind e older live out may opens
after_ready Kind.Fresh Ending.Commit (Some x) older live out has may opens = completion_ready Kind.Fresh Ending.Rollback older live out tt opens
after_ready Kind.Empty Ending.Commit (Some x) older live out has may opens = completion_ready Kind.Empty Ending.Rollback older live out tt opens
after_ready kind e (Some x) older live out has may opens = absurd (false≢true has)

-- ---- openings

-- only in a live transaction a savepoint is made
abbrev MayOpen : Bool → Opening → Type 0
MayOpen live Opening.Point = live ≡ true
MayOpen live _ = ⊤

opening_may : (S : Scenario) (a : TxAttr) (context : Context) → MayOpen (is_live context) (opening S.settings a context)
opening_may S a context = by (opening S.settings a context) refl
  where
    by : (o : Opening) → opening S.settings a context ≡ o → MayOpen (is_live context) o
    by Opening.Point is = ap is_some (opening_tells S.settings a context Opening.Point is).1
    by o is = tt

-- ---- given that calls of lower rank break only so

-- a call within a rank: whatever registrations of that rank or a higher one there are, it leaves such
abbrev pub IsSound : Scenario → ℕ → Meaning → Type 0
IsSound S k meaning = (j : ℕ) (live : Bool) → k ≤ j → Brings (At S j live) (At S j live) meaning

abbrev pub AreSound : Scenario → ℕ → Calls → Type 0
AreSound S k calls = (way : Way) (m : MethodNo) → rank S m < k → IsSound S k (calls way m)

marks_sound : (S : Scenario) (k : ℕ) (local : Option Bool) → IsSound S k (marks local)
marks_sound S k (Some local) j live le st fits = fits
marks_sound S k None j live le st fits = fits

registers_sound : (S : Scenario) (k : ℕ) (r : Registration) → LabelBelow S k r.label → IsSound S k (λ st. registers r st.context.syncs st)
registers_sound S k r below j live le st fits = by_syncs st.context.syncs fits.1
  where
    by_syncs : (syncs : Option (List Registration)) → RegisteredBelow S j (registered syncs) → EndsWell (At S j live) (registers r syncs st)
    by_syncs (Some list) all = (fits.0, all_append (λ r. LabelBelow S j r.label) list (r ∷ []) all (label_raise S k j le r.label below, tt))
    by_syncs None all = fits

module _ (S : Scenario) (calls : Calls) (k : ℕ) (calls_sound : AreSound S k calls) where
  -- a piece, and what comes after it
  both_sound : (first rest : Meaning) → IsSound S k first → IsSound S k rest → IsSound S k (λ st. and_then (first st) rest)
  both_sound first rest sound later j live le st fits = and_then_ends (At S j live) (first st) rest (sound j live le st fits) (later j live le)

  -- ---- callbacks and rounds

  callback_statement_sound : (s : Stmt) → CallbackBelow S k s → IsSound S k (callback_statement S calls s)
  unfolding callback_statement
  callback_statement_sound (Stmt.Throw x) below j live le st fits = fits
  callback_statement_sound (Stmt.Call m catch) below j live le st fits =
      finally_ends (At S j live) (At S j live) (calls Proxied m st) (caught S catch) (calls_sound Proxied m below j live le st fits)
      (caught_keep (At S j live) S catch)
  callback_statement_sound (Stmt.This m catch) below j live le st fits = absurd below
  callback_statement_sound Stmt.Mark below j live le st fits = absurd below
  callback_statement_sound (Stmt.Register s) below j live le st fits = absurd below
  callback_statement_sound (Stmt.Publish e) below j live le st fits = absurd below
  callback_statement_sound s below j live le st fits = row_keeps (At S j live) st.context.tx s tt st fits

  callback_sound : (body : List Stmt) → CallbacksBelow S k body → IsSound S k (callback S calls body)
  unfolding callback
  callback_sound [] below = λ j live le st fits. fits
  callback_sound (s ∷ later) below = both_sound (callback_statement S calls s) (callback S calls later) (callback_statement_sound s below.0) (callback_sound later below.1)

  listens_sound : (l : ListenerNo) (listener : Option Listener) → CallbacksBelow S k (listener_body listener) → IsSound S k (listens S calls l listener)
  listens_sound l (Some listener) below j live le st fits = callback_sound listener.body below j live le (say (Line.Listen l) st) fits
  listens_sound l None below j live le st fits = fits

  listens_in_sound : (round : Round) (committed : Bool) (l : ListenerNo) (listener : Option Listener) → CallbacksBelow S k (listener_body listener)
      → IsSound S k (listens_in S calls round committed l listener)
  listens_in_sound round committed l (Some listener) below j live le st fits =
      either_ends (At S j live) (runs_in listener.phase round committed) (listens S calls l (Some listener) st) (Over None st)
      (λ _. listens_sound l (Some listener) below j live le st fits) (λ _. fits)
  listens_in_sound round committed l None below j live le st fits = fits

  called_back_sound : (round : Round) (committed : Bool) (label : Label) → LabelBelow S k label → IsSound S k (called_back S calls round committed label)
  called_back_sound round committed (Label.Sync s) below = callback_sound (sync_body round (slice_get S.syncs s.0)) (below round)
  called_back_sound round committed (Label.Listener l) below = listens_in_sound round committed l (slice_get S.listeners l.0) below

  told_sound : (round : Round) (committed : Bool) (r : Registration) → LabelBelow S k r.label → IsSound S k (told S calls round committed r)
  unfolding told
  told_sound round committed r below j live le st fits =
      called_back_sound round committed r.label below j live le (say (callback_line round committed r.label) st) fits

  stopping_sound : (round : Round) (rs : List Registration) → RegisteredBelow S k rs → IsSound S k (stopping_round S calls round rs)
  unfolding stopping_round
  stopping_sound round [] below j live le st fits = fits
  stopping_sound round (r ∷ later) below j live le st fits =
      and_then_ends (At S j live) (told S calls round true r st) (stopping_round S calls round later)
      (told_sound round true r below.0 j live le st fits) (stopping_sound round later below.1 j live le)

  swallowing_sound : (round : Round) (committed : Bool) (rs : List Registration) → RegisteredBelow S k rs
      → IsSound S k (swallowing_round S calls round committed rs)
  unfolding swallowing_round
  swallowing_sound round committed [] below j live le st fits = fits
  swallowing_sound round committed (r ∷ later) below j live le st fits =
      finally_ends (At S j live) (At S j live) (told S calls round committed r st)
      (λ x after. swallowing_round S calls round committed later (swallows x after))
      (told_sound round committed r below.0 j live le st fits)
      (λ x after still. swallowing_sound round committed later below.1 j live le (swallows x after)
      (subst (At S j live) (sym (swallows_context x after)) still))

  -- a scope that owns the registrations has only such as call below its rank
  round_of_ends : (i : ℕ) (live owns : Bool) (round : List Registration → Meaning) → k ≤ i → (owns ≡ true → i ≡ k)
      → ((rs : List Registration) → RegisteredBelow S k rs → IsSound S k (round rs)) → Brings (At S i live) (At S i live) (round_of owns round)
  round_of_ends i live owns round le own sound st fits =
      let rs = ordered (registered st.context.syncs) in
      let below = by_order_all (λ r. LabelBelow S i r.label) (λ r. r.order) (registered st.context.syncs) fits.1 in
      either_ends (At S i live) owns (round rs st) (Over None st)
      (λ is. sound rs (subst (λ n. RegisteredBelow S n rs) (own is) below) i live le st fits) (λ _. fits)

  last_round_ends : (i : ℕ) (live owns committed : Bool) → k ≤ i → (owns ≡ true → i ≡ k)
      → Brings (At S i live) (At S i live) (last_round S calls owns committed)
  last_round_ends i live owns committed le own st fits =
      let rs = ordered (registered st.context.syncs) in
      let below = by_order_all (λ r. LabelBelow S i r.label) (λ r. r.order) (registered st.context.syncs) fits.1 in
      let after = with_context (without_syncs st.context) st in
      either_ends (At S i live) owns (swallowing_round S calls Round.AfterCompletion committed rs after) (Over None st)
      (λ is. swallowing_sound Round.AfterCompletion committed rs (subst (λ n. RegisteredBelow S n rs) (own is) below) i live le after (fits.0, tt))
      (λ _. fits)

  -- ---- completion

  leaves_keep : (kind : Context → Type 0) (m : MethodNo) (x : Option ClassNo) → Brings kind kind (leaves m x)
  leaves_keep kind m x st fits = fits

  module _ (scope : Scope) (i j : ℕ) (live out : Bool) (spans : Spans S k i j scope) where
    -- with the live transaction, a call on the pool or the store
    calls_out : (st : State) (w : Live → Want) (next : Note → Meaning) → live ≡ true → At S i live st.context
        → ((n : Note) → Brings (At S i live) (At S j out) (next n)) → EndsWell (At S j out) (live_in st.context.tx (λ tx. ask (w tx) next) st)
    calls_out st w next is fits brings =
        live_in_ends (At S j out) st.context.tx (λ tx. ask (w tx) next) st (fits.0 ∙ is)
        (λ tx. ask_brings (At S i live) (At S j out) (w tx) next (λ n _. brings n) st fits)

    acts_end : (actions : List Action) (x : Option ClassNo) → Ready scope.older live out actions
        → Brings (At S i live) (At S j out) (acts S calls scope actions x)
    unfolding acts
    acts_end [] x ready st fits = (fits.0 ∙ ready, registered_raise S i j spans.outside (registered st.context.syncs) fits.1)
    acts_end (Action.RoundBeforeCompletion ∷ rest) x ready st fits =
        let round = swallowing_round S calls Round.BeforeCompletion false in
        finally_ends (At S i live) (At S j out) (round_of scope.owns round st) (λ _. acts S calls scope rest x)
        (round_of_ends i live scope.owns round spans.inside spans.own (swallowing_sound Round.BeforeCompletion false) st fits) (λ _. acts_end rest x ready)
    acts_end (Action.RoundAfterCommit ∷ rest) x ready st fits =
        let round = stopping_round S calls Round.AfterCommit in
        finally_ends (At S i live) (At S j out) (round_of scope.owns round st) (λ y. acts S calls scope rest (later_or y x))
        (round_of_ends i live scope.owns round spans.inside spans.own (stopping_sound Round.AfterCommit) st fits) (λ y. acts_end rest (later_or y x) ready)
    acts_end (Action.RoundAfterCompletion committed ∷ rest) x ready st fits =
        finally_ends (At S i live) (At S j out) (last_round S calls scope.owns committed st) (λ _. acts S calls scope rest x)
        (last_round_ends i live scope.owns committed spans.inside spans.own st fits) (λ _. acts_end rest x ready)
    acts_end (Action.CommitStore ∷ rest) x ready st fits =
        calls_out st (λ tx. Want.Commit tx.transaction) (λ _. acts S calls scope rest x) ready.0 fits (λ _. acts_end rest x ready.1)
    acts_end (Action.RollbackStore ∷ rest) x ready st fits =
        calls_out st (λ tx. Want.Rollback tx.transaction) (λ _. acts S calls scope rest x) ready.0 fits (λ _. acts_end rest x ready.1)
    acts_end (Action.BackToPoint ∷ rest) x ready st fits =
        calls_out st (λ tx. Want.BackTo tx.transaction) (λ _ back. acts S calls scope rest x
        (with_context (with_global_mark false back.context) back)) ready.0 fits
        (λ _ back still. acts_end rest x ready.1 (with_context (with_global_mark false back.context) back) (at_marked S i live false back.context still))
    acts_end (Action.ReleasePoint ∷ rest) x ready st fits =
        calls_out st (λ tx. Want.Release tx.transaction) (λ _. acts S calls scope rest x) ready.0 fits (λ _. acts_end rest x ready.1)
    acts_end (Action.MarkGlobally ∷ rest) x ready st fits =
        acts_end rest x ready (say Line.MarkGlobal (with_context (with_global_mark true st.context) st)) (at_marked S i live true st.context fits)
    acts_end (Action.ThrowUnexpected ∷ rest) x ready st fits =
        acts_end rest (Some UNEXPECTED_ROLLBACK_EXCEPTION) ready (say (Line.Throw UNEXPECTED_ROLLBACK_EXCEPTION) st) fits
    acts_end (Action.GiveBack ∷ rest) x ready st fits =
        calls_out st (λ tx. Want.Give tx.connection) (λ _. acts S calls scope rest x) ready.0 fits (λ _. acts_end rest x ready.1)
    acts_end (Action.Resumption ∷ []) x ready st fits = by_older scope.older spans.older ready
      where
        by_older : (older : Option Context) → OlderBelow S j older → live_again older live ≡ out → At S j out (resumed older st).context
        by_older (Some older) below is = subst (At S j out) (sym (resume_context older st)) (is, below)
        by_older None below is = (fits.0 ∙ is, registered_raise S i j spans.outside (registered st.context.syncs) fits.1)
    acts_end (Action.Resumption ∷ a ∷ rest) x ready st fits = absurd ready

    completes_end : (e : Ending) (x : Option ClassNo) → Happens scope.kind e → Opens scope.kind scope.older live out
        → Brings (At S i live) (At S j out) (completes S calls scope e x)
    unfolding completes
    completes_end e x may opens st fits =
        let round = stopping_round S calls Round.BeforeCommit in
        either_ends (At S j out) (has_before_commit scope.kind e)
        (finally (round_of scope.owns round st) (λ y. acts S calls scope (completion_after scope.kind e y) (later_or y x)))
        (acts S calls scope (completion scope.kind e) x st)
        (λ has. finally_ends (At S i live) (At S j out) (round_of scope.owns round st)
        (λ y. acts S calls scope (completion_after scope.kind e y) (later_or y x))
        (round_of_ends i live scope.owns round spans.inside spans.own (stopping_sound Round.BeforeCommit) st fits)
        (λ y. acts_end (completion_after scope.kind e y) (later_or y x) (after_ready scope.kind e y scope.older live out has may opens)))
        (λ _. acts_end (completion scope.kind e) x (completion_ready scope.kind e scope.older live out may opens) st fits)

    ends_end : (a : TxAttr) (x : Option ClassNo) → Opens scope.kind scope.older live out → Brings (At S i live) (At S j out) (ends S calls scope a x)
    unfolding ends
    ends_end a None opens st fits =
        let e = ending scope.kind false (is_set st.local) st.context in
        completes_end e None (happens scope.kind false (is_set st.local) st.context) opens (say (Line.End e) st) fits
    ends_end a (Some x) opens st fits =
        let rolled = rolls S a.rules (Some x) in
        let e = ending scope.kind rolled (is_set st.local) st.context in
        completes_end e (Some x) (happens scope.kind rolled (is_set st.local) st.context) opens (say (Line.End e) (ruled S a.rules (Some x) st)) fits

    in_scope_ends : (a : TxAttr) (run : Meaning) → IsSound S k run → Opens scope.kind scope.older live out
        → Brings (At S i live) (At S j out) (in_scope S calls scope a run)
    unfolding in_scope
    in_scope_ends a run sound opens st fits =
        let open_state = with_local (Some false) (say (Line.Opened scope.kind scope.owns) st) in
        finally_ends (At S i live) (At S j out) (run open_state) (ends S calls scope a)
        (sound i live spans.inside open_state fits) (λ x. ends_end a x opens)

  -- ---- intercepted calls

  module _ (m : MethodNo) (a : TxAttr) (run : Meaning) (sound : IsSound S k run) (j : ℕ) (live : Bool) (le : k ≤ j) where
    -- a joined scope, or a point
    within_ends : (kind : Kind) → Opens kind None live live → Brings (At S j live) (At S j live) (within S calls m kind a run)
    within_ends kind opens st fits =
        in_scope_ends (record { method = m; kind = kind; owns = false; older = None; outer = st.local }) j j live live
        (record { inside = le; outside = omega arith; own = λ is. absurd (false≢true is); older = tt }) a run sound opens st fits

    begins_end : (owns : Bool) (older : Context) → At S j live older → (c : Option ℕ)
        → Brings (λ _. ⊤) (At S j live) (begins S calls m a run owns older c)
    unfolding begins
    begins_end owns older was (Some c) =
        let next = in_fresh S calls m a run owns older c in
        ask_brings (λ _. ⊤) (At S j live) Want.Begin (on_begin next) (on_begin_brings (λ _. ⊤) (At S j live) next (λ t begun _.
        in_scope_ends (fresh_scope m owns older begun) k j true live
        (record { inside = omega arith; outside = le; own = λ _. refl; older = was.1 }) a run sound (refl, was.0)
        (with_context (fresh_context c t a.read_only owns) begun) (refl, none_started S k owns)))
    begins_end owns older was None = λ st any. subst (At S j live) (sym (resume_context older st)) was

    empty_ends : (suspends owns : Bool) (st : State) → At S j live st.context
        → EndsWell (At S j live) (empty S calls m a run owns (older_if suspends st.context) (suspended suspends st))
    empty_ends true owns st fits =
        in_scope_ends (record { method = m; kind = Kind.Empty; owns = owns; older = Some st.context; outer = (suspend st).local }) k j false live
        (record { inside = omega arith; outside = le; own = λ _. refl; older = fits.1 }) a run sound fits.0
        (with_context (record { tx = None; syncs = started_syncs owns None }) (suspend st)) (refl, none_started S k owns)
    empty_ends false true st fits =
        in_scope_ends (record { method = m; kind = Kind.Empty; owns = true; older = None; outer = st.local }) k j live live
        (record { inside = omega arith; outside = le; own = λ _. refl; older = tt }) a run sound refl
        (with_context (record { tx = st.context.tx; syncs = Some [] }) st) (fits.0, tt)
    empty_ends false false st fits =
        in_scope_ends (record { method = m; kind = Kind.Empty; owns = false; older = None; outer = st.local }) j j live live
        (record { inside = le; outside = omega arith; own = λ is. absurd (false≢true is); older = tt }) a run sound refl st fits

    opens_end : (o : Opening) (st : State) → MayOpen live o → At S j live st.context → EndsWell (At S j live) (opens S calls m a run o st)
    unfolding opens
    opens_end (Opening.Refuse x) st may fits = fits
    opens_end (Opening.Fresh suspends owns) st may fits =
        let next = begins S calls m a run owns st.context in
        ask_brings (λ _. ⊤) (At S j live) Want.Take (on_take next)
        (on_take_brings (λ _. ⊤) (At S j live) next (begins_end owns st.context fits)) (suspended suspends st) tt
    opens_end Opening.Join st may fits = within_ends Kind.Join refl st fits
    opens_end Opening.Point st may fits =
        live_in_ends (At S j live) st.context.tx (λ tx. ask (Want.Point tx.transaction) (λ _. within S calls m Kind.Point a run)) st (fits.0 ∙ may)
        (λ tx. ask_brings (At S j live) (At S j live) (Want.Point tx.transaction) (λ _. within S calls m Kind.Point a run)
        (λ _ _. within_ends Kind.Point (may, refl)) st fits)
    opens_end (Opening.Empty suspends owns) st may fits = empty_ends suspends owns st fits

    intercepted_ends : Brings (At S j live) (At S j live) (intercepted S calls m a run)
    unfolding intercepted
    intercepted_ends st fits =
        opens_end (opening S.settings a st.context) (say (Line.Call m a.propagation a.read_only) st)
        (subst (λ live. MayOpen live (opening S.settings a st.context)) fits.0 (opening_may S a st.context)) fits

  -- ---- bodies

  deals_sound : (ds : List Deed) → AllByRecursion (DeedBelow S k) ds → IsSound S k (deals S calls ds)
  unfolding deals
  deals_sound [] below = λ j live le st fits. fits
  deals_sound (Register l ∷ later) below = both_sound (register_listener S l) (deals S calls later) (registers_sound S k _ below.0) (deals_sound later below.1)
  deals_sound (RunNow l ∷ later) below =
      let listener = slice_get S.listeners l.0 in
      both_sound (listens S calls l listener) (deals S calls later) (listens_sound l listener below.0) (deals_sound later below.1)
  deals_sound (Skip l ∷ later) below = λ j live le st fits. deals_sound later below.1 j live le (say (Line.Skip l) st) fits

  statement_sound : (s : Stmt) → StatementBelow S k s → IsSound S k (statement S calls s)
  unfolding statement
  statement_sound Stmt.Mark below j live le st fits = marks_sound S k st.local j live le st fits
  statement_sound (Stmt.Register s) below j live le st fits = registers_sound S k _ below j live le st fits
  statement_sound (Stmt.Publish e) below j live le st fits =
      let ds = deeds S e (is_active st.context) (is_live st.context) in
      deals_sound ds (below (is_active st.context) (is_live st.context)) j live le (say (Line.Publish e) st) fits
  statement_sound (Stmt.This m catch) below j live le st fits =
      finally_ends (At S j live) (At S j live) (calls Direct m st) (caught S catch) (calls_sound Direct m below j live le st fits)
      (caught_keep (At S j live) S catch)
  statement_sound s below j live le st fits = callback_statement_sound s below j live le st fits

  body_sound : (statements : List Stmt) → StatementsBelow S k statements → IsSound S k (body S calls statements)
  unfolding body
  body_sound [] below = λ j live le st fits. fits
  body_sound (s ∷ statements) below = both_sound (statement S calls s) (body S calls statements) (statement_sound s below.0) (body_sound statements below.1)

  -- ---- calls

  unscoped_sound : (line : Line) (m : MethodNo) → StatementsBelow S k (body_of S m) → IsSound S k (unscoped S calls line m)
  unscoped_sound line m below j live le st fits =
      finally_ends (At S j live) (At S j live) (body S calls (body_of S m) (say line st)) (leaves m)
      (body_sound (body_of S m) below j live le (say line st) fits) (leaves_keep (At S j live) m)

  proxied_sound : (m : MethodNo) (a : Option TxAttr) → StatementsBelow S k (body_of S m) → IsSound S k (proxied S calls m a)
  proxied_sound m (Some a) below j live le = intercepted_ends m a (body S calls (body_of S m)) (body_sound (body_of S m) below) j live le
  proxied_sound m None below j live le = unscoped_sound (Line.Plain m) m below j live le

  pub invoked_sound : (way : Way) (m : MethodNo) → StatementsBelow S k (body_of S m) → IsSound S k (invoked S calls way m)
  unfolding invoked
  invoked_sound Proxied m below = proxied_sound m (attribute S m) below
  invoked_sound Direct m below = unscoped_sound (Line.This m) m below

-- ---- the whole

module _ (S : Scenario) (callable : Callable S) where
  pub calls_below_sound : (bound : ℕ) → AreSound S bound (calls_below S bound)
  unfolding calls_below
  calls_below_sound zero way m less j live le st fits = absurd (omega (arith, less))
  calls_below_sound (suc bound) way m less j live le st fits =
      either_ends (At S j live) (rank S m == bound) (invoked S (calls_below S bound) way m st) (calls_below S bound way m st)
      (λ is. invoked_sound S (calls_below S bound) bound (calls_below_sound bound) way m
      (subst (λ k. StatementsBelow S k (body_of S m)) (eqb-true (rank S m) bound is) (callable.methods m)) j live (omega (arith, le)) st fits)
      (λ other. calls_below_sound bound way m (below_bound other) j live (omega (arith, le)) st fits)
    where
      below_bound : (rank S m == bound) ≡ false → rank S m < bound
      below_bound other =
          let differs : rank S m ≢ bound = λ is. false≢true (sym other ∙ eq-eqb (rank S m) bound is) in omega (arith, less, differs)

  pub tops_end : (k : ℕ) (calls : List MethodNo) → MethodsBelow S 65 calls → Brings (At S 65 false) (λ _. ⊤) (tops S k calls)
  unfolding tops
  tops_end k [] below st fits = tt
  tops_end k (m ∷ calls) below st fits =
      finally_ends (At S 65 false) (λ _. ⊤) (invoke S m (say (Line.Top k) st)) (λ _. tops S (k + 1) calls)
      (calls_below_sound 65 Proxied m below.0 65 false (omega arith) (say (Line.Top k) st) fits) (λ _. tops_end (k + 1) calls below.1)
