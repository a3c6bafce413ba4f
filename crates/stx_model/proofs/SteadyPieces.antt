-- Each piece of a script is steady where the calls are, and so is the whole.
use Rattle.std.proofs.Common.{◌+◌, ◌==◌, ◌∷◌, [], Bool, true, false, ℤ, ◌+ℤ◌, List, Option, Some, None, inr, refl, ap, ◌∙◌}
use Rattle.std.specs.Prelude.{ℕ, zero, suc, int_lt, slice_get}
use Rattle.stx_scenario.specs.declared.numbers.ClassNo.{ClassNo}
use Rattle.stx_scenario.specs.declared.numbers.MethodNo.{MethodNo}
use Rattle.stx_scenario.specs.declared.numbers.ListenerNo.{ListenerNo}
use Rattle.stx_scenario.specs.declared.numbers.RowNo.{RowNo}
use Rattle.stx_scenario.specs.declared.classes.TheConstants.{ILLEGAL_STATE_EXCEPTION, ARITHMETIC_EXCEPTION, CANNOT_ACQUIRE_LOCK_EXCEPTION, CANNOT_CREATE_TRANSACTION_EXCEPTION, CANNOT_GET_JDBC_CONNECTION_EXCEPTION, NO_TRANSACTION_EXCEPTION, UNEXPECTED_ROLLBACK_EXCEPTION}
use Rattle.stx_scenario.specs.declared.scenario.Scenario.{Scenario}
use Rattle.stx_scenario.specs.declared.scenario.Listener.{Listener}
use Rattle.stx_scenario.specs.declared.scenario.Rule.{Rule}
use Rattle.stx_scenario.specs.declared.scenario.Stmt.{Stmt}
use Rattle.stx_scenario.specs.declared.scenario.TxAttr.{TxAttr}
use Rattle.stx_base.specs.declared.manager.Action.{Action}
use Rattle.stx_base.specs.declared.call.Want.{Want}
use Rattle.stx_base.specs.declared.history.Access.{Access}
use Rattle.stx_base.specs.declared.history.Answer.{Answer}
use Rattle.stx_base.specs.declared.line.Line.{Line}
use Rattle.stx_base.specs.declared.line.Label.{Label}
use Rattle.stx_base.specs.declared.manager.Kind.{Kind}
use Rattle.stx_base.specs.declared.manager.Opening.{Opening}
use Rattle.stx_base.specs.declared.manager.Ending.{Ending}
use Rattle.stx_base.specs.declared.manager.Round.{Round}
use Rattle.stx_base.specs.Attributes.{attribute}
use Rattle.stx_base.specs.Weight.{body_of, rank}
use Rattle.stx_model.specs.Contexts.{Context, Live, Registration, bare, is_active, is_live, ordered, ordered_labels, registered, with_global_mark, with_registration, without_syncs}
use Rattle.stx_model.specs.Opening.{opening}
use Rattle.stx_model.specs.Ending.{ending, has_before_commit, completion, completion_after}
use Rattle.stx_model.specs.Listeners.{Deed, Register, RunNow, Skip, deeds, runs_in}
use Rattle.stx_base.specs.declared.history.Note.{Note}
use Rattle.stx_model.specs.Meanings.{State, Over, Stops, Meaning, finally, say, with_context, with_local, ask, on_take, on_begin, on_access}
use Rattle.stx_model.specs.Statements.{throws, concludes, catches, caught, RowAccess, unless_busy, access_row, nothing_more, value_of, is_value, needed, added, on_row, in_transaction, on_connection, connected, row_statement, marks, registers, register_listener}
use Rattle.stx_model.specs.Rounds.{Calls, Way, Proxied, Direct, sync_body, callback_line, swallows, round_of, callback_statement, callback, listens, listens_in, called_back, told, stopping_round, swallowing_round, last_round}
use Rattle.stx_model.specs.Scopes.{say_each, say_unbind, say_bind, suspend, resume, resumed, suspended, older_if, Scope, leaves, live_in, later_or, started_syncs, fresh_context, rolls, ruled, is_set, acts, completes, ends, in_scope, within, begins, empty, opens, intercepted}
use Rattle.stx_model.specs.Script.{deals, statement, body, unscoped, proxied, invoked, calls_below, invoke, tops}
use Rattle.stx_model.proofs.Steady.{no_later, later_yet, said_later, IsSteady, over_steady, breaks_steady, either_steady, say_steady, IsChange, after_change, finally_steady, and_then_steady, ask_steady, on_take_steady, on_begin_steady, on_access_steady}

-- ---- throws

pub throws_steady : (x : ClassNo) → IsSteady (throws x)
throws_steady x = say_steady (Line.Throw x) (Over (Some x)) (over_steady (Some x))

pub concludes_steady : (x : Option ClassNo) → IsSteady (concludes x)
concludes_steady None = over_steady None
concludes_steady (Some x) = throws_steady x

pub caught_steady : (S : Scenario) (catch x : Option ClassNo) → IsSteady (caught S catch x)
caught_steady S catch None = over_steady None
caught_steady S catch (Some x) =
    either_steady (catches S catch x) (λ st. Over None (say (Line.Catch x) st)) (Over (Some x))
    (say_steady (Line.Catch x) (Over None) (over_steady None)) (over_steady (Some x))

-- ---- rows

module _ (at : RowAccess) (ends_steady : (x : Option ClassNo) → IsSteady (at.ends x)) where
  unless_busy_steady : (next : Answer → Meaning) → ((r : Answer) → IsSteady (next r)) → (r : Answer) → IsSteady (unless_busy at next r)
  unless_busy_steady next steady (Answer.Busy t) = ends_steady (Some CANNOT_ACQUIRE_LOCK_EXCEPTION)
  unless_busy_steady next steady (Answer.Found v) = steady (Answer.Found v)
  unless_busy_steady next steady Answer.Absent = steady Answer.Absent
  unless_busy_steady next steady Answer.Done = steady Answer.Done

  pub access_steady : (a : Access) (next : Answer → Meaning) → ((r : Answer) → IsSteady (next r)) → IsSteady (access_row at a next)
  access_steady a next steady =
      ask_steady (at.want a) (on_access (unless_busy at next)) (on_access_steady (unless_busy at next) (unless_busy_steady next steady))

  pub needed_steady : (n : ℤ) (r : Answer) → IsSteady (needed at n r)
  needed_steady n r =
      either_steady (int_lt (value_of r) n) (at.ends (Some ILLEGAL_STATE_EXCEPTION)) (at.ends None) (ends_steady (Some ILLEGAL_STATE_EXCEPTION))
      (ends_steady None)

  pub added_steady : (k : RowNo) (n : ℤ) (r : Answer) → IsSteady (added at k n r)
  added_steady k n r =
      let write = Access.Write k (value_of r +ℤ n) in
      either_steady (is_value (value_of r +ℤ n)) (access_row at write (nothing_more at)) (at.ends (Some ARITHMETIC_EXCEPTION))
      (access_steady write (nothing_more at) (λ r. ends_steady None)) (ends_steady (Some ARITHMETIC_EXCEPTION))

  on_row_steady : (s : Stmt) → IsSteady (on_row at s)
  on_row_steady (Stmt.Read k) = access_steady (Access.Read k) (nothing_more at) (λ r. ends_steady None)
  on_row_steady (Stmt.Write k v) = access_steady (Access.Write k v) (nothing_more at) (λ r. ends_steady None)
  on_row_steady (Stmt.Erase k) = access_steady (Access.Erase k) (nothing_more at) (λ r. ends_steady None)
  on_row_steady (Stmt.Need k n) = access_steady (Access.Read k) (needed at n) (needed_steady n)
  on_row_steady (Stmt.Add k n) = access_steady (Access.Read k) (added at k n) (added_steady k n)
  on_row_steady s = breaks_steady

connected_steady : (s : Stmt) (c : Option ℕ) → IsSteady (connected s c)
connected_steady s (Some c) =
    on_row_steady (on_connection c) (λ x. ask_steady (Want.Give c) (λ _. concludes x) (λ n. concludes_steady x)) s
connected_steady s None = throws_steady CANNOT_GET_JDBC_CONNECTION_EXCEPTION

pub row_steady : (live : Option Live) (s : Stmt) → IsSteady (row_statement live s)
row_steady (Some live) s = on_row_steady (in_transaction live.transaction) concludes_steady s
row_steady None s = ask_steady Want.Take (on_take (connected s)) (on_take_steady (connected s) (connected_steady s))

-- ---- marks and registrations

pub marks_steady : (local : Option Bool) → IsSteady (marks local)
marks_steady (Some local) st = say_steady Line.Mark (Over None) (over_steady None) (with_local (Some true) st)
marks_steady None st = throws_steady NO_TRANSACTION_EXCEPTION st

pub registers_steady : (r : Registration) (syncs : Option (List Registration)) → IsSteady (registers r syncs)
registers_steady r (Some list) st = say_steady (Line.Register r.label) (Over None) (over_steady None) (with_context (with_registration r list st.context) st)
registers_steady r None st = throws_steady ILLEGAL_STATE_EXCEPTION st

-- ---- suspension and resumption

pub say_each_change : (line : Label → Line) (labels : List Label) → IsChange (say_each line labels)
say_each_change line [] = record { later = no_later; same = λ st p s. refl }
say_each_change line (l ∷ ls) =
    let rest = say_each_change line ls in
    record {
      later = λ st. later_yet (say_each line ls (say (line l) st)) (say (line l) st) st (rest.later (say (line l) st)) (said_later (line l) st);
      same = λ st p s. rest.same (say (line l) st) p s;
    }

unbind_change : (tx : Option Live) → IsChange (say_unbind tx)
unbind_change (Some live) = record { later = said_later (Line.Unbind live.connection); same = λ st p s. refl }
unbind_change None = record { later = no_later; same = λ st p s. refl }

pub bind_change : (tx : Option Live) → IsChange (say_bind tx)
bind_change (Some live) = record { later = said_later (Line.Bind live.connection); same = λ st p s. refl }
bind_change None = record { later = no_later; same = λ st p s. refl }

pub suspend_change : IsChange suspend
suspend_change = record {
  later = λ st.
      let told = say_each Line.Suspend (ordered_labels st.context.syncs) st in
      later_yet (say_unbind st.context.tx told) told st
      ((unbind_change st.context.tx).later told) ((say_each_change Line.Suspend (ordered_labels st.context.syncs)).later st);
  same = λ st p s.
      ap (λ u. with_context bare (say_unbind st.context.tx u)) ((say_each_change Line.Suspend (ordered_labels st.context.syncs)).same st p s)
      ∙ ap (with_context bare) ((unbind_change st.context.tx).same (say_each Line.Suspend (ordered_labels st.context.syncs) st) p s);
}

pub resume_change : (older : Context) → IsChange (resume older)
resume_change older = record {
  later = λ st.
      let bound = say_bind older.tx (with_context older st) in
      later_yet (resume older st) bound st
      ((say_each_change Line.Resume (ordered_labels older.syncs)).later bound) ((bind_change older.tx).later (with_context older st));
  same = λ st p s.
      ap (say_each Line.Resume (ordered_labels older.syncs)) ((bind_change older.tx).same (with_context older st) p s)
      ∙ (say_each_change Line.Resume (ordered_labels older.syncs)).same (say_bind older.tx (with_context older st)) p s;
}

pub resumed_change : (older : Option Context) → IsChange (resumed older)
resumed_change (Some older) = resume_change older
resumed_change None = record { later = no_later; same = λ st p s. refl }

pub suspended_change : (suspends : Bool) → IsChange (suspended suspends)
suspended_change true = suspend_change
suspended_change false = record { later = no_later; same = λ st p s. refl }

pub swallows_change : (x : Option ClassNo) → IsChange (swallows x)
swallows_change (Some x) = record { later = said_later (Line.Swallow x); same = λ st p s. refl }
swallows_change None = record { later = no_later; same = λ st p s. refl }

-- ---- given how methods are called

pub leaves_steady : (m : MethodNo) (x : Option ClassNo) → IsSteady (leaves m x)
leaves_steady m x = say_steady (Line.Leave m x) (Over x) (over_steady x)

live_in_steady : (tx : Option Live) (next : Live → Meaning) → ((live : Live) → IsSteady (next live)) → IsSteady (live_in tx next)
live_in_steady (Some live) next steady = steady live
live_in_steady None next steady = breaks_steady

ruled_steady : (S : Scenario) (rules : List Rule) (x : Option ClassNo) (meaning : Meaning) → IsSteady meaning
    → IsSteady (λ st. meaning (ruled S rules x st))
ruled_steady S rules None meaning steady = steady
ruled_steady S rules (Some x) meaning steady = say_steady _ meaning steady

abbrev pub AreSteady : Calls → Type 0
AreSteady calls = (way : Way) (m : MethodNo) → IsSteady (calls way m)

-- ---- fresh scopes

abbrev pub fresh_scope : MethodNo → Bool → Context → State → Scope
fresh_scope m owns older begun = record { method = m; kind = Kind.Fresh; owns = owns; older = Some older; outer = begun.local }

-- what follows on a begin
abbrev pub in_fresh : Scenario → Calls → MethodNo → TxAttr → Meaning → Bool → Context → ℕ → ℕ → Meaning
in_fresh S calls m a run owns older c t begun =
    in_scope S calls (fresh_scope m owns older begun) a run (with_context (fresh_context c t a.read_only owns) begun)

module _ (S : Scenario) (calls : Calls) (calls_steady : AreSteady calls) where
  -- ---- callbacks and rounds

  pub callback_statement_steady : (s : Stmt) → IsSteady (callback_statement S calls s)
  unfolding callback_statement
  callback_statement_steady (Stmt.Throw x) st = throws_steady x st
  callback_statement_steady (Stmt.Call m catch) st =
      finally_steady (calls Proxied m) (caught S catch) (calls_steady Proxied m) (caught_steady S catch) st
  callback_statement_steady (Stmt.This m catch) st = breaks_steady st
  callback_statement_steady Stmt.Mark st = breaks_steady st
  callback_statement_steady (Stmt.Register r) st = breaks_steady st
  callback_statement_steady (Stmt.Publish e) st = breaks_steady st
  callback_statement_steady s st = row_steady st.context.tx s st

  pub callback_steady : (body : List Stmt) → IsSteady (callback S calls body)
  unfolding callback
  callback_steady [] st = over_steady None st
  callback_steady (s ∷ later) st =
      and_then_steady (callback_statement S calls s) (callback S calls later) (callback_statement_steady s) (callback_steady later) st

  pub listens_steady : (l : ListenerNo) (listener : Option Listener) → IsSteady (listens S calls l listener)
  listens_steady l (Some listener) = say_steady (Line.Listen l) (callback S calls listener.body) (callback_steady listener.body)
  listens_steady l None = over_steady None

  listens_in_steady : (round : Round) (committed : Bool) (l : ListenerNo) (listener : Option Listener)
      → IsSteady (listens_in S calls round committed l listener)
  listens_in_steady round committed l (Some listener) =
      either_steady (runs_in listener.phase round committed) (listens S calls l (Some listener)) (Over None) (listens_steady l (Some listener))
      (over_steady None)
  listens_in_steady round committed l None = over_steady None

  pub called_back_steady : (round : Round) (committed : Bool) (label : Label) → IsSteady (called_back S calls round committed label)
  called_back_steady round committed (Label.Sync s) = callback_steady (sync_body round (slice_get S.syncs s.0))
  called_back_steady round committed (Label.Listener l) = listens_in_steady round committed l (slice_get S.listeners l.0)

  pub told_steady : (round : Round) (committed : Bool) (r : Registration) → IsSteady (told S calls round committed r)
  unfolding told
  told_steady round committed r =
      say_steady (callback_line round committed r.label) (called_back S calls round committed r.label) (called_back_steady round committed r.label)

  pub stopping_steady : (round : Round) (rs : List Registration) → IsSteady (stopping_round S calls round rs)
  unfolding stopping_round
  stopping_steady round [] st = over_steady None st
  stopping_steady round (r ∷ later) st =
      and_then_steady (told S calls round true r) (stopping_round S calls round later) (told_steady round true r) (stopping_steady round later) st

  pub swallowing_steady : (round : Round) (committed : Bool) (rs : List Registration) → IsSteady (swallowing_round S calls round committed rs)
  unfolding swallowing_round
  swallowing_steady round committed [] st = over_steady None st
  swallowing_steady round committed (r ∷ later) st =
      finally_steady (told S calls round committed r) (λ x after. swallowing_round S calls round committed later (swallows x after))
      (told_steady round committed r)
      (λ x. after_change (swallows x) (swallowing_round S calls round committed later) (swallows_change x) (swallowing_steady round committed later)) st

  round_of_steady : (owns : Bool) (round : List Registration → Meaning) → ((rs : List Registration) → IsSteady (round rs))
      → IsSteady (round_of owns round)
  round_of_steady owns round steady st =
      let rs = ordered (registered st.context.syncs) in either_steady owns (round rs) (Over None) (steady rs) (over_steady None) st

  last_round_steady : (owns committed : Bool) → IsSteady (last_round S calls owns committed)
  last_round_steady owns committed st =
      let round = swallowing_round S calls Round.AfterCompletion committed (ordered (registered st.context.syncs)) in
      let context = without_syncs st.context in
      either_steady owns (λ u. round (with_context context u)) (Over None)
      (λ u. swallowing_steady Round.AfterCompletion committed (ordered (registered st.context.syncs)) (with_context context u)) (over_steady None) st

  -- ---- completion

  pub acts_steady : (scope : Scope) (actions : List Action) (x : Option ClassNo) → IsSteady (acts S calls scope actions x)
  unfolding acts
  acts_steady scope [] x st = leaves_steady scope.method x (with_local scope.outer st)
  acts_steady scope (Action.RoundBeforeCompletion ∷ rest) x st =
      let round = swallowing_round S calls Round.BeforeCompletion false in
      finally_steady (round_of scope.owns round) (λ _. acts S calls scope rest x)
      (round_of_steady scope.owns round (swallowing_steady Round.BeforeCompletion false)) (λ _. acts_steady scope rest x) st
  acts_steady scope (Action.RoundAfterCommit ∷ rest) x st =
      let round = stopping_round S calls Round.AfterCommit in
      finally_steady (round_of scope.owns round) (λ y. acts S calls scope rest (later_or y x))
      (round_of_steady scope.owns round (stopping_steady Round.AfterCommit)) (λ y. acts_steady scope rest (later_or y x)) st
  acts_steady scope (Action.RoundAfterCompletion committed ∷ rest) x st =
      finally_steady (last_round S calls scope.owns committed) (λ _. acts S calls scope rest x)
      (last_round_steady scope.owns committed) (λ _. acts_steady scope rest x) st
  acts_steady scope (Action.CommitStore ∷ rest) x st =
      live_in_steady st.context.tx (λ live. ask (Want.Commit live.transaction) (λ _. acts S calls scope rest x))
      (λ live. ask_steady (Want.Commit live.transaction) (λ _. acts S calls scope rest x) (λ _. acts_steady scope rest x)) st
  acts_steady scope (Action.RollbackStore ∷ rest) x st =
      live_in_steady st.context.tx (λ live. ask (Want.Rollback live.transaction) (λ _. acts S calls scope rest x))
      (λ live. ask_steady (Want.Rollback live.transaction) (λ _. acts S calls scope rest x) (λ _. acts_steady scope rest x)) st
  acts_steady scope (Action.BackToPoint ∷ rest) x st =
      let next : Note → Meaning = λ _ back. acts S calls scope rest x (with_context (with_global_mark false back.context) back) in
      live_in_steady st.context.tx (λ live. ask (Want.BackTo live.transaction) next)
      (λ live. ask_steady (Want.BackTo live.transaction) next
      (λ _ back. acts_steady scope rest x (with_context (with_global_mark false back.context) back))) st
  acts_steady scope (Action.ReleasePoint ∷ rest) x st =
      live_in_steady st.context.tx (λ live. ask (Want.Release live.transaction) (λ _. acts S calls scope rest x))
      (λ live. ask_steady (Want.Release live.transaction) (λ _. acts S calls scope rest x) (λ _. acts_steady scope rest x)) st
  acts_steady scope (Action.MarkGlobally ∷ rest) x st =
      say_steady Line.MarkGlobal (acts S calls scope rest x) (acts_steady scope rest x) (with_context (with_global_mark true st.context) st)
  acts_steady scope (Action.ThrowUnexpected ∷ rest) x st =
      say_steady (Line.Throw UNEXPECTED_ROLLBACK_EXCEPTION) (acts S calls scope rest (Some UNEXPECTED_ROLLBACK_EXCEPTION))
      (acts_steady scope rest (Some UNEXPECTED_ROLLBACK_EXCEPTION)) st
  acts_steady scope (Action.GiveBack ∷ rest) x st =
      live_in_steady st.context.tx (λ live. ask (Want.Give live.connection) (λ _. acts S calls scope rest x))
      (λ live. ask_steady (Want.Give live.connection) (λ _. acts S calls scope rest x) (λ _. acts_steady scope rest x)) st
  acts_steady scope (Action.Resumption ∷ rest) x st =
      after_change (resumed scope.older) (acts S calls scope rest x) (resumed_change scope.older) (acts_steady scope rest x) st

  completes_steady : (scope : Scope) (e : Ending) (x : Option ClassNo) → IsSteady (completes S calls scope e x)
  unfolding completes
  completes_steady scope e x =
      let round = stopping_round S calls Round.BeforeCommit in
      let next : Option ClassNo → Meaning = λ y. acts S calls scope (completion_after scope.kind e y) (later_or y x) in
      either_steady (has_before_commit scope.kind e) (λ st. finally (round_of scope.owns round st) next) (acts S calls scope (completion scope.kind e) x)
      (finally_steady (round_of scope.owns round) next
      (round_of_steady scope.owns round (stopping_steady Round.BeforeCommit)) (λ y. acts_steady scope (completion_after scope.kind e y) (later_or y x)))
      (acts_steady scope (completion scope.kind e) x)

  pub ends_steady : (scope : Scope) (a : TxAttr) (x : Option ClassNo) → IsSteady (ends S calls scope a x)
  unfolding ends
  ends_steady scope a x st =
      let e = ending scope.kind (rolls S a.rules x) (is_set st.local) st.context in
      ruled_steady S a.rules x (λ u. completes S calls scope e x (say (Line.End e) u))
      (say_steady (Line.End e) (completes S calls scope e x) (completes_steady scope e x)) st

  -- ---- intercepted calls

  pub in_scope_steady : (scope : Scope) (a : TxAttr) (run : Meaning) → IsSteady run → IsSteady (in_scope S calls scope a run)
  unfolding in_scope
  in_scope_steady scope a run steady =
      let line = Line.Opened scope.kind scope.owns in
      finally_steady (λ st. run (with_local (Some false) (say line st))) (ends S calls scope a)
      (say_steady line (λ st. run (with_local (Some false) st)) (λ st. steady (with_local (Some false) st))) (ends_steady scope a)

  pub within_steady : (m : MethodNo) (kind : Kind) (a : TxAttr) (run : Meaning) → IsSteady run → IsSteady (within S calls m kind a run)
  within_steady m kind a run steady st =
      in_scope_steady (record { method = m; kind = kind; owns = false; older = None; outer = st.local }) a run steady st

  pub begins_steady : (m : MethodNo) (a : TxAttr) (run : Meaning) → IsSteady run → (owns : Bool) (older : Context) (c : Option ℕ)
      → IsSteady (begins S calls m a run owns older c)
  unfolding begins
  begins_steady m a run steady owns older (Some c) =
      let next = in_fresh S calls m a run owns older c in
      ask_steady Want.Begin (on_begin next) (on_begin_steady next
      (λ t begun. in_scope_steady (fresh_scope m owns older begun) a run steady (with_context (fresh_context c t a.read_only owns) begun)))
  begins_steady m a run steady owns older None =
      let x = CANNOT_CREATE_TRANSACTION_EXCEPTION in
      after_change (resume older) (λ st. leaves m (Some x) (say (Line.Throw x) st)) (resume_change older)
      (say_steady (Line.Throw x) (leaves m (Some x)) (leaves_steady m (Some x)))

  empty_steady : (m : MethodNo) (a : TxAttr) (run : Meaning) → IsSteady run → (owns : Bool) (older : Option Context)
      → IsSteady (empty S calls m a run owns older)
  empty_steady m a run steady owns older st =
      in_scope_steady (record { method = m; kind = Kind.Empty; owns = owns; older = older; outer = st.local }) a run steady
      (with_context (record { tx = st.context.tx; syncs = started_syncs owns st.context.syncs }) st)

  pub opens_steady : (m : MethodNo) (a : TxAttr) (run : Meaning) → IsSteady run → (o : Opening) → IsSteady (opens S calls m a run o)
  unfolding opens
  opens_steady m a run steady (Opening.Refuse x) st = say_steady (Line.Throw x) (leaves m (Some x)) (leaves_steady m (Some x)) st
  opens_steady m a run steady (Opening.Fresh suspends owns) st =
      let older = st.context in
      after_change (suspended suspends) (ask Want.Take (on_take (begins S calls m a run owns older))) (suspended_change suspends)
      (ask_steady Want.Take (on_take (begins S calls m a run owns older))
      (on_take_steady (begins S calls m a run owns older) (begins_steady m a run steady owns older))) st
  opens_steady m a run steady Opening.Join st = within_steady m Kind.Join a run steady st
  opens_steady m a run steady Opening.Point st =
      live_in_steady st.context.tx (λ live. ask (Want.Point live.transaction) (λ _. within S calls m Kind.Point a run))
      (λ live. ask_steady (Want.Point live.transaction) (λ _. within S calls m Kind.Point a run) (λ _. within_steady m Kind.Point a run steady)) st
  opens_steady m a run steady (Opening.Empty suspends owns) st =
      after_change (suspended suspends) (empty S calls m a run owns (older_if suspends st.context)) (suspended_change suspends)
      (empty_steady m a run steady owns (older_if suspends st.context)) st

  pub intercepted_steady : (m : MethodNo) (a : TxAttr) (run : Meaning) → IsSteady run → IsSteady (intercepted S calls m a run)
  unfolding intercepted
  intercepted_steady m a run steady st =
      let o = opening S.settings a st.context in
      say_steady (Line.Call m a.propagation a.read_only) (opens S calls m a run o) (opens_steady m a run steady o) st

  -- ---- bodies

  pub deals_steady : (ds : List Deed) → IsSteady (deals S calls ds)
  unfolding deals
  deals_steady [] st = over_steady None st
  deals_steady (Register l ∷ later) st =
      and_then_steady (register_listener S l) (deals S calls later) (λ u. registers_steady _ u.context.syncs u) (deals_steady later) st
  deals_steady (RunNow l ∷ later) st =
      let listener = slice_get S.listeners l.0 in
      and_then_steady (listens S calls l listener) (deals S calls later) (listens_steady l listener) (deals_steady later) st
  deals_steady (Skip l ∷ later) st = say_steady (Line.Skip l) (deals S calls later) (deals_steady later) st

  statement_steady : (s : Stmt) → IsSteady (statement S calls s)
  unfolding statement
  statement_steady Stmt.Mark st = marks_steady st.local st
  statement_steady (Stmt.Register s) st = registers_steady _ st.context.syncs st
  statement_steady (Stmt.Publish e) st =
      let ds = deeds S e (is_active st.context) (is_live st.context) in say_steady (Line.Publish e) (deals S calls ds) (deals_steady ds) st
  statement_steady (Stmt.This m catch) st =
      finally_steady (calls Direct m) (caught S catch) (calls_steady Direct m) (caught_steady S catch) st
  statement_steady s st = callback_statement_steady s st

  pub body_steady : (statements : List Stmt) → IsSteady (body S calls statements)
  unfolding body
  body_steady [] st = over_steady None st
  body_steady (s ∷ statements) st =
      and_then_steady (statement S calls s) (body S calls statements) (statement_steady s) (body_steady statements) st

  -- ---- calls

  unscoped_steady : (line : Line) (m : MethodNo) → IsSteady (unscoped S calls line m)
  unscoped_steady line m =
      let run = body S calls (body_of S m) in
      finally_steady (λ st. run (say line st)) (leaves m) (say_steady line run (body_steady (body_of S m))) (leaves_steady m)

  proxied_steady : (m : MethodNo) (a : Option TxAttr) → IsSteady (proxied S calls m a)
  proxied_steady m (Some a) = intercepted_steady m a (body S calls (body_of S m)) (body_steady (body_of S m))
  proxied_steady m None = unscoped_steady (Line.Plain m) m

  pub invoked_steady : AreSteady (invoked S calls)
  unfolding invoked
  invoked_steady Proxied m = proxied_steady m (attribute S m)
  invoked_steady Direct m = unscoped_steady (Line.This m) m

-- ---- the whole

pub calls_below_steady : (S : Scenario) (bound : ℕ) → AreSteady (calls_below S bound)
unfolding calls_below
calls_below_steady S zero way m = breaks_steady
calls_below_steady S (suc bound) way m =
    let inner = calls_below S bound in
    either_steady (rank S m == bound) (invoked S inner way m) (inner way m) (invoked_steady S inner (calls_below_steady S bound) way m)
    (calls_below_steady S bound way m)

pub done_steady : IsSteady (Stops Want.Done)
done_steady st = (no_later st, inr (record { done = refl; stays = λ p s. refl }))

pub tops_steady : (S : Scenario) (k : ℕ) (calls : List MethodNo) → IsSteady (tops S k calls)
unfolding tops
tops_steady S k [] st = done_steady st
tops_steady S k (m ∷ calls) st =
    finally_steady (λ u. invoke S m (say (Line.Top k) u)) (λ _. tops S (k + 1) calls)
    (say_steady (Line.Top k) (invoke S m) (calls_below_steady S 65 Proxied m)) (λ _. tops_steady S (k + 1) calls) st
