-- What bodies, callbacks and rounds keep of their context: the transaction, but for its mark, and the registrations, but for
-- more at the end.
use Rattle.std.proofs.Common.{◌≡◌, ℕ, Bool, true, false, ℤ, ◌+ℤ◌, List, [], ◌∷◌, ◌++◌, Option, Some, None, refl, sym, ap, ◌∙◌, subst, append_assoc, append-nil}
use Rattle.std.specs.Prelude.{int_lt, slice_get}
use Rattle.stx_scenario.specs.declared.numbers.ClassNo.{ClassNo}
use Rattle.stx_scenario.specs.declared.numbers.MethodNo.{MethodNo}
use Rattle.stx_scenario.specs.declared.numbers.RowNo.{RowNo}
use Rattle.stx_scenario.specs.declared.numbers.ListenerNo.{ListenerNo}
use Rattle.stx_scenario.specs.declared.classes.TheConstants.{ILLEGAL_STATE_EXCEPTION, ARITHMETIC_EXCEPTION, CANNOT_ACQUIRE_LOCK_EXCEPTION, CANNOT_GET_JDBC_CONNECTION_EXCEPTION}
use Rattle.stx_scenario.specs.declared.scenario.Scenario.{Scenario}
use Rattle.stx_scenario.specs.declared.scenario.Listener.{Listener}
use Rattle.stx_scenario.specs.declared.scenario.Stmt.{Stmt}
use Rattle.stx_base.specs.declared.call.Want.{Want}
use Rattle.stx_base.specs.declared.history.Access.{Access}
use Rattle.stx_base.specs.declared.history.Answer.{Answer}
use Rattle.stx_base.specs.declared.history.PoolNote.{PoolNote}
use Rattle.stx_base.specs.declared.history.StoreNote.{StoreNote}
use Rattle.stx_base.specs.declared.line.Line.{Line}
use Rattle.stx_base.specs.declared.line.Label.{Label}
use Rattle.stx_base.specs.declared.manager.Round.{Round}
use Rattle.stx_model.specs.Contexts.{Context, Live, Registration, registered, ordered}
use Rattle.stx_model.specs.Listeners.{runs_in}
use Rattle.stx_base.specs.declared.history.Note.{Note}
use Rattle.stx_base.specs.Notes.{is_answer}
use Rattle.stx_model.specs.Meanings.{State, Result, Over, Stops, Breaks, Meaning, and_then, finally, say, unread, hear, answered, ask, on_take, on_access}
use Rattle.stx_model.specs.Statements.{RowAccess, throws, concludes, catches, caught, unless_busy, access_row, nothing_more, value_of, is_value, needed, added, on_row, in_transaction, on_connection, connected, row_statement, marks, registers}
use Rattle.stx_model.specs.Rounds.{Calls, Way, Proxied, sync_body, callback_line, swallows, callback_statement, callback, listens, listens_in, called_back, told, stopping_round, swallowing_round, round_of}
use Rattle.stx_model.specs.Assurances.{AtEnd, IsExtended, MayBeMarked, IsKept}
use Rattle.stx_model.proofs.Apart.{hear_keeps}

-- ---- keeping is an order

extended_refl : (syncs : Option (List Registration)) → IsExtended syncs syncs
extended_refl (Some list) = ([], ap Some (sym (append-nil list)))
extended_refl None = refl

extended_trans : (a b c : Option (List Registration)) → IsExtended a b → IsExtended b c → IsExtended a c
extended_trans None b c first second = subst (λ o. IsExtended o c) first second
extended_trans (Some list) b c (more, is) second =
    let then : IsExtended (Some (list ++ more)) c = subst (λ o. IsExtended o c) is second in
    (more ++ then.0, then.1 ∙ ap Some (append_assoc list more then.0))

marked_refl : (tx : Option Live) → MayBeMarked tx tx
marked_refl (Some live) = (live, refl, record { connection = refl; transaction = refl; read_only = refl; mark = λ set. set })
marked_refl None = refl

marked_trans : (a b c : Option Live) → MayBeMarked a b → MayBeMarked b c → MayBeMarked a c
marked_trans None b c first second = subst (λ o. MayBeMarked o c) first second
marked_trans (Some live) b c (middle, is, same) second =
    let then : MayBeMarked (Some middle) c = subst (λ o. MayBeMarked o c) is second in (
      then.0,
      then.1,
      record {
        connection = then.2.connection ∙ same.connection;
        transaction = then.2.transaction ∙ same.transaction;
        read_only = then.2.read_only ∙ same.read_only;
        mark = λ set. then.2.mark (same.mark set);
      },
    )

pub kept_refl : (context : Context) → IsKept context context
kept_refl context = record { tx = marked_refl context.tx; syncs = extended_refl context.syncs }

pub kept_trans : (a b c : Context) → IsKept a b → IsKept b c → IsKept a c
kept_trans a b c first second =
    record { tx = marked_trans a.tx b.tx c.tx first.tx second.tx; syncs = extended_trans a.syncs b.syncs c.syncs first.syncs second.syncs }

-- ---- pieces that keep their context

-- at its end a piece that began in this context has kept it
abbrev pub HasKept : Context → Result → Type 0
HasKept context r = AtEnd r (λ x after. IsKept context after.context)

abbrev pub Keeps : Meaning → Type 0
Keeps meaning = (st : State) → HasKept st.context (meaning st)

-- from a context that kept an earlier one
from_earlier : (a b : Context) (r : Result) → IsKept a b → HasKept b r → HasKept a r
from_earlier a b (Over x st) first second = kept_trans a b st.context first second
from_earlier a b (Stops w st) first second = tt
from_earlier a b (Breaks st) first second = tt

pub finally_keeps : (context : Context) (r : Result) (next : Option ClassNo → Meaning) → HasKept context r → ((x : Option ClassNo) → Keeps (next x)) → HasKept context (finally r next)
finally_keeps context (Over x st) next kept keeps = from_earlier context st.context (next x st) kept (keeps x st)
finally_keeps context (Stops w st) next kept keeps = tt
finally_keeps context (Breaks st) next kept keeps = tt

pub and_then_keeps : (context : Context) (r : Result) (next : Meaning) → HasKept context r → Keeps next → HasKept context (and_then r next)
and_then_keeps context (Over None st) next kept keeps = from_earlier context st.context (next st) kept (keeps st)
and_then_keeps context (Over (Some x) st) next kept keeps = kept
and_then_keeps context (Stops w st) next kept keeps = tt
and_then_keeps context (Breaks st) next kept keeps = tt

pub either_keeps : (context : Context) (b : Bool) (first second : Result) → HasKept context first → HasKept context second
    → HasKept context (elim b [ true ↦ first | false ↦ second ])
either_keeps context true first second one other = one
either_keeps context false first second one other = other

pub ask_keeps : (w : Want) (next : Note → Meaning) → ((n : Note) → Keeps (next n)) → Keeps (ask w next)
unfolding ask
ask_keeps w next keeps st = by_note (unread w st)
  where
    by_note : (n : Option Note) → HasKept st.context (answered w next st n)
    by_note None = tt
    by_note (Some n) =
        either_keeps st.context (is_answer w n) (next n (hear n st)) (Breaks st)
        (subst (λ c. HasKept c (next n (hear n st))) (hear_keeps n st).0 (keeps n (hear n st))) tt

take_keeps : (next : Option ℕ → Meaning) → ((c : Option ℕ) → Keeps (next c)) → (n : Note) → Keeps (on_take next n)
take_keeps next keeps (Note.Pool (PoolNote.Taken c)) st = keeps (Some c) st
take_keeps next keeps (Note.Pool PoolNote.Empty) st = keeps None st
take_keeps next keeps (Note.Pool (PoolNote.Given c)) st = tt
take_keeps next keeps (Note.Store n) st = tt

access_keeps : (next : Answer → Meaning) → ((r : Answer) → Keeps (next r)) → (n : Note) → Keeps (on_access next n)
access_keeps next keeps (Note.Store (StoreNote.Access t a r)) st = keeps r st
access_keeps next keeps (Note.Store (StoreNote.Auto a r)) st = keeps r st
access_keeps next keeps n st = tt

-- ---- statements

throws_keeps : (x : ClassNo) → Keeps (throws x)
throws_keeps x st = kept_refl st.context

concludes_keeps : (x : Option ClassNo) → Keeps (concludes x)
concludes_keeps None st = kept_refl st.context
concludes_keeps (Some x) st = kept_refl st.context

pub caught_keeps : (S : Scenario) (catch x : Option ClassNo) → Keeps (caught S catch x)
caught_keeps S catch None st = kept_refl st.context
caught_keeps S catch (Some x) st =
    either_keeps st.context (catches S catch x) (Over None (say (Line.Catch x) st)) (Over (Some x) st) (kept_refl st.context) (kept_refl st.context)

module _ (at : RowAccess) (ends : (x : Option ClassNo) → Keeps (at.ends x)) where
  unless_busy_keeps : (next : Answer → Meaning) → ((r : Answer) → Keeps (next r)) → (r : Answer) → Keeps (unless_busy at next r)
  unless_busy_keeps next keeps (Answer.Busy t) st = ends (Some CANNOT_ACQUIRE_LOCK_EXCEPTION) st
  unless_busy_keeps next keeps (Answer.Found v) st = keeps (Answer.Found v) st
  unless_busy_keeps next keeps Answer.Absent st = keeps Answer.Absent st
  unless_busy_keeps next keeps Answer.Done st = keeps Answer.Done st

  access_row_keeps : (a : Access) (next : Answer → Meaning) → ((r : Answer) → Keeps (next r)) → Keeps (access_row at a next)
  access_row_keeps a next keeps =
      ask_keeps (at.want a) (on_access (unless_busy at next)) (access_keeps (unless_busy at next) (unless_busy_keeps next keeps))

  nothing_keeps : (r : Answer) → Keeps (nothing_more at r)
  nothing_keeps r st = ends None st

  needed_keeps : (n : ℤ) (r : Answer) → Keeps (needed at n r)
  needed_keeps n r st =
      either_keeps st.context (int_lt (value_of r) n) (at.ends (Some ILLEGAL_STATE_EXCEPTION) st) (at.ends None st) (ends (Some ILLEGAL_STATE_EXCEPTION) st) (ends None st)

  added_keeps : (k : RowNo) (n : ℤ) (r : Answer) → Keeps (added at k n r)
  added_keeps k n r st =
      either_keeps st.context (is_value (value_of r +ℤ n)) (access_row at (Access.Write k (value_of r +ℤ n)) (nothing_more at) st) (at.ends (Some ARITHMETIC_EXCEPTION) st)
      (access_row_keeps (Access.Write k (value_of r +ℤ n)) (nothing_more at) nothing_keeps st) (ends (Some ARITHMETIC_EXCEPTION) st)

  on_row_keeps : (s : Stmt) → Keeps (on_row at s)
  on_row_keeps (Stmt.Read k) st = access_row_keeps (Access.Read k) (nothing_more at) nothing_keeps st
  on_row_keeps (Stmt.Write k v) st = access_row_keeps (Access.Write k v) (nothing_more at) nothing_keeps st
  on_row_keeps (Stmt.Erase k) st = access_row_keeps (Access.Erase k) (nothing_more at) nothing_keeps st
  on_row_keeps (Stmt.Need k n) st = access_row_keeps (Access.Read k) (needed at n) (needed_keeps n) st
  on_row_keeps (Stmt.Add k n) st = access_row_keeps (Access.Read k) (added at k n) (added_keeps k n) st
  on_row_keeps _ st = tt

connected_keeps : (s : Stmt) (c : Option ℕ) → Keeps (connected s c)
connected_keeps s (Some c) =
    on_row_keeps (on_connection c) (λ x. ask_keeps (Want.Give c) (λ _. concludes x) (λ _. concludes_keeps x)) s
connected_keeps s None = throws_keeps CANNOT_GET_JDBC_CONNECTION_EXCEPTION

row_statement_keeps : (tx : Option Live) (s : Stmt) → Keeps (row_statement tx s)
row_statement_keeps (Some live) s = on_row_keeps (in_transaction live.transaction) concludes_keeps s
row_statement_keeps None s = ask_keeps Want.Take (on_take (connected s)) (take_keeps (connected s) (connected_keeps s))

pub marks_keeps : (local : Option Bool) → Keeps (marks local)
marks_keeps (Some b) st = kept_refl st.context
marks_keeps None st = kept_refl st.context

pub registers_keeps : (r : Registration) (syncs : Option (List Registration)) (st : State) → st.context.syncs ≡ syncs → HasKept st.context (registers r syncs st)
registers_keeps r (Some list) st is =
    record { tx = marked_refl st.context.tx; syncs = subst (λ o. IsExtended o (Some (list ++ r ∷ []))) (sym is) (r ∷ [], refl) }
registers_keeps r None st is = kept_refl st.context

-- ---- callbacks and rounds

abbrev pub CallsKeep : Calls → Type 0
CallsKeep calls = (way : Way) (m : MethodNo) → Keeps (calls way m)

module _ (S : Scenario) (calls : Calls) (called : CallsKeep calls) where
  pub callback_statement_keeps : (s : Stmt) → Keeps (callback_statement S calls s)
  unfolding callback_statement
  callback_statement_keeps (Stmt.Throw x) st = throws_keeps x st
  callback_statement_keeps (Stmt.Call m catch) st = finally_keeps st.context (calls Proxied m st) (caught S catch) (called Proxied m st) (caught_keeps S catch)
  callback_statement_keeps (Stmt.This m catch) st = tt
  callback_statement_keeps Stmt.Mark st = tt
  callback_statement_keeps (Stmt.Publish e) st = tt
  callback_statement_keeps (Stmt.Register s) st = tt
  callback_statement_keeps s st = row_statement_keeps st.context.tx s st

  callback_keeps : (body : List Stmt) → Keeps (callback S calls body)
  unfolding callback
  callback_keeps [] st = kept_refl st.context
  callback_keeps (s ∷ body) st =
      and_then_keeps st.context (callback_statement S calls s st) (callback S calls body) (callback_statement_keeps s st) (callback_keeps body)

  pub listens_keeps : (l : ListenerNo) (o : Option Listener) → Keeps (listens S calls l o)
  listens_keeps l (Some listener) st = callback_keeps listener.body (say (Line.Listen l) st)
  listens_keeps l None st = kept_refl st.context

  listens_in_keeps : (round : Round) (committed : Bool) (l : ListenerNo) (o : Option Listener) → Keeps (listens_in S calls round committed l o)
  listens_in_keeps round committed l (Some listener) st =
      either_keeps st.context (runs_in listener.phase round committed) (listens S calls l (Some listener) st) (Over None st) (listens_keeps l (Some listener) st) (kept_refl st.context)
  listens_in_keeps round committed l None st = kept_refl st.context

  called_back_keeps : (round : Round) (committed : Bool) (l : Label) → Keeps (called_back S calls round committed l)
  called_back_keeps round committed (Label.Sync s) st = callback_keeps (sync_body round (slice_get S.syncs s.0)) st
  called_back_keeps round committed (Label.Listener l) st = listens_in_keeps round committed l (slice_get S.listeners l.0) st

  told_keeps : (round : Round) (committed : Bool) (r : Registration) → Keeps (told S calls round committed r)
  unfolding told
  told_keeps round committed r st = called_back_keeps round committed r.label (say (callback_line round committed r.label) st)

  pub stopping_round_keeps : (round : Round) (list : List Registration) → Keeps (stopping_round S calls round list)
  unfolding stopping_round
  stopping_round_keeps round [] st = kept_refl st.context
  stopping_round_keeps round (r ∷ later) st =
      and_then_keeps st.context (told S calls round true r st) (stopping_round S calls round later) (told_keeps round true r st) (stopping_round_keeps round later)

  swallows_keeps : (x : Option ClassNo) (st : State) → (swallows x st).context ≡ st.context
  swallows_keeps (Some x) st = refl
  swallows_keeps None st = refl

  pub swallowing_round_keeps : (round : Round) (committed : Bool) (list : List Registration) → Keeps (swallowing_round S calls round committed list)
  unfolding swallowing_round
  swallowing_round_keeps round committed [] st = kept_refl st.context
  swallowing_round_keeps round committed (r ∷ later) st =
      finally_keeps st.context (told S calls round committed r st) (λ x after. swallowing_round S calls round committed later (swallows x after)) (told_keeps round committed r st)
      (λ x after. subst (λ c. HasKept c (swallowing_round S calls round committed later (swallows x after))) (swallows_keeps x after)
      (swallowing_round_keeps round committed later (swallows x after)))

  pub round_of_keeps : (owns : Bool) (round : List Registration → Meaning) → ((list : List Registration) → Keeps (round list)) → Keeps (round_of owns round)
  round_of_keeps owns round keeps st =
      either_keeps st.context owns (round (ordered (registered st.context.syncs)) st) (Over None st) (keeps (ordered (registered st.context.syncs)) st) (kept_refl st.context)
