-- How many lines suspensions and resumptions say: no more than were registered, twice for each call, in all that a script
-- does. What is registered has its line, and where a context comes back, no more is registered in it than had one then.
use Rattle.std.proofs.Common.{◌≡◌, ℕ, zero, suc, ◌+◌, ◌≤◌, ◌==◌, Bool, true, false, ℤ, ◌+ℤ◌, List, [], ◌∷◌, map, Option, Some, None, refl, ap, arith}
use Rattle.std.specs.Prelude.{int_lt, slice_get}
use Rattle.std.specs.List.{sum_by}
use Rattle.std.proofs.lemmas.List.Sums.{sum_by-cons, sum_by_push}
use Rattle.stx_scenario.specs.declared.numbers.ClassNo.{ClassNo}
use Rattle.stx_scenario.specs.declared.numbers.MethodNo.{MethodNo}
use Rattle.stx_scenario.specs.declared.numbers.RowNo.{RowNo}
use Rattle.stx_scenario.specs.declared.numbers.ListenerNo.{ListenerNo}
use Rattle.stx_scenario.specs.declared.classes.TheConstants.{ARITHMETIC_EXCEPTION, CANNOT_ACQUIRE_LOCK_EXCEPTION, CANNOT_CREATE_TRANSACTION_EXCEPTION, CANNOT_GET_JDBC_CONNECTION_EXCEPTION, ILLEGAL_STATE_EXCEPTION, NO_TRANSACTION_EXCEPTION, UNEXPECTED_ROLLBACK_EXCEPTION}
use Rattle.stx_scenario.specs.declared.scenario.Scenario.{Scenario}
use Rattle.stx_scenario.specs.declared.scenario.Listener.{Listener}
use Rattle.stx_scenario.specs.declared.scenario.Stmt.{Stmt}
use Rattle.stx_scenario.specs.declared.scenario.TxAttr.{TxAttr}
use Rattle.stx_base.specs.declared.manager.Action.{Action}
use Rattle.stx_base.specs.declared.call.Want.{Want}
use Rattle.stx_base.specs.declared.history.Access.{Access}
use Rattle.stx_base.specs.declared.history.Answer.{Answer}
use Rattle.stx_base.specs.declared.history.Note.{Note}
use Rattle.stx_base.specs.declared.history.PoolNote.{PoolNote}
use Rattle.stx_base.specs.declared.history.StoreNote.{StoreNote}
use Rattle.stx_base.specs.declared.line.Line.{Line}
use Rattle.stx_base.specs.declared.line.Label.{Label}
use Rattle.stx_base.specs.declared.manager.Kind.{Kind}
use Rattle.stx_base.specs.declared.manager.Opening.{Opening}
use Rattle.stx_base.specs.declared.manager.Ending.{Ending}
use Rattle.stx_base.specs.declared.manager.Round.{Round}
use Rattle.stx_base.specs.Attributes.{attribute}
use Rattle.stx_base.specs.Notes.{is_answer, note_line}
use Rattle.stx_base.specs.Weight.{body_of, rank}
use Rattle.stx_model.specs.Contexts.{Context, Live, Registration, bare, is_active, is_live, registered, ordered, ordered_labels, with_global_mark, without_syncs}
use Rattle.stx_model.specs.Ending.{completion, completion_after, has_before_commit, ending}
use Rattle.stx_model.specs.Listeners.{Deed, Register, RunNow, Skip, deeds, runs_in}
use Rattle.stx_model.specs.Meanings.{State, Result, Over, Stops, Breaks, Meaning, at_first, state_of, and_then, finally, say, with_context, with_local, unread, hear, answered, ask, on_take, on_begin, on_access}
use Rattle.stx_model.specs.Opening.{opening}
use Rattle.stx_model.specs.Statements.{RowAccess, throws, concludes, catches, caught, unless_busy, access_row, nothing_more, value_of, is_value, needed, added, on_row, in_transaction, on_connection, connected, row_statement, marks, registers, register_listener}
use Rattle.stx_model.specs.Rounds.{Calls, Way, Proxied, Direct, sync_body, callback_line, swallows, callback_statement, callback, listens, listens_in, called_back, told, stopping_round, swallowing_round, round_of, last_round}
use Rattle.stx_model.specs.Scopes.{Scope, leaves, live_in, later_or, rolls, ruled, is_set, say_each, say_bind, say_unbind, suspend, resume, resumed, suspended, older_if, started_syncs, fresh_context, acts, completes, ends, in_scope, within, begins, empty, opens, intercepted}
use Rattle.stx_model.specs.Script.{deals, statement, body, unscoped, proxied, invoked, calls_below, invoke, tops, calls_of, script}
use Rattle.stx_model.proofs.Spending.{price}
use Rattle.stx_model.proofs.Sharing.{by_order_sum}

-- ---- what is counted

-- a line of a suspension or of a resumption
abbrev pub pausing : Line → ℕ
pausing (Line.Suspend l) = 1
pausing (Line.Resume l) = 1
pausing _ = 0

abbrev pub registering : Line → ℕ
registering l = price 0 1 0 l

-- each call pays for so many lines
abbrev pub calling : ℕ → Line → ℕ
calling n l = price n 0 0 l

-- how much is registered
abbrev pub count : Context → ℕ
count context = sum_by (λ r. 1) (registered context.syncs)

abbrev pub registered_by : State → ℕ
registered_by st = sum_by registering st.lines

-- all that is registered has its line
abbrev pub IsCounted : State → Type 0
IsCounted st = count st.context ≤ registered_by st

note_pauses : (n : Note) → pausing (note_line n) ≡ 0
note_pauses (Note.Pool (PoolNote.Taken c)) = refl
note_pauses (Note.Pool PoolNote.Empty) = refl
note_pauses (Note.Pool (PoolNote.Given c)) = refl
note_pauses (Note.Store (StoreNote.Begin t)) = refl
note_pauses (Note.Store (StoreNote.Access t a r)) = refl
note_pauses (Note.Store (StoreNote.Point t)) = refl
note_pauses (Note.Store (StoreNote.BackTo t)) = refl
note_pauses (Note.Store (StoreNote.Release t)) = refl
note_pauses (Note.Store (StoreNote.Commit t n)) = refl
note_pauses (Note.Store (StoreNote.Rollback t)) = refl
note_pauses (Note.Store (StoreNote.Auto a r)) = refl

-- the lines of each registration
each_said : (f : Line → ℕ) (line : Label → Line) (rs : List Registration) (st : State)
    → sum_by f (say_each line (map (λ r. r.label) rs) st).lines ≡ sum_by f st.lines + sum_by (λ r. f (line r.label)) rs
each_said f line [] st = omega arith
each_said f line (r ∷ rs) st =
    omega (arith, each_said f line rs (say (line r.label) st), sum_by_push f st.lines (line r.label), sum_by-cons (λ r. f (line r.label)) r rs)

each_context : (line : Label → Line) (ls : List Label) (st : State) → (say_each line ls st).context ≡ st.context
each_context line [] st = refl
each_context line (l ∷ ls) st = each_context line ls (say (line l) st)

-- where at most so many are ever registered
module _ (R : ℕ) where
  -- a later state: what is registered has its line still, and the calls have paid for the suspensions and resumptions but so many
  pub record Follows (slack : ℕ) (st after : State) : Type 0 where
    pub grows : registered_by st ≤ registered_by after
    pub counted : count after.context ≤ registered_by after
    pub paid : registered_by after ≤ R → sum_by pausing after.lines + sum_by (calling (R + R)) st.lines ≤ sum_by pausing st.lines + sum_by (calling (R + R)) after.lines + slack

  abbrev pub Paces : ℕ → Meaning → Type 0
  Paces n meaning = (st : State) → IsCounted st → Follows n st (state_of (meaning st))

  -- ---- following is an order

  stays : (st : State) → IsCounted st → Follows 0 st st
  stays st counted = record { grows = omega arith; counted = counted; paid = λ few. omega arith }

  slackens : (j n : ℕ) (st after : State) → j ≤ n → Follows j st after → Follows n st after
  slackens j n st after le follows =
      record { grows = follows.grows; counted = follows.counted; paid = λ few. let paid = follows.paid few in omega (arith, le, paid) }

  follow : (j k n : ℕ) (st middle after : State) → j + k ≤ n → Follows j st middle → Follows k middle after → Follows n st after
  follow j k n st middle after le first then = record {
    grows = omega (arith, first.grows, then.grows);
    counted = then.counted;
    paid = λ few. let early = first.paid (omega (arith, few, then.grows)) in let late = then.paid few in omega (arith, le, early, late);
  }

  -- with as much registered as there was
  in_context : (c : Context) (st : State) → count c ≤ registered_by st → Follows 0 st (with_context c st)
  in_context c st counted = record { grows = omega arith; counted = counted; paid = λ few. omega arith }

  says : (l : Line) (st : State) → pausing l ≡ 0 → IsCounted st → Follows 0 st (say l st)
  says l st none counted = record {
    grows = omega (arith, sum_by_push registering st.lines l);
    counted = omega (arith, counted, sum_by_push registering st.lines l);
    paid = λ few. omega (arith, none, sum_by_push pausing st.lines l, sum_by_push (calling (R + R)) st.lines l);
  }

  -- a line is said, and then the rest
  said_then : (n : ℕ) (l : Line) (next : Meaning) (st : State) → pausing l ≡ 0 → IsCounted st → Paces n next → Follows n st (state_of (next (say l st)))
  said_then n l next st none counted paces =
      let said = says l st none counted in follow 0 n n st (say l st) (state_of (next (say l st))) (omega arith) said (paces (say l st) said.counted)

  hears : (n : Note) (st : State) → IsCounted st → Follows 0 st (hear n st)
  hears (Note.Pool n) st counted = let said = says (note_line (Note.Pool n)) st (note_pauses (Note.Pool n)) counted in record { grows = said.grows; counted = said.counted; paid = said.paid }
  hears (Note.Store n) st counted = let said = says (note_line (Note.Store n)) st (note_pauses (Note.Store n)) counted in record { grows = said.grows; counted = said.counted; paid = said.paid }

  -- ---- joining pieces

  finally_follows : (n : ℕ) (st : State) (r : Result) (next : Option ClassNo → Meaning) → Follows 0 st (state_of r)
      → ((x : Option ClassNo) (middle : State) → IsCounted middle → registered_by st ≤ registered_by middle → Follows n middle (state_of (next x middle)))
      → Follows n st (state_of (finally r next))
  finally_follows n st (Over x middle) next first then = follow 0 n n st middle (state_of (next x middle)) (omega arith) first (then x middle first.counted first.grows)
  finally_follows n st (Stops w middle) next first then = slackens 0 n st middle (omega arith) first
  finally_follows n st (Breaks middle) next first then = slackens 0 n st middle (omega arith) first

  finally_paces : (n : ℕ) (st : State) (r : Result) (next : Option ClassNo → Meaning) → Follows 0 st (state_of r) → ((x : Option ClassNo) → Paces n (next x)) → Follows n st (state_of (finally r next))
  finally_paces n st r next first then = finally_follows n st r next first (λ x middle counted grows. then x middle counted)

  and_then_paces : (st : State) (r : Result) (next : Meaning) → Follows 0 st (state_of r) → Paces 0 next → Follows 0 st (state_of (and_then r next))
  and_then_paces st (Over None middle) next first then = follow 0 0 0 st middle (state_of (next middle)) (omega arith) first (then middle first.counted)
  and_then_paces st (Over (Some x) middle) next first then = first
  and_then_paces st (Stops w middle) next first then = first
  and_then_paces st (Breaks middle) next first then = first

  either_follows : (n : ℕ) (st : State) (b : Bool) (first second : Result) → Follows n st (state_of first) → Follows n st (state_of second)
      → Follows n st (state_of (elim b [ true ↦ first | false ↦ second ]))
  either_follows n st true first second one other = one
  either_follows n st false first second one other = other

  ask_follows : (n : ℕ) (w : Want) (next : Note → Meaning) (st : State) → IsCounted st
      → ((m : Note) (heard : State) → IsCounted heard → registered_by st ≤ registered_by heard → Follows n heard (state_of (next m heard))) → Follows n st (state_of (ask w next st))
  unfolding ask
  ask_follows n w next st counted then = by_note (unread w st)
    where
      by_note : (m : Option Note) → Follows n st (state_of (answered w next st m))
      by_note None = slackens 0 n st st (omega arith) (stays st counted)
      by_note (Some m) =
          let heard = hears m st counted in
          either_follows n st (is_answer w m) (next m (hear m st)) (Breaks st)
          (follow 0 n n st (hear m st) (state_of (next m (hear m st))) (omega arith) heard (then m (hear m st) heard.counted heard.grows))
          (slackens 0 n st st (omega arith) (stays st counted))

  ask_paces : (n : ℕ) (w : Want) (next : Note → Meaning) → ((m : Note) → Paces n (next m)) → Paces n (ask w next)
  ask_paces n w next paces st counted = ask_follows n w next st counted (λ m heard still grows. paces m heard still)

  -- ---- what notes carry

  broken : (n : ℕ) (st : State) → IsCounted st → Follows n st st
  broken n st counted = slackens 0 n st st (omega arith) (stays st counted)

  take_follows : (n : ℕ) (next : Option ℕ → Meaning) (m : Note) (st : State) → IsCounted st → ((c : Option ℕ) → Follows n st (state_of (next c st))) → Follows n st (state_of (on_take next m st))
  take_follows n next (Note.Pool (PoolNote.Taken c)) st counted then = then (Some c)
  take_follows n next (Note.Pool PoolNote.Empty) st counted then = then None
  take_follows n next (Note.Pool (PoolNote.Given c)) st counted then = broken n st counted
  take_follows n next (Note.Store m) st counted then = broken n st counted

  begin_follows : (n : ℕ) (next : ℕ → Meaning) (m : Note) (st : State) → IsCounted st → ((t : ℕ) → Follows n st (state_of (next t st))) → Follows n st (state_of (on_begin next m st))
  begin_follows n next (Note.Store (StoreNote.Begin t)) st counted then = then t
  begin_follows n next note st counted then = broken n st counted

  access_paces : (next : Answer → Meaning) → ((r : Answer) → Paces 0 (next r)) → (m : Note) → Paces 0 (on_access next m)
  access_paces next paces (Note.Store (StoreNote.Access t a r)) st counted = paces r st counted
  access_paces next paces (Note.Store (StoreNote.Auto a r)) st counted = paces r st counted
  access_paces next paces n st counted = stays st counted

  -- ---- statements

  throws_paces : (x : ClassNo) → Paces 0 (throws x)
  throws_paces x st counted = says (Line.Throw x) st refl counted

  concludes_paces : (x : Option ClassNo) → Paces 0 (concludes x)
  concludes_paces None st counted = stays st counted
  concludes_paces (Some x) st counted = throws_paces x st counted

  caught_paces : (S : Scenario) (catch x : Option ClassNo) → Paces 0 (caught S catch x)
  caught_paces S catch None st counted = stays st counted
  caught_paces S catch (Some x) st counted =
      either_follows 0 st (catches S catch x) (Over None (say (Line.Catch x) st)) (Over (Some x) st) (says (Line.Catch x) st refl counted) (stays st counted)

  module _ (at : RowAccess) (ends : (x : Option ClassNo) → Paces 0 (at.ends x)) where
    unless_busy_paces : (next : Answer → Meaning) → ((r : Answer) → Paces 0 (next r)) → (r : Answer) → Paces 0 (unless_busy at next r)
    unless_busy_paces next paces (Answer.Busy t) st counted = ends (Some CANNOT_ACQUIRE_LOCK_EXCEPTION) st counted
    unless_busy_paces next paces (Answer.Found v) st counted = paces (Answer.Found v) st counted
    unless_busy_paces next paces Answer.Absent st counted = paces Answer.Absent st counted
    unless_busy_paces next paces Answer.Done st counted = paces Answer.Done st counted

    access_row_paces : (a : Access) (next : Answer → Meaning) → ((r : Answer) → Paces 0 (next r)) → Paces 0 (access_row at a next)
    access_row_paces a next paces = ask_paces 0 (at.want a) (on_access (unless_busy at next)) (access_paces (unless_busy at next) (unless_busy_paces next paces))

    nothing_paces : (r : Answer) → Paces 0 (nothing_more at r)
    nothing_paces r st counted = ends None st counted

    needed_paces : (n : ℤ) (r : Answer) → Paces 0 (needed at n r)
    needed_paces n r st counted =
        either_follows 0 st (int_lt (value_of r) n) (at.ends (Some ILLEGAL_STATE_EXCEPTION) st) (at.ends None st) (ends (Some ILLEGAL_STATE_EXCEPTION) st counted) (ends None st counted)

    added_paces : (k : RowNo) (n : ℤ) (r : Answer) → Paces 0 (added at k n r)
    added_paces k n r st counted =
        either_follows 0 st (is_value (value_of r +ℤ n)) (access_row at (Access.Write k (value_of r +ℤ n)) (nothing_more at) st) (at.ends (Some ARITHMETIC_EXCEPTION) st)
        (access_row_paces (Access.Write k (value_of r +ℤ n)) (nothing_more at) nothing_paces st counted) (ends (Some ARITHMETIC_EXCEPTION) st counted)

    on_row_paces : (s : Stmt) → Paces 0 (on_row at s)
    on_row_paces (Stmt.Read k) st counted = access_row_paces (Access.Read k) (nothing_more at) nothing_paces st counted
    on_row_paces (Stmt.Write k v) st counted = access_row_paces (Access.Write k v) (nothing_more at) nothing_paces st counted
    on_row_paces (Stmt.Erase k) st counted = access_row_paces (Access.Erase k) (nothing_more at) nothing_paces st counted
    on_row_paces (Stmt.Need k n) st counted = access_row_paces (Access.Read k) (needed at n) (needed_paces n) st counted
    on_row_paces (Stmt.Add k n) st counted = access_row_paces (Access.Read k) (added at k n) (added_paces k n) st counted
    on_row_paces _ st counted = stays st counted

  connected_paces : (s : Stmt) (c : Option ℕ) → Paces 0 (connected s c)
  connected_paces s (Some c) = on_row_paces (on_connection c) (λ x. ask_paces 0 (Want.Give c) (λ _. concludes x) (λ _. concludes_paces x)) s
  connected_paces s None = throws_paces CANNOT_GET_JDBC_CONNECTION_EXCEPTION

  row_statement_paces : (tx : Option Live) (s : Stmt) → Paces 0 (row_statement tx s)
  row_statement_paces (Some live) s = on_row_paces (in_transaction live.transaction) concludes_paces s
  row_statement_paces None s = ask_paces 0 Want.Take (on_take (connected s)) (λ m st counted. take_follows 0 (connected s) m st counted (λ c. connected_paces s c st counted))

  marks_paces : (local : Option Bool) → Paces 0 (marks local)
  marks_paces (Some b) st counted =
      let said = says Line.Mark st refl counted in record { grows = said.grows; counted = said.counted; paid = said.paid }
  marks_paces None st counted = throws_paces NO_TRANSACTION_EXCEPTION st counted

  -- one registration more, with its line
  registers_paces : (r : Registration) (syncs : Option (List Registration)) (st : State) → st.context.syncs ≡ syncs → IsCounted st → Follows 0 st (state_of (registers r syncs st))
  registers_paces r (Some list) st is counted =
      let before : count st.context ≡ sum_by (λ r. 1) list = ap (λ s. sum_by (λ r. 1) (registered s)) is in
      record {
        grows = omega (arith, sum_by_push registering st.lines (Line.Register r.label));
        counted = omega (arith, counted, before, sum_by_push registering st.lines (Line.Register r.label), sum_by_push (λ (r : Registration). 1) list r);
        paid = λ few. omega (arith, sum_by_push pausing st.lines (Line.Register r.label), sum_by_push (calling (R + R)) st.lines (Line.Register r.label));
      }
  registers_paces r None st is counted = throws_paces ILLEGAL_STATE_EXCEPTION st counted

  abbrev pub CallsPace : Calls → Type 0
  CallsPace calls = (way : Way) (m : MethodNo) → Paces 0 (calls way m)

  module _ (S : Scenario) (calls : Calls) (called : CallsPace calls) where
    -- ---- callbacks and rounds

    callback_statement_paces : (s : Stmt) → Paces 0 (callback_statement S calls s)
    unfolding callback_statement
    callback_statement_paces (Stmt.Throw x) st counted = throws_paces x st counted
    callback_statement_paces (Stmt.Call m catch) st counted = finally_paces 0 st (calls Proxied m st) (caught S catch) (called Proxied m st counted) (caught_paces S catch)
    callback_statement_paces (Stmt.This m catch) st counted = stays st counted
    callback_statement_paces Stmt.Mark st counted = stays st counted
    callback_statement_paces (Stmt.Publish e) st counted = stays st counted
    callback_statement_paces (Stmt.Register s) st counted = stays st counted
    callback_statement_paces s st counted = row_statement_paces st.context.tx s st counted

    callback_paces : (statements : List Stmt) → Paces 0 (callback S calls statements)
    unfolding callback
    callback_paces [] st counted = stays st counted
    callback_paces (s ∷ statements) st counted = and_then_paces st (callback_statement S calls s st) (callback S calls statements) (callback_statement_paces s st counted) (callback_paces statements)

    listens_paces : (l : ListenerNo) (o : Option Listener) → Paces 0 (listens S calls l o)
    listens_paces l (Some listener) st counted = said_then 0 (Line.Listen l) (callback S calls listener.body) st refl counted (callback_paces listener.body)
    listens_paces l None st counted = stays st counted

    listens_in_paces : (round : Round) (committed : Bool) (l : ListenerNo) (o : Option Listener) → Paces 0 (listens_in S calls round committed l o)
    listens_in_paces round committed l (Some listener) st counted =
        either_follows 0 st (runs_in listener.phase round committed) (listens S calls l (Some listener) st) (Over None st) (listens_paces l (Some listener) st counted) (stays st counted)
    listens_in_paces round committed l None st counted = stays st counted

    called_back_paces : (round : Round) (committed : Bool) (l : Label) → Paces 0 (called_back S calls round committed l)
    called_back_paces round committed (Label.Sync s) st counted = callback_paces (sync_body round (slice_get S.syncs s.0)) st counted
    called_back_paces round committed (Label.Listener l) st counted = listens_in_paces round committed l (slice_get S.listeners l.0) st counted

    told_paces : (round : Round) (committed : Bool) (r : Registration) → Paces 0 (told S calls round committed r)
    unfolding told
    told_paces round committed r st counted = said_then 0 (callback_line round committed r.label) (called_back S calls round committed r.label) st (pauses round) counted (called_back_paces round committed r.label)
      where
        pauses : (round : Round) → pausing (callback_line round committed r.label) ≡ 0
        pauses Round.BeforeCommit = refl
        pauses Round.BeforeCompletion = refl
        pauses Round.AfterCommit = refl
        pauses Round.AfterCompletion = refl

    stopping_paces : (round : Round) (list : List Registration) → Paces 0 (stopping_round S calls round list)
    unfolding stopping_round
    stopping_paces round [] st counted = stays st counted
    stopping_paces round (r ∷ later) st counted = and_then_paces st (told S calls round true r st) (stopping_round S calls round later) (told_paces round true r st counted) (stopping_paces round later)

    swallowed : (x : Option ClassNo) (meaning : Meaning) → Paces 0 meaning → Paces 0 (λ st. meaning (swallows x st))
    swallowed (Some x) meaning paces st counted = said_then 0 (Line.Swallow x) meaning st refl counted paces
    swallowed None meaning paces st counted = paces st counted

    swallowing_paces : (round : Round) (committed : Bool) (list : List Registration) → Paces 0 (swallowing_round S calls round committed list)
    unfolding swallowing_round
    swallowing_paces round committed [] st counted = stays st counted
    swallowing_paces round committed (r ∷ later) st counted =
        finally_paces 0 st (told S calls round committed r st) (λ x after. swallowing_round S calls round committed later (swallows x after)) (told_paces round committed r st counted)
        (λ x. swallowed x (swallowing_round S calls round committed later) (swallowing_paces round committed later))

    round_paces : (owns : Bool) (round : List Registration → Meaning) → ((list : List Registration) → Paces 0 (round list)) → Paces 0 (round_of owns round)
    round_paces true round paces st counted = paces (ordered (registered st.context.syncs)) st counted
    round_paces false round paces st counted = stays st counted

    last_paces : (owns committed : Bool) → Paces 0 (last_round S calls owns committed)
    last_paces true committed st counted =
        let bared = in_context (without_syncs st.context) st (omega arith) in
        follow 0 0 0 st (with_context (without_syncs st.context) st) _ (omega arith) bared
        (swallowing_paces Round.AfterCompletion committed (ordered (registered st.context.syncs)) (with_context (without_syncs st.context) st) bared.counted)
    last_paces false committed st counted = stays st counted

  -- ---- suspension and resumption

  ones : (line : Label → Line) → ((l : Label) → pausing (line l) ≡ 1) → (rs : List Registration) → sum_by (λ r. pausing (line r.label)) rs ≡ sum_by (λ r. 1) rs
  ones line one [] = refl
  ones line one (r ∷ rs) = omega (arith, ones line one rs, one r.label, sum_by-cons (λ r. pausing (line r.label)) r rs, sum_by-cons (λ (r : Registration). 1) r rs)

  -- a line for each of a list in which no more is registered than has its line
  each_follows : (line : Label → Line) → ((l : Label) → pausing (line l) ≡ 1) → (list : List Registration) (st : State) → IsCounted st → sum_by (λ r. 1) list ≤ registered_by st
      → Follows R st (say_each line (map (λ r. r.label) (ordered list)) st)
  each_follows line one list st counted within =
      let grown = each_said registering line (ordered list) st in
      record {
        grows = omega (arith, grown);
        counted = omega (arith, grown, counted, ap count (each_context line (map (λ r. r.label) (ordered list)) st));
        paid = λ few. omega (
          arith,
          grown,
          few,
          within,
          each_said pausing line (ordered list) st,
          each_said (calling (R + R)) line (ordered list) st,
          ones line one (ordered list),
          by_order_sum (λ (r : Registration). r.order) (λ r. 1) list,
        );
      }

  bind_follows : (tx : Option Live) (st : State) → IsCounted st → Follows 0 st (say_bind tx st)
  bind_follows (Some live) st counted = says (Line.Bind live.connection) st refl counted
  bind_follows None st counted = stays st counted

  unbind_follows : (tx : Option Live) (st : State) → IsCounted st → Follows 0 st (say_unbind tx st)
  unbind_follows (Some live) st counted = says (Line.Unbind live.connection) st refl counted
  unbind_follows None st counted = stays st counted

  resume_follows : (older : Context) (st : State) → count older ≤ registered_by st → Follows R st (resume older st)
  resume_follows older st within =
      let back = in_context older st within in
      let bound = follow 0 0 0 st (with_context older st) (say_bind older.tx (with_context older st)) (omega arith) back (bind_follows older.tx (with_context older st) back.counted) in
      follow 0 R R st (say_bind older.tx (with_context older st)) (resume older st) (omega arith) bound
      (each_follows Line.Resume (λ l. refl) (registered older.syncs) (say_bind older.tx (with_context older st)) bound.counted (omega (arith, within, bound.grows)))

  suspended_follows : (suspends : Bool) (st : State) → IsCounted st → Follows R st (suspended suspends st)
  suspended_follows false st counted = slackens 0 R st st (omega arith) (stays st counted)
  suspended_follows true st counted =
      let each = each_follows Line.Suspend (λ l. refl) (registered st.context.syncs) st counted counted in
      let unbound = follow R 0 R st (say_each Line.Suspend (ordered_labels st.context.syncs) st) (say_unbind st.context.tx (say_each Line.Suspend (ordered_labels st.context.syncs) st)) (omega arith) each
      (unbind_follows st.context.tx (say_each Line.Suspend (ordered_labels st.context.syncs) st) each.counted) in
      follow R 0 R st (say_unbind st.context.tx (say_each Line.Suspend (ordered_labels st.context.syncs) st)) (suspend st) (omega arith) unbound
      (in_context bare (say_unbind st.context.tx (say_each Line.Suspend (ordered_labels st.context.syncs) st)) (omega arith))

  -- how much is registered in an older context
  abbrev held : Option Context → ℕ
  held (Some older) = count older
  held None = 0

  resumed_follows : (older : Option Context) (st : State) → IsCounted st → held older ≤ registered_by st → Follows R st (resumed older st)
  resumed_follows (Some older) st counted within = resume_follows older st within
  resumed_follows None st counted within = slackens 0 R st st (omega arith) (stays st counted)

  ruled_follows : (S : Scenario) (a : TxAttr) (x : Option ClassNo) (st : State) → IsCounted st → Follows 0 st (ruled S a.rules x st)
  ruled_follows S a (Some x) st counted = says _ st refl counted
  ruled_follows S a None st counted = stays st counted

  live_follows : (n : ℕ) (tx : Option Live) (next : Live → Meaning) (st : State) → IsCounted st → ((live : Live) → Follows n st (state_of (next live st))) → Follows n st (state_of (live_in tx next st))
  live_follows n (Some live) next st counted then = then live
  live_follows n None next st counted then = broken n st counted

  -- ---- completions

  -- a resumption has its room
  abbrev room : List Action → ℕ
  room [] = 0
  room (Action.Resumption ∷ rest) = R + room rest
  room (_ ∷ rest) = room rest

  at_each : (kind : Kind) → room (completion kind Ending.Commit) ≤ R → room (completion kind Ending.Rollback) ≤ R → room (completion kind Ending.Unexpected) ≤ R
      → (e : Ending) → room (completion kind e) ≤ R
  at_each kind commits rolls_back unexpected Ending.Commit = commits
  at_each kind commits rolls_back unexpected Ending.Rollback = rolls_back
  at_each kind commits rolls_back unexpected Ending.Unexpected = unexpected

  room_within : (kind : Kind) (e : Ending) → room (completion kind e) ≤ R
  unfolding completion
  room_within Kind.Fresh e = at_each Kind.Fresh (omega arith) (omega arith) (omega arith) e
  room_within Kind.Join e = at_each Kind.Join (omega arith) (omega arith) (omega arith) e
  room_within Kind.Point e = at_each Kind.Point (omega arith) (omega arith) (omega arith) e
  room_within Kind.Empty e = at_each Kind.Empty (omega arith) (omega arith) (omega arith) e

  room_after : (kind : Kind) (e : Ending) (y : Option ClassNo) → room (completion_after kind e y) ≤ R
  room_after kind e None = room_within kind e
  room_after Kind.Fresh e (Some y) = room_within Kind.Fresh Ending.Rollback
  room_after Kind.Join e (Some y) = room_within Kind.Empty Ending.Rollback
  room_after Kind.Point e (Some y) = room_within Kind.Empty Ending.Rollback
  room_after Kind.Empty e (Some y) = room_within Kind.Empty Ending.Rollback

  module _ (S : Scenario) (calls : Calls) (called : CallsPace calls) where
    module _ (scope : Scope) where
      -- a shared call of the live transaction, and then what follows it
      asks : (n : ℕ) (w : Live → Want) (next : Meaning) (st : State) → IsCounted st → held scope.older ≤ registered_by st
          → ((after : State) → IsCounted after → held scope.older ≤ registered_by after → Follows n after (state_of (next after)))
          → Follows n st (state_of (live_in st.context.tx (λ live. ask (w live) (λ _. next)) st))
      asks n w next st counted older then =
          live_follows n st.context.tx (λ live. ask (w live) (λ _. next)) st counted
          (λ live. ask_follows n (w live) (λ _. next) st counted (λ m heard still grows. then heard still (omega (arith, older, grows))))

      acts_pace : (rest : List Action) (x : Option ClassNo) (st : State) → IsCounted st → held scope.older ≤ registered_by st → Follows (room rest) st (state_of (acts S calls scope rest x st))
      unfolding acts
      acts_pace [] x st counted older =
          let said = says (Line.Leave scope.method x) st refl counted in record { grows = said.grows; counted = said.counted; paid = said.paid }
      acts_pace (Action.RoundBeforeCompletion ∷ rest) x st counted older =
          finally_follows (room rest) st (round_of scope.owns (swallowing_round S calls Round.BeforeCompletion false) st) (λ _. acts S calls scope rest x)
          (round_paces S calls called scope.owns (swallowing_round S calls Round.BeforeCompletion false) (swallowing_paces S calls called Round.BeforeCompletion false) st counted)
          (λ y middle still grows. acts_pace rest x middle still (omega (arith, older, grows)))
      acts_pace (Action.RoundAfterCommit ∷ rest) x st counted older =
          finally_follows (room rest) st (round_of scope.owns (stopping_round S calls Round.AfterCommit) st) (λ y. acts S calls scope rest (later_or y x))
          (round_paces S calls called scope.owns (stopping_round S calls Round.AfterCommit) (stopping_paces S calls called Round.AfterCommit) st counted)
          (λ y middle still grows. acts_pace rest (later_or y x) middle still (omega (arith, older, grows)))
      acts_pace (Action.RoundAfterCompletion committed ∷ rest) x st counted older =
          finally_follows (room rest) st (last_round S calls scope.owns committed st) (λ _. acts S calls scope rest x) (last_paces S calls called scope.owns committed st counted)
          (λ y middle still grows. acts_pace rest x middle still (omega (arith, older, grows)))
      acts_pace (Action.CommitStore ∷ rest) x st counted older = asks (room rest) (λ live. Want.Commit live.transaction) (acts S calls scope rest x) st counted older (acts_pace rest x)
      acts_pace (Action.RollbackStore ∷ rest) x st counted older = asks (room rest) (λ live. Want.Rollback live.transaction) (acts S calls scope rest x) st counted older (acts_pace rest x)
      acts_pace (Action.BackToPoint ∷ rest) x st counted older =
          asks (room rest) (λ live. Want.BackTo live.transaction) (λ back. acts S calls scope rest x (with_context (with_global_mark false back.context) back)) st counted older
          (λ back still held_still.
          let cleared = in_context (with_global_mark false back.context) back still in
          follow 0 (room rest) (room rest) back (with_context (with_global_mark false back.context) back) (state_of (acts S calls scope rest x (with_context (with_global_mark false back.context) back))) (omega arith) cleared
          (acts_pace rest x (with_context (with_global_mark false back.context) back) cleared.counted held_still))
      acts_pace (Action.ReleasePoint ∷ rest) x st counted older = asks (room rest) (λ live. Want.Release live.transaction) (acts S calls scope rest x) st counted older (acts_pace rest x)
      acts_pace (Action.MarkGlobally ∷ rest) x st counted older =
          let marked = in_context (with_global_mark true st.context) st counted in
          let said = says Line.MarkGlobal (with_context (with_global_mark true st.context) st) refl marked.counted in
          let both = follow 0 0 0 st (with_context (with_global_mark true st.context) st) (say Line.MarkGlobal (with_context (with_global_mark true st.context) st)) (omega arith) marked said in
          follow 0 (room rest) (room rest) st (say Line.MarkGlobal (with_context (with_global_mark true st.context) st))
          (state_of (acts S calls scope rest x (say Line.MarkGlobal (with_context (with_global_mark true st.context) st)))) (omega arith) both
          (acts_pace rest x (say Line.MarkGlobal (with_context (with_global_mark true st.context) st)) said.counted (omega (arith, older, both.grows)))
      acts_pace (Action.ThrowUnexpected ∷ rest) x st counted older =
          let said = says (Line.Throw UNEXPECTED_ROLLBACK_EXCEPTION) st refl counted in
          follow 0 (room rest) (room rest) st (say (Line.Throw UNEXPECTED_ROLLBACK_EXCEPTION) st)
          (state_of (acts S calls scope rest (Some UNEXPECTED_ROLLBACK_EXCEPTION) (say (Line.Throw UNEXPECTED_ROLLBACK_EXCEPTION) st))) (omega arith) said
          (acts_pace rest (Some UNEXPECTED_ROLLBACK_EXCEPTION) (say (Line.Throw UNEXPECTED_ROLLBACK_EXCEPTION) st) said.counted (omega (arith, older, said.grows)))
      acts_pace (Action.GiveBack ∷ rest) x st counted older = asks (room rest) (λ live. Want.Give live.connection) (acts S calls scope rest x) st counted older (acts_pace rest x)
      acts_pace (Action.Resumption ∷ rest) x st counted older =
          let back = resumed_follows scope.older st counted older in
          follow R (room rest) (R + room rest) st (resumed scope.older st) (state_of (acts S calls scope rest x (resumed scope.older st))) (omega arith) back
          (acts_pace rest x (resumed scope.older st) back.counted (omega (arith, older, back.grows)))

      completes_pace : (e : Ending) (x : Option ClassNo) (st : State) → IsCounted st → held scope.older ≤ registered_by st → Follows R st (state_of (completes S calls scope e x st))
      unfolding completes
      completes_pace e x st counted older =
          either_follows R st (has_before_commit scope.kind e)
          (finally (round_of scope.owns (stopping_round S calls Round.BeforeCommit) st) (λ y. acts S calls scope (completion_after scope.kind e y) (later_or y x)))
          (acts S calls scope (completion scope.kind e) x st)
          (finally_follows R st (round_of scope.owns (stopping_round S calls Round.BeforeCommit) st) (λ y. acts S calls scope (completion_after scope.kind e y) (later_or y x))
          (round_paces S calls called scope.owns (stopping_round S calls Round.BeforeCommit) (stopping_paces S calls called Round.BeforeCommit) st counted)
          (λ y middle still grows. slackens (room (completion_after scope.kind e y)) R middle (state_of (acts S calls scope (completion_after scope.kind e y) (later_or y x) middle)) (room_after scope.kind e y)
          (acts_pace (completion_after scope.kind e y) (later_or y x) middle still (omega (arith, older, grows)))))
          (slackens (room (completion scope.kind e)) R st (state_of (acts S calls scope (completion scope.kind e) x st)) (room_within scope.kind e) (acts_pace (completion scope.kind e) x st counted older))

      ends_pace : (a : TxAttr) (x : Option ClassNo) (st : State) → IsCounted st → held scope.older ≤ registered_by st → Follows R st (state_of (ends S calls scope a x st))
      unfolding ends
      ends_pace a x st counted older =
          let told = ruled_follows S a x st counted in
          let said = says (Line.End (ending scope.kind (rolls S a.rules x) (is_set st.local) st.context)) (ruled S a.rules x st) refl told.counted in
          let both = follow 0 0 0 st (ruled S a.rules x st) (say (Line.End (ending scope.kind (rolls S a.rules x) (is_set st.local) st.context)) (ruled S a.rules x st)) (omega arith) told said in
          follow 0 R R st (say (Line.End (ending scope.kind (rolls S a.rules x) (is_set st.local) st.context)) (ruled S a.rules x st)) (state_of (ends S calls scope a x st)) (omega arith) both
          (completes_pace (ending scope.kind (rolls S a.rules x) (is_set st.local) st.context) x
          (say (Line.End (ending scope.kind (rolls S a.rules x) (is_set st.local) st.context)) (ruled S a.rules x st)) said.counted (omega (arith, older, both.grows)))

      in_scope_pace : (a : TxAttr) (run : Meaning) → Paces 0 run → (st : State) → IsCounted st → held scope.older ≤ registered_by st → Follows R st (state_of (in_scope S calls scope a run st))
      unfolding in_scope
      in_scope_pace a run paces st counted older =
          let opened = says (Line.Opened scope.kind scope.owns) st refl counted in
          let ran = paces (with_local (Some false) (say (Line.Opened scope.kind scope.owns) st)) opened.counted in
          let before : Follows 0 st (with_local (Some false) (say (Line.Opened scope.kind scope.owns) st)) = record { grows = opened.grows; counted = opened.counted; paid = opened.paid } in
          finally_follows R st (run (with_local (Some false) (say (Line.Opened scope.kind scope.owns) st))) (ends S calls scope a)
          (follow 0 0 0 st (with_local (Some false) (say (Line.Opened scope.kind scope.owns) st)) (state_of (run (with_local (Some false) (say (Line.Opened scope.kind scope.owns) st)))) (omega arith) before ran)
          (λ x middle still grows. ends_pace a x middle still (omega (arith, older, grows)))

    -- ---- intercepted calls

    module _ (m : MethodNo) (a : TxAttr) (run : Meaning) (paces : Paces 0 run) where
      fresh_counts : (c t : ℕ) (read_only owns : Bool) → count (fresh_context c t read_only owns) ≡ 0
      fresh_counts c t read_only true = refl
      fresh_counts c t read_only false = refl

      begins_pace : (owns : Bool) (older : Context) (c : Option ℕ) (st : State) → IsCounted st → count older ≤ registered_by st → Follows R st (state_of (begins S calls m a run owns older c st))
      unfolding begins
      begins_pace owns older (Some c) st counted within =
          ask_follows R Want.Begin (on_begin opened) st counted
          (λ n heard still grows. begin_follows R opened n heard still (λ t. opened_pace t heard still (omega (arith, within, grows))))
        where
          opened : ℕ → Meaning
          opened t begun = in_scope S calls (record { method = m; kind = Kind.Fresh; owns = owns; older = Some older; outer = begun.local }) a run (with_context (fresh_context c t a.read_only owns) begun)

          opened_pace : (t : ℕ) (begun : State) → IsCounted begun → count older ≤ registered_by begun → Follows R begun (state_of (opened t begun))
          opened_pace t begun still within =
              let fresh = in_context (fresh_context c t a.read_only owns) begun (omega (arith, fresh_counts c t a.read_only owns)) in
              follow 0 R R begun (with_context (fresh_context c t a.read_only owns) begun) (state_of (opened t begun)) (omega arith) fresh
              (in_scope_pace (record { method = m; kind = Kind.Fresh; owns = owns; older = Some older; outer = begun.local }) a run paces (with_context (fresh_context c t a.read_only owns) begun) fresh.counted within)
      begins_pace owns older None st counted within =
          let back = resume_follows older st within in
          let thrown = says (Line.Throw CANNOT_CREATE_TRANSACTION_EXCEPTION) (resume older st) refl back.counted in
          let left = says (Line.Leave m (Some CANNOT_CREATE_TRANSACTION_EXCEPTION)) (say (Line.Throw CANNOT_CREATE_TRANSACTION_EXCEPTION) (resume older st)) refl thrown.counted in
          follow R 0 R st (resume older st) _ (omega arith) back (follow 0 0 0 (resume older st) (say (Line.Throw CANNOT_CREATE_TRANSACTION_EXCEPTION) (resume older st)) _ (omega arith) thrown left)

      -- a scope that suspended nothing
      plain_pace : (kind : Kind) (owns : Bool) (outer : Option Bool) (st : State) → IsCounted st
          → Follows R st (state_of (in_scope S calls (record { method = m; kind = kind; owns = owns; older = None; outer = outer }) a run st))
      plain_pace kind owns outer st counted = in_scope_pace (record { method = m; kind = kind; owns = owns; older = None; outer = outer }) a run paces st counted (omega arith)

      started_counts : (owns : Bool) (tx : Option Live) (syncs : Option (List Registration)) → count (record { tx = tx; syncs = started_syncs owns syncs }) ≤ sum_by (λ r. 1) (registered syncs)
      started_counts true tx syncs = omega arith
      started_counts false tx syncs = omega arith

      held_within : (suspends : Bool) (context : Context) → held (older_if suspends context) ≤ count context
      held_within true context = omega arith
      held_within false context = omega arith

      opens_pace : (o : Opening) (st : State) → IsCounted st → Follows (R + R) st (state_of (opens S calls m a run o st))
      unfolding opens
      opens_pace (Opening.Refuse x) st counted =
          let thrown = says (Line.Throw x) st refl counted in
          follow 0 0 (R + R) st (say (Line.Throw x) st) (say (Line.Leave m (Some x)) (say (Line.Throw x) st)) (omega arith) thrown (says (Line.Leave m (Some x)) (say (Line.Throw x) st) refl thrown.counted)
      opens_pace (Opening.Fresh suspends owns) st counted =
          let apart = suspended_follows suspends st counted in
          follow R R (R + R) st (suspended suspends st) (state_of (ask Want.Take (on_take (begins S calls m a run owns st.context)) (suspended suspends st))) (omega arith) apart
          (ask_follows R Want.Take (on_take (begins S calls m a run owns st.context)) (suspended suspends st) apart.counted
          (λ n heard still grows. take_follows R (begins S calls m a run owns st.context) n heard still (λ c. begins_pace owns st.context c heard still (omega (arith, counted, apart.grows, grows)))))
      opens_pace Opening.Join st counted = slackens R (R + R) st (state_of (within S calls m Kind.Join a run st)) (omega arith) (plain_pace Kind.Join false st.local st counted)
      opens_pace Opening.Point st counted =
          slackens R (R + R) st (state_of (live_in st.context.tx (λ live. ask (Want.Point live.transaction) (λ _. within S calls m Kind.Point a run)) st)) (omega arith)
          (live_follows R st.context.tx (λ live. ask (Want.Point live.transaction) (λ _. within S calls m Kind.Point a run)) st counted
          (λ live. ask_follows R (Want.Point live.transaction) (λ _. within S calls m Kind.Point a run) st counted (λ n heard still grows. plain_pace Kind.Point false heard.local heard still)))
      opens_pace (Opening.Empty suspends owns) st counted =
          let apart = suspended_follows suspends st counted in
          let started = in_context (record { tx = (suspended suspends st).context.tx; syncs = started_syncs owns (suspended suspends st).context.syncs }) (suspended suspends st)
          (omega (arith, apart.counted, started_counts owns (suspended suspends st).context.tx (suspended suspends st).context.syncs)) in
          follow R R (R + R) st (suspended suspends st) (state_of (empty S calls m a run owns (older_if suspends st.context) (suspended suspends st))) (omega arith) apart
          (follow 0 R R (suspended suspends st) (with_context (record { tx = (suspended suspends st).context.tx; syncs = started_syncs owns (suspended suspends st).context.syncs }) (suspended suspends st)) _ (omega arith) started
          (in_scope_pace (record { method = m; kind = Kind.Empty; owns = owns; older = older_if suspends st.context; outer = (suspended suspends st).local }) a run paces
          (with_context (record { tx = (suspended suspends st).context.tx; syncs = started_syncs owns (suspended suspends st).context.syncs }) (suspended suspends st)) started.counted
          (omega (arith, counted, apart.grows, held_within suspends st.context))))

      -- a call has paid for its suspension and its resumption
      intercepted_paces : Paces 0 (intercepted S calls m a run)
      unfolding intercepted
      intercepted_paces st counted =
          let said = says (Line.Call m a.propagation a.read_only) st refl counted in
          let opened = opens_pace (opening S.settings a st.context) (say (Line.Call m a.propagation a.read_only) st) said.counted in
          record {
            grows = omega (arith, said.grows, opened.grows);
            counted = opened.counted;
            paid = λ few.
                let paid = opened.paid few in
                omega (
                  arith,
                  paid,
                  sum_by_push pausing st.lines (Line.Call m a.propagation a.read_only),
                  sum_by_push (calling (R + R)) st.lines (Line.Call m a.propagation a.read_only),
                );
          }

    -- ---- bodies and calls

    deals_paces : (list : List Deed) → Paces 0 (deals S calls list)
    unfolding deals
    deals_paces [] st counted = stays st counted
    deals_paces (Register l ∷ later) st counted = and_then_paces st (register_listener S l st) (deals S calls later) (registers_paces _ st.context.syncs st refl counted) (deals_paces later)
    deals_paces (RunNow l ∷ later) st counted =
        and_then_paces st (listens S calls l (slice_get S.listeners l.0) st) (deals S calls later) (listens_paces S calls called l (slice_get S.listeners l.0) st counted) (deals_paces later)
    deals_paces (Skip l ∷ later) st counted = said_then 0 (Line.Skip l) (deals S calls later) st refl counted (deals_paces later)

    statement_paces : (s : Stmt) → Paces 0 (statement S calls s)
    unfolding statement
    statement_paces Stmt.Mark st counted = marks_paces st.local st counted
    statement_paces (Stmt.Register s) st counted = registers_paces _ st.context.syncs st refl counted
    statement_paces (Stmt.Publish e) st counted =
        said_then 0 (Line.Publish e) (deals S calls (deeds S e (is_active st.context) (is_live st.context))) st refl counted (deals_paces (deeds S e (is_active st.context) (is_live st.context)))
    statement_paces (Stmt.This m catch) st counted = finally_paces 0 st (calls Direct m st) (caught S catch) (called Direct m st counted) (caught_paces S catch)
    statement_paces s st counted = callback_statement_paces S calls called s st counted

    body_paces : (statements : List Stmt) → Paces 0 (body S calls statements)
    unfolding body
    body_paces [] st counted = stays st counted
    body_paces (s ∷ statements) st counted = and_then_paces st (statement S calls s st) (body S calls statements) (statement_paces s st counted) (body_paces statements)

    unscoped_paces : (line : Line) (m : MethodNo) → pausing line ≡ 0 → Paces 0 (unscoped S calls line m)
    unscoped_paces line m none st counted =
        said_then 0 line (λ said. finally (body S calls (body_of S m) said) (leaves m)) st none counted
        (λ said still. finally_paces 0 said (body S calls (body_of S m) said) (leaves m) (body_paces (body_of S m) said still) (λ x after counted. says (Line.Leave m x) after refl counted))

    proxied_paces : (m : MethodNo) (o : Option TxAttr) → Paces 0 (proxied S calls m o)
    proxied_paces m None st counted = unscoped_paces (Line.Plain m) m refl st counted
    proxied_paces m (Some a) st counted = intercepted_paces m a (body S calls (body_of S m)) (body_paces (body_of S m)) st counted

    invoked_paces : CallsPace (invoked S calls)
    unfolding invoked
    invoked_paces Proxied m st counted = proxied_paces m (attribute S m) st counted
    invoked_paces Direct m st counted = unscoped_paces (Line.This m) m refl st counted

  -- ---- whole scripts

  calls_pace : (S : Scenario) (bound : ℕ) → CallsPace (calls_below S bound)
  unfolding calls_below
  calls_pace S zero way m st counted = stays st counted
  calls_pace S (suc bound) way m st counted =
      either_follows 0 st (rank S m == bound) (invoked S (calls_below S bound) way m st) (calls_below S bound way m st)
      (invoked_paces S (calls_below S bound) (calls_pace S bound) way m st counted) (calls_pace S bound way m st counted)

  tops_paces : (S : Scenario) (k : ℕ) (calls : List MethodNo) → Paces 0 (tops S k calls)
  unfolding tops
  tops_paces S k [] st counted = stays st counted
  tops_paces S k (m ∷ calls) st counted =
      said_then 0 (Line.Top k) (λ said. finally (invoke S m said) (λ _. tops S (k + 1) calls)) st refl counted
      (λ said still. finally_paces 0 said (invoke S m said) (λ _. tops S (k + 1) calls) (calls_pace S 65 Proxied m said still) (λ _. tops_paces S (k + 1) calls))

  -- where at most so many are registered, the calls of a script pay for its suspensions and resumptions
  pub script_pauses : (S : Scenario) (c : ℕ) (pool : List PoolNote) (store : List StoreNote) → sum_by registering (state_of (script S c pool store)).lines ≤ R
      → sum_by pausing (state_of (script S c pool store)).lines ≤ sum_by (calling (R + R)) (state_of (script S c pool store)).lines
  unfolding script
  script_pauses S c pool store few =
      let follows = tops_paces S 0 (calls_of S c) (at_first pool store) (omega arith) in let paid = follows.paid few in omega (arith, paid)
