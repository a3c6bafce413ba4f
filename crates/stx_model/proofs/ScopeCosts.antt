-- What intercepted calls spend: their scope's own shared calls, their body, and the rounds that they owe.
use Rattle.std.proofs.Common.{◌≡◌, ℕ, ◌+◌, ◌*◌, ◌≤◌, Bool, true, false, List, [], ◌∷◌, Option, Some, None, refl, ap, arith}
use Rattle.std.specs.List.{sum_by}
use Rattle.std.proofs.lemmas.List.Sums.{sum_by-cons}
use Rattle.stx_scenario.specs.declared.numbers.ClassNo.{ClassNo}
use Rattle.stx_scenario.specs.declared.numbers.MethodNo.{MethodNo}
use Rattle.stx_scenario.specs.declared.classes.TheConstants.{CANNOT_CREATE_TRANSACTION_EXCEPTION, UNEXPECTED_ROLLBACK_EXCEPTION}
use Rattle.stx_scenario.specs.declared.scenario.Scenario.{Scenario}
use Rattle.stx_scenario.specs.declared.scenario.TxAttr.{TxAttr}
use Rattle.stx_base.specs.declared.manager.Action.{Action}
use Rattle.stx_base.specs.declared.call.Want.{Want}
use Rattle.stx_base.specs.declared.cost.Cost.{Cost}
use Rattle.stx_base.specs.declared.history.Note.{Note}
use Rattle.stx_base.specs.declared.line.Line.{Line}
use Rattle.stx_base.specs.declared.line.Label.{Label}
use Rattle.stx_base.specs.declared.manager.Kind.{Kind}
use Rattle.stx_base.specs.declared.manager.Opening.{Opening}
use Rattle.stx_base.specs.declared.manager.Ending.{Ending}
use Rattle.stx_base.specs.declared.manager.Round.{Round}
use Rattle.stx_base.specs.Notes.{is_answer}
use Rattle.stx_model.specs.Contexts.{Context, Live, Registration, bare, registered, ordered, ordered_labels, with_global_mark, without_syncs}
use Rattle.stx_model.specs.Ending.{completion, completion_after, has_before_commit, ending}
use Rattle.stx_model.specs.Meanings.{State, Result, Over, Stops, Breaks, Meaning, finally, say, with_context, with_local, unread, hear, answered, ask, on_take, on_begin}
use Rattle.stx_model.specs.Opening.{opening}
use Rattle.stx_base.specs.Weight.{one}
use Rattle.stx_model.specs.Rounds.{Calls, stopping_round, swallowing_round, round_of, last_round}
use Rattle.stx_model.specs.Scopes.{Scope, live_in, later_or, rolls, ruled, is_set, say_each, say_bind, say_unbind, resume, resumed, suspended, started_syncs, fresh_context, acts, completes, ends, in_scope, within, begins, opens, intercepted}
use Rattle.stx_model.specs.Assurances.{AtEnd}
use Rattle.stx_model.proofs.Apart.{hear_keeps}
use Rattle.stx_model.proofs.Keeping.{CallsKeep, Keeps}
use Rattle.stx_model.proofs.Leaving.{ruled_keeps, opens_leaves}
use Rattle.stx_model.proofs.Spending.{Measure, price, Owed, owes, Spends, Costs, spends_within, costs_more, says, finally_spends, either_spends, ask_costs, take_costs, begin_costs, broken}
use Rattle.stx_model.proofs.Rounding.{due, IsOwed, share, before_last, before_after_commit, before_before_completion, before_commit_share, after_completion_share, is_owed_before_completion, is_owed_after_commit, is_owed_last, is_owed_due, CallsCost, stopping_costs, swallowing_costs, Rounds, round_takes, sum_more}
use Rattle.stx_model.proofs.Sharing.{by_order_sum}

-- nothing is owed
abbrev nobody : Owed
nobody r = 0

none_owed : (rs : List Registration) → sum_by nobody rs ≡ 0
none_owed [] = refl
none_owed (r ∷ rs) = omega (arith, none_owed rs, sum_by-cons nobody r rs)

-- ---- suspension, resumption and rules

module _ (M : Measure) where
  each_spent : (line : Label → Line) (ls : List Label) (st : State) → ((l : Label) → price M.call M.register M.line (line l) ≡ 0) → M.spent (say_each line ls st) ≤ M.spent st
  each_spent line [] st free = omega arith
  each_spent line (l ∷ ls) st free = omega (arith, each_spent line ls (say (line l) st) free, M.said (line l) st, free l)

  bind_spent : (tx : Option Live) (st : State) → M.spent (say_bind tx st) ≤ M.spent st + M.line
  bind_spent (Some live) st = M.said (Line.Bind live.connection) st
  bind_spent None st = omega arith

  unbind_spent : (tx : Option Live) (st : State) → M.spent (say_unbind tx st) ≤ M.spent st + M.line
  unbind_spent (Some live) st = M.said (Line.Unbind live.connection) st
  unbind_spent None st = omega arith

  pub resume_spent : (older : Context) (st : State) → M.spent (resume older st) ≤ M.spent st + M.line
  resume_spent older st =
      omega (
        arith,
        each_spent Line.Resume (ordered_labels older.syncs) (say_bind older.tx (with_context older st)) (λ l. refl),
        bind_spent older.tx (with_context older st),
        M.in_context older st,
      )

  resumed_spent : (older : Option Context) (st : State) → M.spent (resumed older st) ≤ M.spent st + M.line
  resumed_spent (Some older) st = resume_spent older st
  resumed_spent None st = omega arith

  suspended_spent : (suspends : Bool) (st : State) → M.spent (suspended suspends st) ≤ M.spent st + M.line
  suspended_spent false st = omega arith
  suspended_spent true st =
      omega (
        arith,
        M.in_context bare (say_unbind st.context.tx (say_each Line.Suspend (ordered_labels st.context.syncs) st)),
        unbind_spent st.context.tx (say_each Line.Suspend (ordered_labels st.context.syncs) st),
        each_spent Line.Suspend (ordered_labels st.context.syncs) st (λ l. refl),
      )

  ruled_spent : (S : Scenario) (a : TxAttr) (x : Option ClassNo) (st : State) → M.spent (ruled S a.rules x st) ≤ M.spent st + M.line
  ruled_spent S a (Some x) st = M.said _ st
  ruled_spent S a None st = omega arith

-- ---- the completion of an owner: what it owes at the beginning pays for the rounds

module _ (M : Measure) (S : Scenario) (calls : Calls) (of : MethodNo → Cost) (called : CallsCost M S calls of) (scope : Scope) where
  -- while so much is owed, these actions spend so much beside
  abbrev Acts : Owed → ℕ → List Action → Type 0
  Acts p n rest = (x : Option ClassNo) (st : State) → Spends M nobody (M.spent st) (owes p st.context + n) (acts S calls scope rest x st)

  weaker : (p q : Owed) (n m : ℕ) (rest : List Action) → ((r : Registration) → p r ≤ q r) → n ≤ m → Acts p n rest → Acts q m rest
  weaker p q n m rest less le spends x st =
      spends_within M nobody (M.spent st) (M.spent st) (owes p st.context + n) (owes q st.context + m) (acts S calls scope rest x st)
      (omega (arith, le, sum_more p q (registered st.context.syncs) less)) (spends x st)

  ended : (p : Owed) → Acts p M.line []
  unfolding acts
  ended p x st = omega (arith, none_owed (registered st.context.syncs), M.said (Line.Leave scope.method x) (with_local scope.outer st), M.marked scope.outer st)

  resumes : (p : Owed) → Acts p (2 * M.line) (Action.Resumption ∷ [])
  unfolding acts
  resumes p x st =
      spends_within M nobody (M.spent (resumed scope.older st)) (M.spent st) (owes nobody (resumed scope.older st).context + M.line) (owes p st.context + 2 * M.line) (acts S calls scope [] x (resumed scope.older st))
      (omega (arith, resumed_spent M scope.older st, none_owed (registered (resumed scope.older st).context.syncs))) (ended nobody x (resumed scope.older st))

  -- a shared call of the live transaction
  asks : (p : Owed) (n : ℕ) (w : Live → Want) (rest : List Action) → Acts p n rest → (x : Option ClassNo) (st : State)
      → Spends M nobody (M.spent st) (owes p st.context + (M.note + n)) (live_in st.context.tx (λ live. ask (w live) (λ _. acts S calls scope rest x)) st)
  unfolding ask
  asks p n w rest spends x st = by st.context.tx
    where
      by : (tx : Option Live) → Spends M nobody (M.spent st) (owes p st.context + (M.note + n)) (live_in tx (λ live. ask (w live) (λ _. acts S calls scope rest x)) st)
      by None = omega arith
      by (Some live) = asked (unread (w live) st)
        where
          heard : (m : Note) → Spends M nobody (M.spent st) (owes p st.context + (M.note + n)) (acts S calls scope rest x (hear m st))
          heard m =
              spends_within M nobody (M.spent (hear m st)) (M.spent st) (owes p (hear m st).context + n) (owes p st.context + (M.note + n)) (acts S calls scope rest x (hear m st))
              (omega (arith, M.heard m st, ap (owes p) (hear_keeps m st).0)) (spends x (hear m st))

          asked : (m : Option Note) → Spends M nobody (M.spent st) (owes p st.context + (M.note + n)) (answered (w live) (λ _. acts S calls scope rest x) st m)
          asked None = omega arith
          asked (Some m) = either_spends M nobody (M.spent st) (owes p st.context + (M.note + n)) (is_answer (w live) m) (acts S calls scope rest x (hear m st)) (Breaks st) (heard m) (omega arith)

  -- the rounds
  rounds_then : (p q : Owed) (n : ℕ) (owns : Bool) (round : List Registration → Meaning) (next : Option ClassNo → Meaning) → ((r : Registration) → q r ≤ p r) → Rounds M p q (round_of true round)
      → ((y : Option ClassNo) (st : State) → Spends M nobody (M.spent st) (owes q st.context + n) (next y st)) → (st : State)
      → Spends M nobody (M.spent st) (owes p st.context + n) (finally (round_of owns round st) next)
  rounds_then p q n true round next less rounds then st = by (round_of true round st) (rounds st)
    where
      by : (r : Result) → Spends M q (M.spent st) (owes p st.context) r → Spends M nobody (M.spent st) (owes p st.context + n) (finally r next)
      by (Over y end) h = spends_within M nobody (M.spent end) (M.spent st) (owes q end.context + n) (owes p st.context + n) (next y end) (omega (arith, h)) (then y end)
      by (Stops w end) h = omega (arith, h)
      by (Breaks end) h = omega (arith, h)
  rounds_then p q n false round next less rounds then st =
      spends_within M nobody (M.spent st) (M.spent st) (owes q st.context + n) (owes p st.context + n) (next None st)
      (omega (arith, sum_more q p (registered st.context.syncs) less)) (then None st)

  before_completion : (n : ℕ) (rest : List Action) → Acts (before_after_commit M S of) n rest → Acts (before_before_completion M S of) n (Action.RoundBeforeCompletion ∷ rest)
  unfolding acts
  before_completion n rest spends x st =
      rounds_then (before_before_completion M S of) (before_after_commit M S of) n scope.owns (swallowing_round S calls Round.BeforeCompletion false) (λ _. acts S calls scope rest x) (λ r. omega arith)
      (round_takes M (before_before_completion M S of) (before_after_commit M S of) (share M S of Round.BeforeCompletion false) (swallowing_round S calls Round.BeforeCompletion false)
      (swallowing_costs M S calls of called (before_after_commit M S of) (is_owed_after_commit M S of) Round.BeforeCompletion false) (λ r. omega arith))
      (λ y after. spends x after) st

  after_commit : (n : ℕ) (rest : List Action) → Acts (before_last M S of) n rest → Acts (before_after_commit M S of) n (Action.RoundAfterCommit ∷ rest)
  unfolding acts
  after_commit n rest spends x st =
      rounds_then (before_after_commit M S of) (before_last M S of) n scope.owns (stopping_round S calls Round.AfterCommit) (λ y. acts S calls scope rest (later_or y x)) (λ r. omega arith)
      (round_takes M (before_after_commit M S of) (before_last M S of) (share M S of Round.AfterCommit true) (stopping_round S calls Round.AfterCommit)
      (stopping_costs M S calls of called (before_last M S of) (is_owed_last M S of) Round.AfterCommit) (λ r. omega arith))
      (λ y after. spends (later_or y x) after) st

  -- the last round takes the registrations out, and nothing is owed any more
  after_completion : (committed : Bool) (n : ℕ) (rest : List Action) → Acts nobody n rest → Acts (before_last M S of) n (Action.RoundAfterCompletion committed ∷ rest)
  unfolding acts
  after_completion committed n rest spends x st = by scope.owns
    where
      enough : sum_by (share M S of Round.AfterCompletion committed) (ordered (registered st.context.syncs)) ≤ owes (before_last M S of) st.context
      enough = omega (
        arith,
        by_order_sum (λ r. r.order) (share M S of Round.AfterCompletion committed) (registered st.context.syncs),
        sum_more (share M S of Round.AfterCompletion committed) (before_last M S of) (registered st.context.syncs) (after_completion_share M S of committed),
      )

      rounded : (r : Result) → Spends M nobody (M.spent (with_context (without_syncs st.context) st)) (0 + sum_by (share M S of Round.AfterCompletion committed) (ordered (registered st.context.syncs))) r
          → Spends M nobody (M.spent st) (owes (before_last M S of) st.context + n) (finally r (λ _. acts S calls scope rest x))
      rounded (Over y end) h =
          spends_within M nobody (M.spent end) (M.spent st) (owes nobody end.context + n) (owes (before_last M S of) st.context + n) (acts S calls scope rest x end)
          (omega (arith, h, enough, M.in_context (without_syncs st.context) st)) (spends x end)
      rounded (Stops w end) h = omega (arith, h, enough, M.in_context (without_syncs st.context) st)
      rounded (Breaks end) h = omega (arith, h, enough, M.in_context (without_syncs st.context) st)

      by : (owns : Bool) → Spends M nobody (M.spent st) (owes (before_last M S of) st.context + n) (finally (last_round S calls owns committed st) (λ _. acts S calls scope rest x))
      by true =
          rounded (swallowing_round S calls Round.AfterCompletion committed (ordered (registered st.context.syncs)) (with_context (without_syncs st.context) st))
          (swallowing_costs M S calls of called nobody (λ r. omega arith) Round.AfterCompletion committed (ordered (registered st.context.syncs)) (with_context (without_syncs st.context) st))
      by false =
          spends_within M nobody (M.spent st) (M.spent st) (owes nobody st.context + n) (owes (before_last M S of) st.context + n) (acts S calls scope rest x st)
          (omega (arith, none_owed (registered st.context.syncs))) (spends x st)

  commits : (p : Owed) (n : ℕ) (rest : List Action) → Acts p n rest → Acts p (M.note + n) (Action.CommitStore ∷ rest)
  unfolding acts
  commits p n rest spends = asks p n (λ live. Want.Commit live.transaction) rest spends

  rolls_back : (p : Owed) (n : ℕ) (rest : List Action) → Acts p n rest → Acts p (M.note + n) (Action.RollbackStore ∷ rest)
  unfolding acts
  rolls_back p n rest spends = asks p n (λ live. Want.Rollback live.transaction) rest spends

  gives_back : (p : Owed) (n : ℕ) (rest : List Action) → Acts p n rest → Acts p (M.note + n) (Action.GiveBack ∷ rest)
  unfolding acts
  gives_back p n rest spends = asks p n (λ live. Want.Give live.connection) rest spends

  unexpected : (p : Owed) (n : ℕ) (rest : List Action) → Acts p n rest → Acts p (M.line + n) (Action.ThrowUnexpected ∷ rest)
  unfolding acts
  unexpected p n rest spends x st =
      spends_within M nobody (M.spent (say (Line.Throw UNEXPECTED_ROLLBACK_EXCEPTION) st)) (M.spent st) (owes p st.context + n) (owes p st.context + (M.line + n))
      (acts S calls scope rest (Some UNEXPECTED_ROLLBACK_EXCEPTION) (say (Line.Throw UNEXPECTED_ROLLBACK_EXCEPTION) st))
      (omega (arith, M.said (Line.Throw UNEXPECTED_ROLLBACK_EXCEPTION) st)) (spends _ (say (Line.Throw UNEXPECTED_ROLLBACK_EXCEPTION) st))

  less_than_due : (r : Registration) → before_before_completion M S of r ≤ due M S of r
  less_than_due r = is_owed_before_completion M S of r

  -- a commit or a rollback, a give, and at most a throw, a bind and the end of the call
  abbrev fresh_end : ℕ
  fresh_end = 2 * M.note + 3 * M.line

  fresh_rolls_back : Acts (before_before_completion M S of) fresh_end (completion Kind.Fresh Ending.Rollback)
  unfolding completion
  fresh_rolls_back =
      before_completion fresh_end _ (weaker (before_last M S of) (before_after_commit M S of) (M.note + (M.note + 2 * M.line)) fresh_end _ (λ r. omega arith) (omega arith)
      (rolls_back (before_last M S of) (M.note + 2 * M.line) _ (after_completion false (M.note + 2 * M.line) _ (gives_back nobody (2 * M.line) _ (resumes nobody)))))

  fresh_unexpected : Acts (before_before_completion M S of) fresh_end (completion Kind.Fresh Ending.Unexpected)
  unfolding completion
  fresh_unexpected =
      before_completion fresh_end _ (weaker (before_last M S of) (before_after_commit M S of) (M.note + (M.line + (M.note + 2 * M.line))) fresh_end _ (λ r. omega arith) (omega arith)
      (rolls_back (before_last M S of) (M.line + (M.note + 2 * M.line)) _
      (after_completion false (M.line + (M.note + 2 * M.line)) _ (unexpected nobody (M.note + 2 * M.line) _ (gives_back nobody (2 * M.line) _ (resumes nobody))))))

  fresh_commits : Acts (before_before_completion M S of) fresh_end (completion Kind.Fresh Ending.Commit)
  unfolding completion
  fresh_commits =
      before_completion fresh_end _ (weaker (before_after_commit M S of) (before_after_commit M S of) (M.note + (M.note + 2 * M.line)) fresh_end _ (λ r. omega arith) (omega arith)
      (commits (before_after_commit M S of) (M.note + 2 * M.line) _ (after_commit (M.note + 2 * M.line) _ (after_completion true (M.note + 2 * M.line) _ (gives_back nobody (2 * M.line) _ (resumes nobody))))))

  empty_rolls_back : Acts (before_before_completion M S of) (2 * M.line) (completion Kind.Empty Ending.Rollback)
  unfolding completion
  empty_rolls_back =
      before_completion (2 * M.line) _ (weaker (before_last M S of) (before_after_commit M S of) (2 * M.line) (2 * M.line) _ (λ r. omega arith) (omega arith) (after_completion false (2 * M.line) _ (resumes nobody)))

  empty_commits : Acts (before_before_completion M S of) (2 * M.line) (completion Kind.Empty Ending.Commit)
  unfolding completion
  empty_commits = before_completion (2 * M.line) _ (after_commit (2 * M.line) _ (after_completion true (2 * M.line) _ (resumes nobody)))

  empty_unexpected : Acts (before_before_completion M S of) (2 * M.line) (completion Kind.Empty Ending.Unexpected)
  unfolding completion
  empty_unexpected = weaker (before_before_completion M S of) (before_before_completion M S of) M.line (2 * M.line) [] (λ r. omega arith) (omega arith) (ended (before_before_completion M S of))

  -- the before_commit round, and then the rest
  before_commit : (n : ℕ) (kind : Kind) (e : Ending) → ((y : Option ClassNo) → Acts (before_before_completion M S of) n (completion_after kind e y)) → (x : Option ClassNo) (st : State)
      → Spends M nobody (M.spent st) (owes (due M S of) st.context + n) (finally (round_of scope.owns (stopping_round S calls Round.BeforeCommit) st) (λ y. acts S calls scope (completion_after kind e y) (later_or y x)))
  before_commit n kind e spends x st =
      rounds_then (due M S of) (before_before_completion M S of) n scope.owns (stopping_round S calls Round.BeforeCommit) (λ y. acts S calls scope (completion_after kind e y) (later_or y x)) less_than_due
      (round_takes M (due M S of) (before_before_completion M S of) (share M S of Round.BeforeCommit true) (stopping_round S calls Round.BeforeCommit)
      (stopping_costs M S calls of called (before_before_completion M S of) (is_owed_before_completion M S of) Round.BeforeCommit) (before_commit_share M S of))
      (λ y after. spends y (later_or y x) after) st

  abbrev Completes : Kind → Ending → ℕ → Type 0
  Completes kind e n = (x : Option ClassNo) (st : State) → Spends M nobody (M.spent st) (owes (due M S of) st.context + n) (elim (has_before_commit kind e) [
    | true ↦ finally (round_of scope.owns (stopping_round S calls Round.BeforeCommit) st) (λ y. acts S calls scope (completion_after kind e y) (later_or y x))
    | false ↦ acts S calls scope (completion kind e) x st
  ])

  completes_fresh : (e : Ending) → Completes Kind.Fresh e fresh_end
  completes_fresh Ending.Commit = before_commit fresh_end Kind.Fresh Ending.Commit then
    where
      then : (y : Option ClassNo) → Acts (before_before_completion M S of) fresh_end (completion_after Kind.Fresh Ending.Commit y)
      then None = fresh_commits
      then (Some y) = fresh_rolls_back
  completes_fresh Ending.Rollback = weaker (before_before_completion M S of) (due M S of) fresh_end fresh_end (completion Kind.Fresh Ending.Rollback) less_than_due (omega arith) fresh_rolls_back
  completes_fresh Ending.Unexpected = weaker (before_before_completion M S of) (due M S of) fresh_end fresh_end (completion Kind.Fresh Ending.Unexpected) less_than_due (omega arith) fresh_unexpected

  completes_empty : (e : Ending) → Completes Kind.Empty e (2 * M.line)
  completes_empty Ending.Commit = before_commit (2 * M.line) Kind.Empty Ending.Commit then
    where
      then : (y : Option ClassNo) → Acts (before_before_completion M S of) (2 * M.line) (completion_after Kind.Empty Ending.Commit y)
      then None = empty_commits
      then (Some y) = empty_rolls_back
  completes_empty Ending.Rollback = weaker (before_before_completion M S of) (due M S of) (2 * M.line) (2 * M.line) (completion Kind.Empty Ending.Rollback) less_than_due (omega arith) empty_rolls_back
  completes_empty Ending.Unexpected = weaker (before_before_completion M S of) (due M S of) (2 * M.line) (2 * M.line) (completion Kind.Empty Ending.Unexpected) less_than_due (omega arith) empty_unexpected

  -- an open scope with registrations of its own
  owner_costs : (n b : ℕ) (a : TxAttr) (run : Meaning) → ((e : Ending) → Completes scope.kind e n) → Costs M (due M S of) b run → (st : State) → owes (due M S of) st.context ≡ 0
      → Spends M nobody (M.spent st) (b + n + 3 * M.line) (in_scope S calls scope a run st)
  unfolding in_scope ends completes
  owner_costs n b a run completed costs st none =
      by (run (with_local (Some false) (say (Line.Opened scope.kind scope.owns) st)))
      (spends_within M (due M S of) (M.spent (with_local (Some false) (say (Line.Opened scope.kind scope.owns) st))) (M.spent st) (owes (due M S of) st.context + b) (owes (due M S of) st.context + b + M.line)
      (run (with_local (Some false) (say (Line.Opened scope.kind scope.owns) st)))
      (omega (arith, M.marked (Some false) (say (Line.Opened scope.kind scope.owns) st), M.said (Line.Opened scope.kind scope.owns) st))
      (costs (with_local (Some false) (say (Line.Opened scope.kind scope.owns) st))))
    where
      by : (r : Result) → Spends M (due M S of) (M.spent st) (owes (due M S of) st.context + b + M.line) r → Spends M nobody (M.spent st) (b + n + 3 * M.line) (finally r (ends S calls scope a))
      by (Over x end) h =
          spends_within M nobody (M.spent (say (Line.End (ending scope.kind (rolls S a.rules x) (is_set end.local) end.context)) (ruled S a.rules x end))) (M.spent st)
          (owes (due M S of) (ruled S a.rules x end).context + n) (b + n + 3 * M.line) (ends S calls scope a x end)
          (omega (
            arith,
            h,
            none,
            ruled_spent M S a x end,
            ap (owes (due M S of)) (ruled_keeps S a x end),
            M.said (Line.End (ending scope.kind (rolls S a.rules x) (is_set end.local) end.context)) (ruled S a.rules x end),
          ))
          (completed (ending scope.kind (rolls S a.rules x) (is_set end.local) end.context) x
          (say (Line.End (ending scope.kind (rolls S a.rules x) (is_set end.local) end.context)) (ruled S a.rules x end)))
      by (Stops w end) h = omega (arith, h, none)
      by (Breaks end) h = omega (arith, h, none)

-- ---- scopes that take part in what is there

module _ (M : Measure) (S : Scenario) (calls : Calls) (o : Owed) (scope : Scope) where
  abbrev Joins : ℕ → List Action → Type 0
  Joins n rest = (x : Option ClassNo) (st : State) → Spends M o (M.spent st) (owes o st.context + n) (acts S calls scope rest x st)

  left : Joins M.line []
  unfolding acts
  left x st = omega (arith, M.said (Line.Leave scope.method x) (with_local scope.outer st), M.marked scope.outer st)

  marks : (n : ℕ) (rest : List Action) → Joins n rest → Joins (M.line + n) (Action.MarkGlobally ∷ rest)
  unfolding acts
  marks n rest spends x st =
      spends_within M o (M.spent (say Line.MarkGlobal (with_context (with_global_mark true st.context) st))) (M.spent st) (owes o st.context + n) (owes o st.context + (M.line + n))
      (acts S calls scope rest x (say Line.MarkGlobal (with_context (with_global_mark true st.context) st)))
      (omega (arith, M.said Line.MarkGlobal (with_context (with_global_mark true st.context) st), M.in_context (with_global_mark true st.context) st))
      (spends x (say Line.MarkGlobal (with_context (with_global_mark true st.context) st)))

  throws_unexpected : (n : ℕ) (rest : List Action) → Joins n rest → Joins (M.line + n) (Action.ThrowUnexpected ∷ rest)
  unfolding acts
  throws_unexpected n rest spends x st =
      says M o (Line.Throw UNEXPECTED_ROLLBACK_EXCEPTION) n (M.line + n) (acts S calls scope rest (Some UNEXPECTED_ROLLBACK_EXCEPTION)) st (omega arith) (spends (Some UNEXPECTED_ROLLBACK_EXCEPTION))

  live_costs : (n : ℕ) (tx : Option Live) (next : Live → Meaning) → ((live : Live) → Costs M o n (next live)) → Costs M o n (live_in tx next)
  live_costs n (Some live) next costs st = costs live st
  live_costs n None next costs st = broken M o n st

  releases : (n : ℕ) (rest : List Action) → Joins n rest → Joins (M.note + n) (Action.ReleasePoint ∷ rest)
  unfolding acts
  releases n rest spends x st =
      live_costs (M.note + n) st.context.tx (λ live. ask (Want.Release live.transaction) (λ _. acts S calls scope rest x))
      (λ live. ask_costs M o (Want.Release live.transaction) (λ _. acts S calls scope rest x) n (λ _. spends x)) st

  goes_back : (n : ℕ) (rest : List Action) → Joins n rest → Joins (M.note + n) (Action.BackToPoint ∷ rest)
  unfolding acts
  goes_back n rest spends x st =
      live_costs (M.note + n) st.context.tx (λ live. ask (Want.BackTo live.transaction) (λ _ back. acts S calls scope rest x (with_context (with_global_mark false back.context) back)))
      (λ live. ask_costs M o (Want.BackTo live.transaction) (λ _ back. acts S calls scope rest x (with_context (with_global_mark false back.context) back)) n (λ _. cleared)) st
    where
      cleared : Costs M o n (λ back. acts S calls scope rest x (with_context (with_global_mark false back.context) back))
      cleared back =
          spends_within M o (M.spent (with_context (with_global_mark false back.context) back)) (M.spent back) (owes o back.context + n) (owes o back.context + n)
          (acts S calls scope rest x (with_context (with_global_mark false back.context) back)) (omega (arith, M.in_context (with_global_mark false back.context) back))
          (spends x (with_context (with_global_mark false back.context) back))

  -- a scope that completes so, after its body
  joined_costs : (n b : ℕ) (a : TxAttr) (run : Meaning) → ((e : Ending) (x : Option ClassNo) → Costs M o n (completes S calls scope e x)) → Costs M o b run → Costs M o (b + n + 3 * M.line) (in_scope S calls scope a run)
  unfolding in_scope ends
  joined_costs n b a run completed costs st =
      spends_within M o (M.spent st) (M.spent st) (owes o st.context + b + M.line + (2 * M.line + n)) (owes o st.context + (b + n + 3 * M.line))
      (finally (run (with_local (Some false) (say (Line.Opened scope.kind scope.owns) st))) (ends S calls scope a)) (omega arith)
      (finally_spends M o (M.spent st) (owes o st.context + b + M.line) (2 * M.line + n) (run (with_local (Some false) (say (Line.Opened scope.kind scope.owns) st))) (ends S calls scope a)
      (spends_within M o (M.spent (with_local (Some false) (say (Line.Opened scope.kind scope.owns) st))) (M.spent st) (owes o st.context + b) (owes o st.context + b + M.line)
      (run (with_local (Some false) (say (Line.Opened scope.kind scope.owns) st)))
      (omega (arith, M.marked (Some false) (say (Line.Opened scope.kind scope.owns) st), M.said (Line.Opened scope.kind scope.owns) st))
      (costs (with_local (Some false) (say (Line.Opened scope.kind scope.owns) st))))
      after_ruled)
    where
      after_ruled : (x : Option ClassNo) → Costs M o (2 * M.line + n) (ends S calls scope a x)
      after_ruled x after =
          spends_within M o (M.spent (say (Line.End (ending scope.kind (rolls S a.rules x) (is_set after.local) after.context)) (ruled S a.rules x after))) (M.spent after)
          (owes o (ruled S a.rules x after).context + n) (owes o after.context + (2 * M.line + n)) (ends S calls scope a x after)
          (omega (
            arith,
            ruled_spent M S a x after,
            ap (owes o) (ruled_keeps S a x after),
            M.said (Line.End (ending scope.kind (rolls S a.rules x) (is_set after.local) after.context)) (ruled S a.rules x after),
          ))
          (completed (ending scope.kind (rolls S a.rules x) (is_set after.local) after.context) x
          (say (Line.End (ending scope.kind (rolls S a.rules x) (is_set after.local) after.context)) (ruled S a.rules x after)))

module _ (M : Measure) (S : Scenario) (calls : Calls) (o : Owed) (m : MethodNo) (outer : Option Bool) where
  join_scope : Scope
  join_scope = record { method = m; kind = Kind.Join; owns = false; older = None; outer = outer }

  point_scope : Scope
  point_scope = record { method = m; kind = Kind.Point; owns = false; older = None; outer = outer }

  empty_scope : Scope
  empty_scope = record { method = m; kind = Kind.Empty; owns = false; older = None; outer = outer }

  -- at most a return to the point and its release, a throw or a mark, and the end of the call
  abbrev joined_end : ℕ
  joined_end = 2 * M.note + 2 * M.line

  join_completes : (e : Ending) (x : Option ClassNo) → Costs M o joined_end (completes S calls join_scope e x)
  unfolding completes completion join_scope
  join_completes Ending.Commit x = costs_more M o M.line joined_end _ (omega arith) (left M S calls o join_scope x)
  join_completes Ending.Rollback x = costs_more M o (M.line + M.line) joined_end _ (omega arith) (marks M S calls o join_scope M.line [] (left M S calls o join_scope) x)
  join_completes Ending.Unexpected x = costs_more M o (M.line + M.line) joined_end _ (omega arith) (marks M S calls o join_scope M.line [] (left M S calls o join_scope) x)

  point_completes : (e : Ending) (x : Option ClassNo) → Costs M o joined_end (completes S calls point_scope e x)
  unfolding completes completion point_scope
  point_completes Ending.Commit x = costs_more M o (M.note + M.line) joined_end _ (omega arith) (releases M S calls o point_scope M.line [] (left M S calls o point_scope) x)
  point_completes Ending.Rollback x =
      costs_more M o (M.note + (M.note + M.line)) joined_end _ (omega arith)
      (goes_back M S calls o point_scope (M.note + M.line) _ (releases M S calls o point_scope M.line [] (left M S calls o point_scope)) x)
  point_completes Ending.Unexpected x =
      costs_more M o (M.note + (M.note + (M.line + M.line))) joined_end _ (omega arith)
      (goes_back M S calls o point_scope (M.note + (M.line + M.line)) _ (releases M S calls o point_scope (M.line + M.line) _ (throws_unexpected M S calls o point_scope M.line [] (left M S calls o point_scope))) x)

  empty_completes : (e : Ending) (x : Option ClassNo) → Costs M o joined_end (completes S calls empty_scope e x)
  unfolding completes completion acts empty_scope
  empty_completes Ending.Commit x = costs_more M o M.line joined_end (completes S calls empty_scope Ending.Commit x) (omega arith) (left M S calls o empty_scope x)
  empty_completes Ending.Rollback x = costs_more M o M.line joined_end (completes S calls empty_scope Ending.Rollback x) (omega arith) (left M S calls o empty_scope x)
  empty_completes Ending.Unexpected x = costs_more M o M.line joined_end (completes S calls empty_scope Ending.Unexpected x) (omega arith) (left M S calls o empty_scope x)

-- ---- intercepted calls

-- where the context is the one before it, what was owed there is owed still
regained : (M : Measure) (o : Owed) (u n : ℕ) (context : Context) (r : Result) → AtEnd r (λ x after. after.context ≡ context) → Spends M nobody u n r → Spends M o u (owes o context + n) r
regained M o u n context (Over x after) same h = omega (arith, h, ap (owes o) same)
regained M o u n context (Stops w after) same h = omega (arith, h)
regained M o u n context (Breaks after) same h = omega (arith, h)

module _ (M : Measure) (S : Scenario) (calls : Calls) (of : MethodNo → Cost) (called : CallsCost M S calls of) (kept : CallsKeep calls) (m : MethodNo) (a : TxAttr) (run : Meaning) (keeps : Keeps run) (b : ℕ)
    (runs : (o : Owed) → IsOwed M S of o → Costs M o b run) where
  -- a begin, the body, and the end
  begins_costs : (owns : Bool) (older : Context) (c : Option ℕ) (st : State) → Spends M nobody (M.spent st) (b + 3 * M.note + 6 * M.line) (begins S calls m a run owns older c st)
  unfolding begins
  begins_costs owns older (Some c) st =
      spends_within M nobody (M.spent st) (M.spent st) (owes nobody st.context + (M.note + (b + 2 * M.note + 6 * M.line))) (b + 3 * M.note + 6 * M.line) (ask Want.Begin (on_begin opened) st)
      (omega (arith, none_owed (registered st.context.syncs)))
      (ask_costs M nobody Want.Begin (on_begin opened) (b + 2 * M.note + 6 * M.line) (begin_costs M nobody (b + 2 * M.note + 6 * M.line) opened opened_costs) st)
    where
      scope : Option Bool → Scope
      scope outer = record { method = m; kind = Kind.Fresh; owns = owns; older = Some older; outer = outer }

      opened : ℕ → Meaning
      opened t begun = in_scope S calls (scope begun.local) a run (with_context (fresh_context c t a.read_only owns) begun)

      none : (owns : Bool) → sum_by (due M S of) (registered (started_syncs owns None)) ≡ 0
      none true = refl
      none false = refl

      opened_costs : (t : ℕ) → Costs M nobody (b + 2 * M.note + 6 * M.line) (opened t)
      opened_costs t st =
          spends_within M nobody (M.spent (with_context (fresh_context c t a.read_only owns) st)) (M.spent st) (b + (2 * M.note + 3 * M.line) + 3 * M.line) (owes nobody st.context + (b + 2 * M.note + 6 * M.line)) (opened t st)
          (omega (arith, M.in_context (fresh_context c t a.read_only owns) st))
          (owner_costs M S calls of called (scope st.local) (2 * M.note + 3 * M.line) b a run (completes_fresh M S calls of called (scope st.local)) (runs (due M S of) (is_owed_due M S of))
          (with_context (fresh_context c t a.read_only owns) st) (none owns))
  begins_costs owns older None st = omega (
    arith,
    resume_spent M older st,
    none_owed (registered (resume older st).context.syncs),
    M.said (Line.Throw CANNOT_CREATE_TRANSACTION_EXCEPTION) (resume older st),
    M.said (Line.Leave m (Some CANNOT_CREATE_TRANSACTION_EXCEPTION)) (say (Line.Throw CANNOT_CREATE_TRANSACTION_EXCEPTION) (resume older st)),
  )

  fresh_costs : (suspends owns : Bool) (st : State) → Spends M nobody (M.spent st) (b + 4 * M.note + 7 * M.line) (opens S calls m a run (Opening.Fresh suspends owns) st)
  unfolding opens
  fresh_costs suspends owns st =
      spends_within M nobody (M.spent (suspended suspends st)) (M.spent st) (owes nobody (suspended suspends st).context + (M.note + (b + 3 * M.note + 6 * M.line))) (b + 4 * M.note + 7 * M.line)
      (ask Want.Take (on_take (begins S calls m a run owns st.context)) (suspended suspends st)) (omega (arith, suspended_spent M suspends st, none_owed (registered (suspended suspends st).context.syncs)))
      (ask_costs M nobody Want.Take (on_take (begins S calls m a run owns st.context)) (b + 3 * M.note + 6 * M.line)
      (take_costs M nobody (b + 3 * M.note + 6 * M.line) (begins S calls m a run owns st.context) (λ c at. spends_within M nobody (M.spent at) (M.spent at) (b + 3 * M.note + 6 * M.line) (owes nobody at.context + (b + 3 * M.note + 6 * M.line))
      (begins S calls m a run owns st.context c at) (omega arith) (begins_costs owns st.context c at))) (suspended suspends st))

  -- an empty scope that owns synchronisation, or suspended what was there
  owner_empty_costs : (owns : Bool) (older : Option Context) (outer : Option Bool) (st : State) → owes (due M S of) st.context ≡ 0
      → Spends M nobody (M.spent st) (b + 2 * M.line + 3 * M.line) (in_scope S calls (record { method = m; kind = Kind.Empty; owns = owns; older = older; outer = outer }) a run st)
  owner_empty_costs owns older outer st none =
      owner_costs M S calls of called (record { method = m; kind = Kind.Empty; owns = owns; older = older; outer = outer }) (2 * M.line) b a run
      (completes_empty M S calls of called (record { method = m; kind = Kind.Empty; owns = owns; older = older; outer = outer })) (runs (due M S of) (is_owed_due M S of)) st none

  -- what an opening spends beside the line of its call
  abbrev opened_cost : ℕ
  opened_cost = b + 4 * M.note + 7 * M.line

  module _ (o : Owed) (owed : IsOwed M S of o) where
    opens_costs : (opening_is : Opening) (st : State) → opening S.settings a st.context ≡ opening_is → Spends M o (M.spent st) (owes o st.context + opened_cost) (opens S calls m a run opening_is st)
    unfolding opens join_scope point_scope empty_scope
    opens_costs (Opening.Fresh suspends owns) st is =
        regained M o (M.spent st) (b + 4 * M.note + 7 * M.line) st.context (opens S calls m a run (Opening.Fresh suspends owns) st)
        (opens_leaves S calls kept m a run keeps (Opening.Fresh suspends owns) st is) (fresh_costs suspends owns st)
    opens_costs (Opening.Refuse x) st is = omega (arith, M.said (Line.Throw x) st, M.said (Line.Leave m (Some x)) (say (Line.Throw x) st))
    opens_costs Opening.Join st is =
        costs_more M o (b + (2 * M.note + 2 * M.line) + 3 * M.line) opened_cost (within S calls m Kind.Join a run) (omega arith)
        (λ st. joined_costs M S calls o (join_scope M S calls o m st.local) (2 * M.note + 2 * M.line) b a run (join_completes M S calls o m st.local) (runs o owed) st) st
    opens_costs Opening.Point st is = by st.context.tx
      where
        by : (tx : Option Live) → Spends M o (M.spent st) (owes o st.context + opened_cost) (live_in tx (λ live. ask (Want.Point live.transaction) (λ _. within S calls m Kind.Point a run)) st)
        by None = omega arith
        by (Some live) =
            costs_more M o (M.note + (b + (2 * M.note + 2 * M.line) + 3 * M.line)) opened_cost (ask (Want.Point live.transaction) (λ _. within S calls m Kind.Point a run)) (omega arith)
            (ask_costs M o (Want.Point live.transaction) (λ _. within S calls m Kind.Point a run) (b + (2 * M.note + 2 * M.line) + 3 * M.line)
            (λ _ st. joined_costs M S calls o (point_scope M S calls o m st.local) (2 * M.note + 2 * M.line) b a run (point_completes M S calls o m st.local) (runs o owed) st)) st
    opens_costs (Opening.Empty false false) st is =
        spends_within M o (M.spent (with_context (record { tx = st.context.tx; syncs = started_syncs false st.context.syncs }) st)) (M.spent st) (owes o st.context + (b + (2 * M.note + 2 * M.line) + 3 * M.line)) (owes o st.context + opened_cost)
        (opens S calls m a run (Opening.Empty false false) st) (omega (arith, M.in_context (record { tx = st.context.tx; syncs = started_syncs false st.context.syncs }) st))
        (joined_costs M S calls o (empty_scope M S calls o m st.local) (2 * M.note + 2 * M.line) b a run (empty_completes M S calls o m st.local) (runs o owed)
        (with_context (record { tx = st.context.tx; syncs = started_syncs false st.context.syncs }) st))
    opens_costs (Opening.Empty false true) st is =
        spends_within M o (M.spent (with_context (record { tx = st.context.tx; syncs = started_syncs true st.context.syncs }) st)) (M.spent st) (owes o st.context + (b + 2 * M.line + 3 * M.line)) (owes o st.context + opened_cost)
        (opens S calls m a run (Opening.Empty false true) st) (omega (arith, M.in_context (record { tx = st.context.tx; syncs = started_syncs true st.context.syncs }) st))
        (regained M o (M.spent (with_context (record { tx = st.context.tx; syncs = started_syncs true st.context.syncs }) st)) (b + 2 * M.line + 3 * M.line) st.context (opens S calls m a run (Opening.Empty false true) st)
        (opens_leaves S calls kept m a run keeps (Opening.Empty false true) st is)
        (owner_empty_costs true None st.local (with_context (record { tx = st.context.tx; syncs = started_syncs true st.context.syncs }) st) refl))
    opens_costs (Opening.Empty true owns) st is = by owns is
      where
        none : (owns : Bool) → owes (due M S of) (record { tx = (suspended true st).context.tx; syncs = started_syncs owns (suspended true st).context.syncs }) ≡ 0
        none true = refl
        none false = refl

        owner : (owns : Bool) → Spends M nobody (M.spent st) (b + 6 * M.line) (opens S calls m a run (Opening.Empty true owns) st)
        owner owns =
            spends_within M nobody (M.spent (with_context (record { tx = (suspended true st).context.tx; syncs = started_syncs owns (suspended true st).context.syncs }) (suspended true st))) (M.spent st)
            (b + 2 * M.line + 3 * M.line) (b + 6 * M.line) (opens S calls m a run (Opening.Empty true owns) st)
            (omega (arith, suspended_spent M true st, M.in_context (record { tx = (suspended true st).context.tx; syncs = started_syncs owns (suspended true st).context.syncs }) (suspended true st)))
            (owner_empty_costs owns (Some st.context) (suspended true st).local
            (with_context (record { tx = (suspended true st).context.tx; syncs = started_syncs owns (suspended true st).context.syncs }) (suspended true st)) (none owns))

        by : (owns : Bool) → opening S.settings a st.context ≡ Opening.Empty true owns → Spends M o (M.spent st) (owes o st.context + opened_cost) (opens S calls m a run (Opening.Empty true owns) st)
        by true is =
            spends_within M o (M.spent st) (M.spent st) (owes o st.context + (b + 6 * M.line)) (owes o st.context + opened_cost) (opens S calls m a run (Opening.Empty true true) st) (omega arith)
            (regained M o (M.spent st) (b + 6 * M.line) st.context (opens S calls m a run (Opening.Empty true true) st) (opens_leaves S calls kept m a run keeps (Opening.Empty true true) st is) (owner true))
        by false is =
            spends_within M o (M.spent st) (M.spent st) (owes o st.context + (b + 6 * M.line)) (owes o st.context + opened_cost) (opens S calls m a run (Opening.Empty true false) st) (omega arith)
            (regained M o (M.spent st) (b + 6 * M.line) st.context (opens S calls m a run (Opening.Empty true false) st) (opens_leaves S calls kept m a run keeps (Opening.Empty true false) st is) (owner false))

    pub intercepted_costs : Costs M o (M.weigh one + b) (intercepted S calls m a run)
    unfolding intercepted
    intercepted_costs st =
        spends_within M o (M.spent (say (Line.Call m a.propagation a.read_only) st)) (M.spent st) (owes o st.context + opened_cost) (owes o st.context + (M.weigh one + b))
        (intercepted S calls m a run st) (omega (arith, M.pays_call, M.said (Line.Call m a.propagation a.read_only) st))
        (opens_costs (opening S.settings a st.context) (say (Line.Call m a.propagation a.read_only) st) refl)
