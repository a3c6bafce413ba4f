-- What the rounds spend: each takes its share of what the registrations owe.
use Rattle.std.proofs.Common.{◌≡◌, ℕ, ◌+◌, ◌*◌, ◌≤◌, Bool, true, false, List, [], ◌∷◌, ◌++◌, Option, Some, None, refl, arith}
use Rattle.std.specs.Prelude.{slice_get}
use Rattle.std.specs.List.{sum_by}
use Rattle.std.proofs.lemmas.List.Sums.{sum_by-cons}
use Rattle.stx_scenario.specs.declared.numbers.ClassNo.{ClassNo}
use Rattle.stx_scenario.specs.declared.numbers.MethodNo.{MethodNo}
use Rattle.stx_scenario.specs.declared.numbers.ListenerNo.{ListenerNo}
use Rattle.stx_scenario.specs.declared.scenario.Scenario.{Scenario}
use Rattle.stx_scenario.specs.declared.scenario.Listener.{Listener}
use Rattle.stx_scenario.specs.declared.scenario.Phase.{Phase}
use Rattle.stx_scenario.specs.declared.scenario.SyncDecl.{SyncDecl}
use Rattle.stx_scenario.specs.declared.scenario.Stmt.{Stmt}
use Rattle.stx_base.specs.declared.cost.Cost.{Cost}
use Rattle.stx_base.specs.declared.line.Line.{Line}
use Rattle.stx_base.specs.declared.line.Label.{Label}
use Rattle.stx_base.specs.declared.manager.Round.{Round}
use Rattle.stx_base.specs.Weight.{no_cost, one, plus, callback_cost, callbacks_cost, callbacks_in, callbacks_of}
use Rattle.stx_model.specs.Contexts.{Registration, registered, ordered}
use Rattle.stx_model.specs.Listeners.{runs_in}
use Rattle.stx_model.specs.Meanings.{State, Over, Meaning, and_then, finally}
use Rattle.stx_model.specs.Statements.{caught, row_statement}
use Rattle.stx_model.specs.Rounds.{Calls, Way, Proxied, sync_body, callback_line, swallows, callback_statement, callback, listens, listens_in, called_back, told, stopping_round, swallowing_round, round_of}
use Rattle.stx_model.proofs.Spending.{Measure, price, Owed, owes, Spends, Costs, spends_within, costs_more, says, finally_spends, and_then_spends, nothing_spent, said_last, broken}
use Rattle.stx_model.proofs.Sharing.{caught_costs, row_statement_costs, by_order_sum}

-- ---- sizes

module _ (M : Measure) where
  callbacks_more : (of : MethodNo → Cost) (first second : List Stmt) → M.weigh (callbacks_cost of (first ++ second)) ≡ M.weigh (callbacks_cost of first) + M.weigh (callbacks_cost of second)
  callbacks_more of [] second = omega (arith, M.weighs_none)
  callbacks_more of (s ∷ first) second =
      let rest = callbacks_more of first second in
      let all = M.weighs_both (callback_cost of s) (callbacks_cost of (first ++ second)) in
      omega (arith, rest, all, M.weighs_both (callback_cost of s) (callbacks_cost of first))

  module _ (S : Scenario) (of : MethodNo → Cost) where
    abbrev pub size_of : List Stmt → ℕ
    size_of body = M.weigh (callbacks_cost of body)

    abbrev pub listener_size : Option Listener → ℕ
    listener_size (Some listener) = size_of listener.body
    listener_size None = 0

    -- all that a registration's callbacks come to
    abbrev pub label_size : Label → ℕ
    label_size (Label.Sync s) = size_of (callbacks_of S s)
    label_size (Label.Listener l) = listener_size (slice_get S.listeners l.0)

    -- in each round it may be told, listen and be swallowed
    abbrev pub due : Owed
    due r = label_size r.label + 12 * M.line

    -- nobody owes more than that
    abbrev pub IsOwed : Owed → Type 0
    IsOwed o = (r : Registration) → o r ≤ due r

    -- ---- what the callback of a round comes to

    abbrev pub heard_size : Round → Bool → Option Listener → ℕ
    heard_size round committed (Some listener) = elim (runs_in listener.phase round committed) [ true ↦ size_of listener.body | false ↦ 0 ]
    heard_size round committed None = 0

    abbrev pub round_size : Round → Bool → Label → ℕ
    round_size round committed (Label.Sync s) = size_of (sync_body round (slice_get S.syncs s.0))
    round_size round committed (Label.Listener l) = heard_size round committed (slice_get S.listeners l.0)

    abbrev pub share : Round → Bool → Owed
    share round committed r = round_size round committed r.label + 3 * M.line

    -- what is still owed before the after_completion round, whichever its status
    abbrev pub last_heard : Option Listener → ℕ
    last_heard (Some listener) = elim (runs_in listener.phase Round.BeforeCommit false) [ true ↦ 0 | false ↦ size_of listener.body ]
    last_heard None = 0

    abbrev pub last_size : Label → ℕ
    last_size (Label.Sync s) = size_of (sync_body Round.AfterCompletion (slice_get S.syncs s.0))
    last_size (Label.Listener l) = last_heard (slice_get S.listeners l.0)

    abbrev pub before_last : Owed
    before_last r = last_size r.label + 3 * M.line

    -- before the after_commit round, and before the before_completion round
    abbrev pub before_after_commit : Owed
    before_after_commit r = before_last r + share Round.AfterCommit true r

    abbrev pub before_before_completion : Owed
    before_before_completion r = before_after_commit r + share Round.BeforeCompletion false r

    sync_shares : (o : Option SyncDecl) →
        size_of (callbacks_in o) ≡ size_of (sync_body Round.BeforeCommit o) + size_of (sync_body Round.BeforeCompletion o)
        + size_of (sync_body Round.AfterCommit o) + size_of (sync_body Round.AfterCompletion o)
    sync_shares None = omega (arith, M.weighs_none)
    sync_shares (Some sync) =
        let three = callbacks_more of (sync.before_commit ++ sync.before_completion ++ sync.after_commit) sync.after_completion in
        let two = callbacks_more of (sync.before_commit ++ sync.before_completion) sync.after_commit in
        let one = callbacks_more of sync.before_commit sync.before_completion in
        omega (arith, three, two, one)

    heard_within : (o : Option Listener) (round : Round) (committed : Bool) → heard_size round committed o ≤ listener_size o
    heard_within None round committed = omega arith
    heard_within (Some listener) round committed = by (runs_in listener.phase round committed)
      where
        by : (b : Bool) → elim b [ true ↦ size_of listener.body | false ↦ 0 ] ≤ size_of listener.body
        by true = omega arith
        by false = omega arith

    last_within : (o : Option Listener) → last_heard o ≤ listener_size o
    last_within None = omega arith
    last_within (Some listener) = by (runs_in listener.phase Round.BeforeCommit false)
      where
        by : (b : Bool) → elim b [ true ↦ 0 | false ↦ size_of listener.body ] ≤ size_of listener.body
        by true = omega arith
        by false = omega arith

    -- a listener is heard in one round
    heard_once : (o : Option Listener) → heard_size Round.BeforeCommit true o + last_heard o ≤ listener_size o
    heard_once None = omega arith
    heard_once (Some listener) = by listener.phase
      where
        by : (p : Phase) → elim (runs_in p Round.BeforeCommit true) [ true ↦ size_of listener.body | false ↦ 0 ] + elim (runs_in p Round.BeforeCommit false) [ true ↦ 0 | false ↦ size_of listener.body ] ≤ size_of listener.body
        by Phase.BeforeCommit = omega arith
        by Phase.AfterCommit = omega arith
        by Phase.AfterRollback = omega arith
        by Phase.AfterCompletion = omega arith

    heard_last : (o : Option Listener) (committed : Bool) → heard_size Round.AfterCompletion committed o ≤ last_heard o
    heard_last None committed = omega arith
    heard_last (Some listener) committed = by listener.phase committed
      where
        by : (p : Phase) (committed : Bool) → elim (runs_in p Round.AfterCompletion committed) [ true ↦ size_of listener.body | false ↦ 0 ] ≤ elim (runs_in p Round.BeforeCommit false) [ true ↦ 0 | false ↦ size_of listener.body ]
        by Phase.BeforeCommit committed = omega arith
        by Phase.AfterCommit true = omega arith
        by Phase.AfterCommit false = omega arith
        by Phase.AfterRollback true = omega arith
        by Phase.AfterRollback false = omega arith
        by Phase.AfterCompletion committed = omega arith

    heard_in_no_other : (o : Option Listener) (committed : Bool) → (heard_size Round.BeforeCompletion committed o ≡ 0) × (heard_size Round.AfterCommit committed o ≡ 0)
    heard_in_no_other None committed = (refl, refl)
    heard_in_no_other (Some listener) committed = by listener.phase
      where
        heard : Bool → ℕ
        heard b = elim b [ true ↦ size_of listener.body | false ↦ 0 ]

        by : (p : Phase) → (heard (runs_in p Round.BeforeCompletion committed) ≡ 0) × (heard (runs_in p Round.AfterCommit committed) ≡ 0)
        by Phase.BeforeCommit = (refl, refl)
        by Phase.AfterCommit = (refl, refl)
        by Phase.AfterRollback = (refl, refl)
        by Phase.AfterCompletion = (refl, refl)

    -- ---- each round takes its share

    pub before_commit_share : (r : Registration) → before_before_completion r + share Round.BeforeCommit true r ≤ due r
    before_commit_share r = by r.label
      where
        by : (l : Label) → (last_size l + 3 * M.line) + (round_size Round.AfterCommit true l + 3 * M.line) + (round_size Round.BeforeCompletion false l + 3 * M.line) + (round_size Round.BeforeCommit true l + 3 * M.line)
            ≤ label_size l + 12 * M.line
        by (Label.Sync s) = omega (arith, sync_shares (slice_get S.syncs s.0))
        by (Label.Listener l) =
            let none = heard_in_no_other (slice_get S.listeners l.0) true in
            let never = heard_in_no_other (slice_get S.listeners l.0) false in
            omega (arith, heard_once (slice_get S.listeners l.0), none.1, never.0)

    pub after_completion_share : (committed : Bool) (r : Registration) → share Round.AfterCompletion committed r ≤ before_last r
    after_completion_share committed r = by r.label
      where
        by : (l : Label) → round_size Round.AfterCompletion committed l + 3 * M.line ≤ last_size l + 3 * M.line
        by (Label.Sync s) = omega arith
        by (Label.Listener l) = omega (arith, heard_last (slice_get S.listeners l.0) committed)

    pub is_owed_before_completion : IsOwed before_before_completion
    is_owed_before_completion r = omega (arith, before_commit_share r)

    pub is_owed_after_commit : IsOwed before_after_commit
    is_owed_after_commit r = omega (arith, before_commit_share r)

    pub is_owed_last : IsOwed before_last
    is_owed_last r = omega (arith, before_commit_share r)

    pub is_owed_due : IsOwed due
    is_owed_due r = omega arith

-- ---- callbacks and rounds

pub sum_more : (f g : Owed) (rs : List Registration) → ((r : Registration) → f r ≤ g r) → sum_by f rs ≤ sum_by g rs
sum_more f g [] each = omega arith
sum_more f g (r ∷ rs) each = let rest = sum_more f g rs each in omega (arith, rest, each r, sum_by-cons f r rs, sum_by-cons g r rs)

sum_both : (f g h : Owed) (rs : List Registration) → ((r : Registration) → f r + g r ≤ h r) → sum_by f rs + sum_by g rs ≤ sum_by h rs
sum_both f g h [] each = omega arith
sum_both f g h (r ∷ rs) each =
    let rest = sum_both f g h rs each in
    omega (arith, rest, each r, sum_by-cons f r rs, sum_by-cons g r rs, sum_by-cons h r rs)

module _ (M : Measure) (S : Scenario) (calls : Calls) (of : MethodNo → Cost) where
  -- each call of a method spends at most what it weighs, whatever is owed
  abbrev pub CallsCost : Type 0
  CallsCost = (o : Owed) → IsOwed M S of o → (way : Way) (m : MethodNo) → Costs M o (M.weigh (of m)) (calls way m)

  module _ (called : CallsCost) (o : Owed) (owed : IsOwed M S of o) where
    row : (st : State) (s : Stmt) → Spends M o (M.spent st) (owes o st.context + M.weigh one) (row_statement st.context.tx s st)
    row st s = costs_more M o (4 * M.note + M.line) (M.weigh one) (row_statement st.context.tx s) (omega (arith, M.pays_call)) (row_statement_costs M o st.context.tx s) st

    -- a call, and perhaps a catch
    pub caught_call : (way : Way) (m : MethodNo) (catch : Option ClassNo) → Costs M o (M.weigh (plus one (of m))) (λ st. finally (calls way m st) (caught S catch))
    caught_call way m catch st =
        spends_within M o (M.spent st) (M.spent st) (owes o st.context + M.weigh (of m) + M.line) (owes o st.context + M.weigh (plus one (of m))) (finally (calls way m st) (caught S catch))
        (omega (arith, M.pays_call, M.weighs_both one (of m)))
        (finally_spends M o (M.spent st) (owes o st.context + M.weigh (of m)) M.line (calls way m st) (caught S catch) (called o owed way m st) (caught_costs M S o catch))

    pub callback_statement_costs : (s : Stmt) → Costs M o (M.weigh (callback_cost of s)) (callback_statement S calls s)
    unfolding callback_statement
    callback_statement_costs (Stmt.Throw x) st = said_last M o (Line.Throw x) (M.weigh one) (Some x) st (omega (arith, M.pays_call))
    callback_statement_costs (Stmt.Call m catch) st = caught_call Proxied m catch st
    callback_statement_costs (Stmt.This m catch) st = broken M o (M.weigh one) st
    callback_statement_costs Stmt.Mark st = broken M o (M.weigh one) st
    callback_statement_costs (Stmt.Publish e) st = broken M o (M.weigh one) st
    callback_statement_costs (Stmt.Register s) st = broken M o (M.weigh one) st
    callback_statement_costs s st = row st s

    -- a piece of so much after one of so much
    both_cost : (n m k : ℕ) (first second : Meaning) → n + m ≤ k → Costs M o n first → Costs M o m second → Costs M o k (λ st. and_then (first st) second)
    both_cost n m k first second le costs later st =
        spends_within M o (M.spent st) (M.spent st) (owes o st.context + n + m) (owes o st.context + k) (and_then (first st) second) (omega (arith, le))
        (and_then_spends M o (M.spent st) (owes o st.context + n) m (first st) second (costs st) later)

    callback_costs : (body : List Stmt) → Costs M o (size_of M S of body) (callback S calls body)
    unfolding callback
    callback_costs [] st = nothing_spent M o (M.weigh no_cost) None st
    callback_costs (s ∷ body) st =
        both_cost (M.weigh (callback_cost of s)) (size_of M S of body) (size_of M S of (s ∷ body)) (callback_statement S calls s) (callback S calls body)
        (omega (arith, M.weighs_both (callback_cost of s) (callbacks_cost of body))) (callback_statement_costs s) (callback_costs body) st

    pub listens_costs : (l : ListenerNo) (found : Option Listener) → Costs M o (listener_size M S of found + M.line) (listens S calls l found)
    listens_costs l (Some listener) st =
        says M o (Line.Listen l) (size_of M S of listener.body) (size_of M S of listener.body + M.line) (callback S calls listener.body) st (omega arith) (callback_costs listener.body)
    listens_costs l None st = nothing_spent M o (0 + M.line) None st

    listens_in_costs : (round : Round) (committed : Bool) (l : ListenerNo) (found : Option Listener) → Costs M o (heard_size M S of round committed found + M.line) (listens_in S calls round committed l found)
    listens_in_costs round committed l None st = nothing_spent M o (0 + M.line) None st
    listens_in_costs round committed l (Some listener) st = by (runs_in listener.phase round committed)
      where
        by : (b : Bool) → Spends M o (M.spent st) (owes o st.context + (elim b [ true ↦ size_of M S of listener.body | false ↦ 0 ] + M.line)) (elim b [ true ↦ listens S calls l (Some listener) st | false ↦ Over None st ])
        by true = listens_costs l (Some listener) st
        by false = nothing_spent M o (0 + M.line) None st

    called_back_costs : (round : Round) (committed : Bool) (l : Label) → Costs M o (round_size M S of round committed l + M.line) (called_back S calls round committed l)
    called_back_costs round committed (Label.Sync s) =
        costs_more M o (size_of M S of (sync_body round (slice_get S.syncs s.0))) (size_of M S of (sync_body round (slice_get S.syncs s.0)) + M.line) (callback S calls (sync_body round (slice_get S.syncs s.0)))
        (omega arith) (callback_costs (sync_body round (slice_get S.syncs s.0)))
    called_back_costs round committed (Label.Listener l) = listens_in_costs round committed l (slice_get S.listeners l.0)

    -- one told, with a line left for what is swallowed
    told_costs : (round : Round) (committed : Bool) (r : Registration) → Costs M o (round_size M S of round committed r.label + 2 * M.line) (told S calls round committed r)
    unfolding told
    told_costs round committed r st =
        says M o (callback_line round committed r.label) (round_size M S of round committed r.label + M.line) (round_size M S of round committed r.label + 2 * M.line) (called_back S calls round committed r.label) st
        (priced round) (called_back_costs round committed r.label)
      where
        priced : (round : Round) → price M.call M.register M.line (callback_line round committed r.label) + (round_size M S of round committed r.label + M.line) ≤ round_size M S of round committed r.label + 2 * M.line
        priced Round.BeforeCommit = omega arith
        priced Round.BeforeCompletion = omega arith
        priced Round.AfterCommit = omega arith
        priced Round.AfterCompletion = omega arith

    pub stopping_costs : (round : Round) (list : List Registration) → Costs M o (sum_by (share M S of round true) list) (stopping_round S calls round list)
    unfolding stopping_round
    stopping_costs round [] st = nothing_spent M o 0 None st
    stopping_costs round (r ∷ later) st =
        both_cost (round_size M S of round true r.label + 2 * M.line) (sum_by (share M S of round true) later) (sum_by (share M S of round true) (r ∷ later)) (told S calls round true r) (stopping_round S calls round later)
        (omega (arith, sum_by-cons (share M S of round true) r later)) (told_costs round true r) (stopping_costs round later) st

    swallowed : (n : ℕ) (x : Option ClassNo) (meaning : Meaning) → Costs M o n meaning → Costs M o (M.line + n) (λ st. meaning (swallows x st))
    swallowed n (Some x) meaning costs st = says M o (Line.Swallow x) n (M.line + n) meaning st (omega arith) costs
    swallowed n None meaning costs st = costs_more M o n (M.line + n) meaning (omega arith) costs st

    pub swallowing_costs : (round : Round) (committed : Bool) (list : List Registration) → Costs M o (sum_by (share M S of round committed) list) (swallowing_round S calls round committed list)
    unfolding swallowing_round
    swallowing_costs round committed [] st = nothing_spent M o 0 None st
    swallowing_costs round committed (r ∷ later) st =
        spends_within M o (M.spent st) (M.spent st) (owes o st.context + (round_size M S of round committed r.label + 2 * M.line) + (M.line + sum_by (share M S of round committed) later)) (owes o st.context + sum_by (share M S of round committed) (r ∷ later))
        (finally (told S calls round committed r st) (λ x after. swallowing_round S calls round committed later (swallows x after)))
        (omega (arith, sum_by-cons (share M S of round committed) r later))
        (finally_spends M o (M.spent st) (owes o st.context + (round_size M S of round committed r.label + 2 * M.line)) (M.line + sum_by (share M S of round committed) later) (told S calls round committed r st)
        (λ x after. swallowing_round S calls round committed later (swallows x after)) (told_costs round committed r st)
        (λ x. swallowed (sum_by (share M S of round committed) later) x (swallowing_round S calls round committed later) (swallowing_costs round committed later)))

-- ---- a round of an owner

module _ (M : Measure) where
  -- it begins where so much is owed, and at its end less is
  abbrev pub Rounds : Owed → Owed → Meaning → Type 0
  Rounds before after meaning = (st : State) → Spends M after (M.spent st) (owes before st.context) (meaning st)

  pub round_takes : (before after shares : Owed) (round : List Registration → Meaning) → ((list : List Registration) → Costs M after (sum_by shares list) (round list))
      → ((r : Registration) → after r + shares r ≤ before r) → Rounds before after (round_of true round)
  round_takes before after shares round costs each st =
      spends_within M after (M.spent st) (M.spent st) (owes after st.context + sum_by shares (ordered (registered st.context.syncs))) (owes before st.context) (round (ordered (registered st.context.syncs)) st)
      (omega (arith, by_order_sum (λ r. r.order) shares (registered st.context.syncs), sum_both after shares before (registered st.context.syncs) each))
      (costs (ordered (registered st.context.syncs)) st)
