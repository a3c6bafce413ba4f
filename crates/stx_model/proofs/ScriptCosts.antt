-- What whole scripts spend: at most what the calls of the client weigh, and a line for each.
use Rattle.std.proofs.Common.{◌≡◌, ℕ, zero, suc, ◌+◌, ◌*◌, ◌≤◌, Bool, true, false, List, [], ◌∷◌, ◌++◌, map, Option, Some, None, refl, sym, ap, ◌∙◌, arith}
use Rattle.std.specs.Prelude.{slice_get, ◌==◌, ◌&&◌, if◌then◌else◌}
use Rattle.std.specs.List.{filter, enumerate_from, sum_by}
use Rattle.std.proofs.lemmas.List.Sums.{sum_by-cons}
use Rattle.stx_scenario.specs.declared.numbers.MethodNo.{MethodNo}
use Rattle.stx_scenario.specs.declared.numbers.EventNo.{EventNo}
use Rattle.stx_scenario.specs.declared.classes.TheConstants.{ILLEGAL_STATE_EXCEPTION, NO_TRANSACTION_EXCEPTION}
use Rattle.stx_scenario.specs.declared.scenario.Scenario.{Scenario}
use Rattle.stx_scenario.specs.declared.scenario.Listener.{Listener}
use Rattle.stx_scenario.specs.declared.scenario.Stmt.{Stmt}
use Rattle.stx_scenario.specs.declared.scenario.TxAttr.{TxAttr}
use Rattle.stx_base.specs.declared.cost.Cost.{Cost}
use Rattle.stx_base.specs.declared.history.PoolNote.{PoolNote}
use Rattle.stx_base.specs.declared.history.StoreNote.{StoreNote}
use Rattle.stx_base.specs.declared.line.Line.{Line}
use Rattle.stx_base.specs.declared.line.Label.{Label}
use Rattle.stx_base.specs.Attributes.{attribute}
use Rattle.stx_base.specs.Weight.{one, one_registered, total, callbacks_cost, callbacks_of, listener_cost, listeners_of, statement_cost, body_of, rank}
use Rattle.stx_model.specs.Contexts.{Registration, is_active, is_live, registered, with_registration}
use Rattle.stx_model.specs.Listeners.{Numbered, listening, dealt_with, Register, RunNow, Skip, deed, deeds}
use Rattle.stx_model.specs.Meanings.{State, Result, Over, Stops, Breaks, at_first, state_of, and_then, finally, say, with_context, with_local}
use Rattle.stx_model.specs.Statements.{marks, order_of, order_of_listener, registers, register_listener}
use Rattle.stx_model.specs.Rounds.{Calls, Proxied, Direct, listens}
use Rattle.stx_model.specs.Scopes.{leaves, intercepted}
use Rattle.stx_model.specs.Script.{deals, publishes, statement, body, unscoped, proxied, invoked, calls_below, invoke, tops, calls_of, script}
use Rattle.stx_model.proofs.Keeping.{CallsKeep}
use Rattle.stx_model.proofs.Leaving.{body_keeps, calls_keep}
use Rattle.stx_model.proofs.Spending.{Measure, price, Owed, owes, Spends, Costs, spends_within, costs_more, says, finally_spends, and_then_spends, either_spends, nothing_spent, said_last}
use Rattle.stx_model.proofs.Sharing.{by_order_sum}
use Rattle.stx_model.proofs.Rounding.{listener_size, due, IsOwed, CallsCost, caught_call, callback_statement_costs, listens_costs, is_owed_due}
use Rattle.stx_model.proofs.ScopeCosts.{intercepted_costs}

-- ---- registrations and publications

owes_more : (o : Owed) (list : List Registration) (r : Registration) → sum_by o (list ++ r ∷ []) ≡ sum_by o list + o r
owes_more o [] r = omega (arith, sum_by-cons o r [])
owes_more o (q ∷ list) r = omega (arith, sum_by-cons o q (list ++ r ∷ []), sum_by-cons o q list, owes_more o list r)

-- a registration is paid for by its line and what it may owe
registers_costs : (M : Measure) (o : Owed) (r : Registration) (n : ℕ) → o r + M.register ≤ n → M.line ≤ n → (syncs : Option (List Registration)) (st : State) → st.context.syncs ≡ syncs
    → Spends M o (M.spent st) (owes o st.context + n) (registers r syncs st)
registers_costs M o r n le also (Some list) st is =
    let before : sum_by o (registered st.context.syncs) ≡ sum_by o list = ap (λ s. sum_by o (registered s)) is in
    omega (arith, le, owes_more o list r, before, M.said (Line.Register r.label) (with_context (with_registration r list st.context) st), M.in_context (with_registration r list st.context) st)
registers_costs M o r n le also None st is = omega (arith, also, M.said (Line.Throw ILLEGAL_STATE_EXCEPTION) st)

module _ (M : Measure) (S : Scenario) (of : MethodNo → Cost) where
  abbrev pub statements_size : List Stmt → ℕ
  statements_size statements = M.weigh (total (map (statement_cost S of) statements))

  -- what a listener with a number comes to
  abbrev numbered_size : Numbered → ℕ
  numbered_size l = M.weigh one_registered + listener_size M S of (slice_get S.listeners l.0)

  listening_sizes : (p : Listener → Bool) (listeners : List Listener) (from : ℕ) → ((k : ℕ) → slice_get S.listeners (from + k) ≡ slice_get listeners k)
      → sum_by numbered_size (filter (λ l. p l.1) (enumerate_from from listeners)) ≡ M.weigh (total (map (listener_cost of) (filter p listeners)))
  listening_sizes p [] from there = sym M.weighs_none
  listening_sizes p (l ∷ listeners) from there =
      let rest = listening_sizes p listeners (from + 1) (λ k. let same : (from + 1) + k ≡ from + suc k = omega arith in ap (slice_get S.listeners) same ∙ there (suc k)) in
      let here : slice_get S.listeners from ≡ Some l = let same : from ≡ from + 0 = omega arith in ap (slice_get S.listeners) same ∙ there 0 in
      by rest here (p l)
    where
      by : sum_by numbered_size (filter (λ l. p l.1) (enumerate_from (from + 1) listeners)) ≡ M.weigh (total (map (listener_cost of) (filter p listeners)))
          → slice_get S.listeners from ≡ Some l → (b : Bool)
          → sum_by numbered_size (if b then (from, l) ∷ filter (λ l. p l.1) (enumerate_from (from + 1) listeners) else filter (λ l. p l.1) (enumerate_from (from + 1) listeners))
          ≡ M.weigh (total (map (listener_cost of) (if b then l ∷ filter p listeners else filter p listeners)))
      by rest here true = omega (
        arith,
        rest,
        ap (listener_size M S of) here,
        sum_by-cons numbered_size (from, l) (filter (λ l. p l.1) (enumerate_from (from + 1) listeners)),
        M.weighs_both (listener_cost of l) (total (map (listener_cost of) (filter p listeners))),
        M.weighs_both one_registered (callbacks_cost of l.body),
      )
      by rest here false = rest

  dealt_sizes : (e : EventNo) → sum_by numbered_size (dealt_with S e) ≡ M.weigh (total (map (listener_cost of) (listeners_of S e)))
  dealt_sizes e = by_order_sum (λ l. l.1.order) numbered_size (listening S e) ∙ listening_sizes (λ l. l.event.0 == e.0) S.listeners 0 (λ k. let same : 0 + k ≡ k = omega arith in ap (slice_get S.listeners) same)

-- ---- bodies and calls

module _ (M : Measure) (S : Scenario) (calls : Calls) (of : MethodNo → Cost) (called : CallsCost M S calls of) (o : Owed) (owed : IsOwed M S of o) where
  deals_costs : (registers_them : Bool) (list : List Numbered) → Costs M o (sum_by (numbered_size M S of) list) (deals S calls (map (deed registers_them) list))
  unfolding deals
  deals_costs all [] st = nothing_spent M o 0 None st
  deals_costs all (l ∷ later) st = by (deals_costs all later) all l.1.fallback
    where
      whole : sum_by (numbered_size M S of) (l ∷ later) ≡ (M.weigh one_registered + listener_size M S of (slice_get S.listeners l.0)) + sum_by (numbered_size M S of) later
      whole = sum_by-cons (numbered_size M S of) l later

      done : (r : Result) → Spends M o (M.spent st) (owes o st.context + (M.weigh one_registered + listener_size M S of (slice_get S.listeners l.0))) r
          → Costs M o (sum_by (numbered_size M S of) later) (deals S calls (map (deed all) later))
          → Spends M o (M.spent st) (owes o st.context + sum_by (numbered_size M S of) (l ∷ later)) (and_then r (deals S calls (map (deed all) later)))
      done r h rest =
          spends_within M o (M.spent st) (M.spent st) (owes o st.context + (M.weigh one_registered + listener_size M S of (slice_get S.listeners l.0)) + sum_by (numbered_size M S of) later)
          (owes o st.context + sum_by (numbered_size M S of) (l ∷ later)) (and_then r (deals S calls (map (deed all) later))) (omega (arith, whole))
          (and_then_spends M o (M.spent st) (owes o st.context + (M.weigh one_registered + listener_size M S of (slice_get S.listeners l.0))) (sum_by (numbered_size M S of) later) r (deals S calls (map (deed all) later)) h rest)

      by : Costs M o (sum_by (numbered_size M S of) later) (deals S calls (map (deed all) later)) → (registering fallback : Bool)
          → Spends M o (M.spent st) (owes o st.context + sum_by (numbered_size M S of) (l ∷ later)) (deals S calls (elim registering [
            | true ↦ Register (record { 0 = l.0 })
            | false ↦ elim fallback [ true ↦ RunNow (record { 0 = l.0 }) | false ↦ Skip (record { 0 = l.0 }) ]
          ] ∷ map (deed all) later) st)
      by rest true fallback =
          done (register_listener S (record { 0 = l.0 }) st)
          (registers_costs M o (record { label = Label.Listener (record { 0 = l.0 }); order = order_of_listener (slice_get S.listeners l.0) }) (M.weigh one_registered + listener_size M S of (slice_get S.listeners l.0))
          (omega (arith, M.pays_registration, owed (record { label = Label.Listener (record { 0 = l.0 }); order = order_of_listener (slice_get S.listeners l.0) }))) (omega (arith, M.pays_registration)) st.context.syncs st refl) rest
      by rest false true =
          done (listens S calls (record { 0 = l.0 }) (slice_get S.listeners l.0) st)
          (costs_more M o (listener_size M S of (slice_get S.listeners l.0) + M.line) (M.weigh one_registered + listener_size M S of (slice_get S.listeners l.0)) (listens S calls (record { 0 = l.0 }) (slice_get S.listeners l.0))
          (omega (arith, M.pays_registration)) (listens_costs M S calls of called o owed (record { 0 = l.0 }) (slice_get S.listeners l.0)) st) rest
      by rest false false =
          says M o (Line.Skip (record { 0 = l.0 })) (sum_by (numbered_size M S of) later) (sum_by (numbered_size M S of) (l ∷ later)) (deals S calls (map (deed all) later)) st
          (omega (arith, whole, M.pays_registration)) rest

  publishes_costs : (e : EventNo) → Costs M o (M.weigh (statement_cost S of (Stmt.Publish e))) (publishes S calls e)
  unfolding deeds
  publishes_costs e st =
      says M o (Line.Publish e) (sum_by (numbered_size M S of) (dealt_with S e)) (M.weigh (statement_cost S of (Stmt.Publish e)))
      (deals S calls (map (deed (is_active st.context && is_live st.context)) (dealt_with S e))) st
      (omega (arith, dealt_sizes M S of e, M.pays_call, M.weighs_both one (total (map (listener_cost of) (listeners_of S e)))))
      (deals_costs (is_active st.context && is_live st.context) (dealt_with S e))

  statement_costs : (s : Stmt) → Costs M o (M.weigh (statement_cost S of s)) (statement S calls s)
  unfolding statement
  statement_costs Stmt.Mark st = by st.local
    where
      by : (local : Option Bool) → Spends M o (M.spent st) (owes o st.context + M.weigh one) (marks local st)
      by (Some b) = omega (arith, M.pays_call, M.said Line.Mark (with_local (Some true) st), M.marked (Some true) st)
      by None = omega (arith, M.pays_call, M.said (Line.Throw NO_TRANSACTION_EXCEPTION) st)
  statement_costs (Stmt.Register s) st =
      registers_costs M o (record { label = Label.Sync s; order = order_of (slice_get S.syncs s.0) }) (M.weigh (statement_cost S of (Stmt.Register s)))
      (omega (arith, M.pays_registration, M.weighs_both one_registered (callbacks_cost of (callbacks_of S s)), owed (record { label = Label.Sync s; order = order_of (slice_get S.syncs s.0) })))
      (omega (arith, M.pays_registration, M.weighs_both one_registered (callbacks_cost of (callbacks_of S s)))) st.context.syncs st refl
  statement_costs (Stmt.Publish e) st = publishes_costs e st
  statement_costs (Stmt.This m catch) st = caught_call M S calls of called o owed Direct m catch st
  statement_costs s st = callback_statement_costs M S calls of called o owed s st

  body_costs : (statements : List Stmt) → Costs M o (statements_size M S of statements) (body S calls statements)
  unfolding body
  body_costs [] st = nothing_spent M o (M.weigh (total [])) None st
  body_costs (s ∷ statements) st =
      spends_within M o (M.spent st) (M.spent st) (owes o st.context + M.weigh (statement_cost S of s) + statements_size M S of statements) (owes o st.context + statements_size M S of (s ∷ statements))
      (and_then (statement S calls s st) (body S calls statements)) (omega (arith, M.weighs_both (statement_cost S of s) (total (map (statement_cost S of) statements))))
      (and_then_spends M o (M.spent st) (owes o st.context + M.weigh (statement_cost S of s)) (statements_size M S of statements) (statement S calls s st) (body S calls statements)
      (statement_costs s st) (body_costs statements))

-- each method costs what its statements make it; a method that isn't there has none, and no attribute
pub data IsCosted (M : Measure) (S : Scenario) (of : MethodNo → Cost) (m : MethodNo) : Type 0 where
  There : M.weigh one + statements_size M S of (body_of S m) ≤ M.weigh (of m) → IsCosted M S of m
  Past : body_of S m ≡ [] → attribute S m ≡ None → 2 * M.line ≤ M.weigh (of m) → IsCosted M S of m

module _ (M : Measure) (S : Scenario) (calls : Calls) (of : MethodNo → Cost) (called : CallsCost M S calls of) (kept : CallsKeep calls) (costed : (m : MethodNo) → IsCosted M S of m) where
  -- a body with the line before it and the line after it
  unscoped_costs : (o : Owed) → IsOwed M S of o → (line : Line) (m : MethodNo) → price M.call M.register M.line line ≡ M.line → Costs M o (statements_size M S of (body_of S m) + 2 * M.line) (unscoped S calls line m)
  unscoped_costs o owed line m plain st =
      says M o line (statements_size M S of (body_of S m) + M.line) (statements_size M S of (body_of S m) + 2 * M.line) (λ said. finally (body S calls (body_of S m) said) (leaves m)) st (omega (arith, plain)) both
    where
      both : Costs M o (statements_size M S of (body_of S m) + M.line) (λ said. finally (body S calls (body_of S m) said) (leaves m))
      both said =
          spends_within M o (M.spent said) (M.spent said) (owes o said.context + statements_size M S of (body_of S m) + M.line) (owes o said.context + (statements_size M S of (body_of S m) + M.line))
          (finally (body S calls (body_of S m) said) (leaves m)) (omega arith)
          (finally_spends M o (M.spent said) (owes o said.context + statements_size M S of (body_of S m)) M.line (body S calls (body_of S m) said) (leaves m)
          (body_costs M S calls of called o owed (body_of S m) said) (λ x at. said_last M o (Line.Leave m x) M.line x at (omega arith)))

  within_size : (o : Owed) → IsOwed M S of o → (line : Line) (m : MethodNo) → price M.call M.register M.line line ≡ M.line → Costs M o (M.weigh (of m)) (unscoped S calls line m)
  within_size o owed line m plain = by (costed m)
    where
      by : IsCosted M S of m → Costs M o (M.weigh (of m)) (unscoped S calls line m)
      by (There enough) = costs_more M o (statements_size M S of (body_of S m) + 2 * M.line) (M.weigh (of m)) (unscoped S calls line m) (omega (arith, enough, M.pays_call)) (unscoped_costs o owed line m plain)
      by (Past nothing none enough) =
          costs_more M o (statements_size M S of (body_of S m) + 2 * M.line) (M.weigh (of m)) (unscoped S calls line m) (omega (arith, enough, ap (statements_size M S of) nothing, M.weighs_none))
          (unscoped_costs o owed line m plain)

  proxied_costs : (o : Owed) → IsOwed M S of o → (m : MethodNo) (a : Option TxAttr) → attribute S m ≡ a → Costs M o (M.weigh (of m)) (proxied S calls m a)
  proxied_costs o owed m None is = within_size o owed (Line.Plain m) m refl
  proxied_costs o owed m (Some a) is = by (costed m)
    where
      by : IsCosted M S of m → Costs M o (M.weigh (of m)) (proxied S calls m (Some a))
      by (There enough) =
          costs_more M o (M.weigh one + statements_size M S of (body_of S m)) (M.weigh (of m)) (intercepted S calls m a (body S calls (body_of S m))) (omega (arith, enough))
          (intercepted_costs M S calls of called kept m a (body S calls (body_of S m)) (body_keeps S calls kept (body_of S m)) (statements_size M S of (body_of S m))
          (λ o owed. body_costs M S calls of called o owed (body_of S m)) o owed)
      by (Past nothing none enough) = cc

  invoked_costs : CallsCost M S (invoked S calls) of
  unfolding invoked
  invoked_costs o owed Proxied m = proxied_costs o owed m (attribute S m) refl
  invoked_costs o owed Direct m = within_size o owed (Line.This m) m refl

-- ---- whole scripts

module _ (M : Measure) (S : Scenario) (of : MethodNo → Cost) (costed : (m : MethodNo) → IsCosted M S of m) where
  calls_below_costs : (bound : ℕ) → CallsCost M S (calls_below S bound) of
  unfolding calls_below
  calls_below_costs zero o owed way m st = omega arith
  calls_below_costs (suc bound) o owed way m st =
      either_spends M o (M.spent st) (owes o st.context + M.weigh (of m)) (rank S m == bound) (invoked S (calls_below S bound) way m st) (calls_below S bound way m st)
      (invoked_costs M S (calls_below S bound) of (calls_below_costs bound) (calls_keep S bound) costed o owed way m st) (calls_below_costs bound o owed way m st)

  -- each call, with its line
  abbrev pub calls_size : List MethodNo → ℕ
  calls_size calls = sum_by (λ m. M.line + M.weigh (of m)) calls

  tops_costs : (k : ℕ) (calls : List MethodNo) → Costs M (due M S of) (calls_size calls) (tops S k calls)
  unfolding tops
  tops_costs k [] st = omega arith
  tops_costs k (m ∷ calls) st =
      spends_within M (due M S of) (M.spent st) (M.spent st) (owes (due M S of) st.context + (M.line + M.weigh (of m)) + calls_size calls) (owes (due M S of) st.context + calls_size (m ∷ calls))
      (finally (invoke S m (say (Line.Top k) st)) (λ _. tops S (k + 1) calls)) (omega (arith, sum_by-cons (λ m. M.line + M.weigh (of m)) m calls))
      (finally_spends M (due M S of) (M.spent st) (owes (due M S of) st.context + (M.line + M.weigh (of m))) (calls_size calls) (invoke S m (say (Line.Top k) st)) (λ _. tops S (k + 1) calls)
      (says M (due M S of) (Line.Top k) (M.weigh (of m)) (M.line + M.weigh (of m)) (invoke S m) st (omega arith) (calls_below_costs 65 (due M S of) (is_owed_due M S of) Proxied m))
      (λ _. tops_costs (k + 1) calls))

  pub script_costs : (c : ℕ) (pool : List PoolNote) (store : List StoreNote) → M.spent (state_of (script S c pool store)) ≤ M.spent (at_first pool store) + calls_size (calls_of S c)
  unfolding script
  script_costs c pool store = by (tops S 0 (calls_of S c) (at_first pool store)) (tops_costs 0 (calls_of S c) (at_first pool store))
    where
      by : (r : Result) → Spends M (due M S of) (M.spent (at_first pool store)) (0 + calls_size (calls_of S c)) r → M.spent (state_of r) ≤ M.spent (at_first pool store) + calls_size (calls_of S c)
      by (Over x after) h = omega (arith, h)
      by (Stops w after) h = omega (arith, h)
      by (Breaks after) h = omega (arith, h)
