-- What statements on rows spend, and sums over registrations in any order.
use Rattle.std.proofs.Common.{◌≡◌, ℕ, ◌+◌, ◌*◌, ◌≤◌, Bool, true, false, ℤ, ◌+ℤ◌, List, [], ◌∷◌, Option, Some, None, arith}
use Rattle.std.specs.Prelude.{int_lt}
use Rattle.std.specs.List.{sum_by, fold}
use Rattle.std.proofs.lemmas.List.Sums.{sum_by-cons}
use Rattle.stx_scenario.specs.declared.numbers.ClassNo.{ClassNo}
use Rattle.stx_scenario.specs.declared.numbers.RowNo.{RowNo}
use Rattle.stx_scenario.specs.declared.classes.TheConstants.{ILLEGAL_STATE_EXCEPTION, ARITHMETIC_EXCEPTION, CANNOT_ACQUIRE_LOCK_EXCEPTION, CANNOT_GET_JDBC_CONNECTION_EXCEPTION}
use Rattle.stx_scenario.specs.declared.scenario.Scenario.{Scenario}
use Rattle.stx_scenario.specs.declared.scenario.Stmt.{Stmt}
use Rattle.stx_base.specs.declared.call.Want.{Want}
use Rattle.stx_base.specs.declared.history.Access.{Access}
use Rattle.stx_base.specs.declared.history.Answer.{Answer}
use Rattle.stx_base.specs.declared.line.Line.{Line}
use Rattle.stx_model.specs.Contexts.{Live}
use Rattle.stx_model.specs.Meanings.{Over, Meaning, say, on_take, on_access}
use Rattle.stx_model.specs.Orders.{inserted, by_order}
use Rattle.stx_model.specs.Statements.{RowAccess, throws, concludes, catches, caught, unless_busy, access_row, nothing_more, value_of, is_value, needed, added, on_row, in_transaction, on_connection, connected, row_statement}
use Rattle.stx_model.proofs.Spending.{Measure, Owed, owes, Costs, costs_more, either_spends, ask_costs, take_costs, access_costs, nothing_spent, said_last, broken}

-- ---- statements on rows

module _ (M : Measure) where
  throws_costs : (o : Owed) (n : ℕ) (x : ClassNo) → M.line ≤ n → Costs M o n (throws x)
  throws_costs o n x le st = said_last M o (Line.Throw x) n (Some x) st le

  concludes_costs : (o : Owed) (n : ℕ) (x : Option ClassNo) → M.line ≤ n → Costs M o n (concludes x)
  concludes_costs o n None le st = nothing_spent M o n None st
  concludes_costs o n (Some x) le st = throws_costs o n x le st

  pub caught_costs : (S : Scenario) (o : Owed) (catch x : Option ClassNo) → Costs M o M.line (caught S catch x)
  caught_costs S o catch None st = nothing_spent M o M.line None st
  caught_costs S o catch (Some x) st =
      either_spends M o (M.spent st) (owes o st.context + M.line) (catches S catch x) (Over None (say (Line.Catch x) st)) (Over (Some x) st)
      (said_last M o (Line.Catch x) M.line None st (omega arith)) (nothing_spent M o M.line (Some x) st)

  -- a statement whose end spends at most so much
  module _ (o : Owed) (at : RowAccess) (e : ℕ) (ends : (x : Option ClassNo) → Costs M o e (at.ends x)) where
    unless_busy_costs : (k : ℕ) (next : Answer → Meaning) → ((r : Answer) → Costs M o (e + k) (next r)) → (r : Answer) → Costs M o (e + k) (unless_busy at next r)
    unless_busy_costs k next costs (Answer.Busy t) = costs_more M o e (e + k) (at.ends (Some CANNOT_ACQUIRE_LOCK_EXCEPTION)) (omega arith) (ends (Some CANNOT_ACQUIRE_LOCK_EXCEPTION))
    unless_busy_costs k next costs (Answer.Found v) = costs (Answer.Found v)
    unless_busy_costs k next costs Answer.Absent = costs Answer.Absent
    unless_busy_costs k next costs Answer.Done = costs Answer.Done

    access_row_costs : (k : ℕ) (a : Access) (next : Answer → Meaning) → ((r : Answer) → Costs M o (e + k) (next r)) → Costs M o (M.note + (e + k)) (access_row at a next)
    access_row_costs k a next costs =
        ask_costs M o (at.want a) (on_access (unless_busy at next)) (e + k) (access_costs M o (e + k) (unless_busy at next) (unless_busy_costs k next costs))

    nothing_more_costs : (r : Answer) → Costs M o (e + 0) (nothing_more at r)
    nothing_more_costs r = costs_more M o e (e + 0) (at.ends None) (omega arith) (ends None)

    needed_costs : (n : ℤ) (r : Answer) → Costs M o (e + 0) (needed at n r)
    needed_costs n r st =
        either_spends M o (M.spent st) (owes o st.context + (e + 0)) (int_lt (value_of r) n) (at.ends (Some ILLEGAL_STATE_EXCEPTION) st) (at.ends None st)
        (costs_more M o e (e + 0) (at.ends (Some ILLEGAL_STATE_EXCEPTION)) (omega arith) (ends (Some ILLEGAL_STATE_EXCEPTION)) st) (nothing_more_costs r st)

    added_costs : (k : RowNo) (n : ℤ) (r : Answer) → Costs M o (e + M.note) (added at k n r)
    added_costs k n r st =
        either_spends M o (M.spent st) (owes o st.context + (e + M.note)) (is_value (value_of r +ℤ n)) (access_row at (Access.Write k (value_of r +ℤ n)) (nothing_more at) st) (at.ends (Some ARITHMETIC_EXCEPTION) st)
        (costs_more M o (M.note + (e + 0)) (e + M.note) (access_row at (Access.Write k (value_of r +ℤ n)) (nothing_more at)) (omega arith)
        (access_row_costs 0 (Access.Write k (value_of r +ℤ n)) (nothing_more at) nothing_more_costs) st)
        (costs_more M o e (e + M.note) (at.ends (Some ARITHMETIC_EXCEPTION)) (omega arith) (ends (Some ARITHMETIC_EXCEPTION)) st)

    one_access : (a : Access) (next : Answer → Meaning) → ((r : Answer) → Costs M o (e + 0) (next r)) → Costs M o (e + 2 * M.note) (access_row at a next)
    one_access a next costs = costs_more M o (M.note + (e + 0)) (e + 2 * M.note) (access_row at a next) (omega arith) (access_row_costs 0 a next costs)

    on_row_costs : (s : Stmt) → Costs M o (e + 2 * M.note) (on_row at s)
    on_row_costs (Stmt.Read k) st = one_access (Access.Read k) (nothing_more at) nothing_more_costs st
    on_row_costs (Stmt.Write k v) st = one_access (Access.Write k v) (nothing_more at) nothing_more_costs st
    on_row_costs (Stmt.Erase k) st = one_access (Access.Erase k) (nothing_more at) nothing_more_costs st
    on_row_costs (Stmt.Need k n) st = one_access (Access.Read k) (needed at n) (needed_costs n) st
    on_row_costs (Stmt.Add k n) st =
        costs_more M o (M.note + (e + M.note)) (e + 2 * M.note) (access_row at (Access.Read k) (added at k n)) (omega arith) (access_row_costs M.note (Access.Read k) (added at k n) (added_costs k n)) st
    on_row_costs _ st = broken M o (e + 2 * M.note) st

  connected_costs : (o : Owed) (s : Stmt) (c : Option ℕ) → Costs M o ((M.note + M.line) + 2 * M.note) (connected s c)
  connected_costs o s (Some c) =
      on_row_costs o (on_connection c) (M.note + M.line) (λ x. ask_costs M o (Want.Give c) (λ _. concludes x) M.line (λ _. concludes_costs o M.line x (omega arith))) s
  connected_costs o s None = throws_costs o ((M.note + M.line) + 2 * M.note) CANNOT_GET_JDBC_CONNECTION_EXCEPTION (omega arith)

  -- at most a take, two accesses, a give and a throw
  pub row_statement_costs : (o : Owed) (tx : Option Live) (s : Stmt) → Costs M o (4 * M.note + M.line) (row_statement tx s)
  row_statement_costs o (Some live) s =
      costs_more M o (M.line + 2 * M.note) (4 * M.note + M.line) (on_row (in_transaction live.transaction) s) (omega arith)
      (on_row_costs o (in_transaction live.transaction) M.line (λ x. concludes_costs o M.line x (omega arith)) s)
  row_statement_costs o None s =
      costs_more M o (M.note + ((M.note + M.line) + 2 * M.note)) (4 * M.note + M.line) (row_statement None s) (omega arith)
      (ask_costs M o Want.Take (on_take (connected s)) ((M.note + M.line) + 2 * M.note) (take_costs M o ((M.note + M.line) + 2 * M.note) (connected s) (connected_costs o s)))

-- ---- the order of the registrations doesn't matter

inserted_sum : {X : Type 0} (order : X → ℤ) (f : X → ℕ) (xs : List X) (x : X) → sum_by f (inserted order xs x) ≡ sum_by f xs + f x
inserted_sum order f [] x = omega (arith, sum_by-cons f x [])
inserted_sum order f (y ∷ ys) x = by (inserted_sum order f ys x) (int_lt (order x) (order y))
  where
    by : sum_by f (inserted order ys x) ≡ sum_by f ys + f x → (b : Bool) → sum_by f (elim b [ true ↦ x ∷ y ∷ ys | false ↦ y ∷ inserted order ys x ]) ≡ sum_by f (y ∷ ys) + f x
    by rest true = omega (arith, sum_by-cons f x (y ∷ ys))
    by rest false = omega (arith, sum_by-cons f y (inserted order ys x), sum_by-cons f y ys, rest)

folded_sum : {X : Type 0} (order : X → ℤ) (f : X → ℕ) (xs before : List X) → sum_by f (fold (inserted order) before xs) ≡ sum_by f before + sum_by f xs
folded_sum order f [] before = omega arith
folded_sum order f (x ∷ xs) before =
    omega (arith, folded_sum order f xs (inserted order before x), inserted_sum order f before x, sum_by-cons f x xs)

pub by_order_sum : {X : Type 0} (order : X → ℤ) (f : X → ℕ) (xs : List X) → sum_by f (by_order order xs) ≡ sum_by f xs
by_order_sum order f xs = let all : sum_by f (fold (inserted order) [] xs) ≡ 0 + sum_by f xs = folded_sum order f xs [] in omega (arith, all)
