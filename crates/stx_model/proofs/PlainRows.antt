-- Worked rows: methods without an attribute, calls of the same bean, own statements, and attributes of beans.
use Rattle.std.proofs.Common.{pos, ◌-◌, ◌^◌, true, false, [], ◌∷◌, Some, None, refl}
use Rattle.std.specs.Prelude.{codes, ◌++◌}
use Rattle.stx_scenario.specs.declared.classes.TheConstants.{RUNTIME_EXCEPTION, ILLEGAL_STATE_EXCEPTION, ARITHMETIC_EXCEPTION, CANNOT_ACQUIRE_LOCK_EXCEPTION}
use Rattle.stx_scenario.specs.declared.scenario.Scenario.{Scenario}
use Rattle.stx_scenario.specs.declared.scenario.Propagation.{Propagation}
use Rattle.stx_scenario.specs.declared.scenario.TxAttr.{TxAttr}
use Rattle.stx_scenario.specs.declared.scenario.RuleBy.{RuleBy}
use Rattle.stx_scenario.specs.declared.scenario.Stmt.{Stmt}
use Rattle.stx_base.specs.declared.history.Answer.{Answer}
use Rattle.stx_base.specs.declared.manager.Kind.{Kind}
use Rattle.stx_model.proofs.Small.{m, n, p, a, required, requires_new, never, method, failing, plainly, calling, Says}
use Rattle.stx_model.proofs.Traces.{top, call, call_read_only, call_plain, this, leave, leave_throws, throw, catch, rules_rollback_by, rules_keep_by, opened_sync, end_commit, end_rollback, mark, take, give, begin, read, write, auto_read, auto_write, commit, rollback}
use Rattle.stx_model.proofs.Passages.{m_begins, m_commits, m_rolls_back, throws_out}

-- ---- calls that open no scope

pub a_call_of_the_same_bean_is_not_intercepted :
    Says (plainly (method required (Stmt.This n None ∷ []) ∷ method requires_new (Stmt.Read a ∷ []) ∷ [])) 0 (
    m_begins ++ this n ∷ read 1 a Answer.Absent ∷ leave n
    ∷ m_commits)
unfolding Says
a_call_of_the_same_bean_is_not_intercepted = refl

-- its exception is caught, and no rule is asked of it
pub a_failed_call_of_the_same_bean_marks_nothing : Says (plainly (method required (Stmt.This n (Some RUNTIME_EXCEPTION) ∷ []) ∷ failing ∷ [])) 0 (
    m_begins ++ this n ∷ throws_out RUNTIME_EXCEPTION n ++ catch RUNTIME_EXCEPTION
    ∷ m_commits)
unfolding Says
a_failed_call_of_the_same_bean_marks_nothing = refl

-- a mark in such a call is that of the scope round it, and goes on being so after the call
abbrev marked_self_call : Scenario
marked_self_call = plainly (
    method required (Stmt.This n None ∷ Stmt.Read a ∷ [])
    ∷ method requires_new (Stmt.Mark ∷ [])
    ∷ [])

pub a_mark_in_a_call_of_the_same_bean_is_that_of_the_scope_round_it : Says marked_self_call 0 (
    m_begins ++ this n ∷ mark ∷ leave n ∷ read 1 a Answer.Absent
    ∷ m_rolls_back)
unfolding Says
a_mark_in_a_call_of_the_same_bean_is_that_of_the_scope_round_it = refl

-- a method without an attribute writes in its caller's transaction
pub a_plain_method_runs_in_the_transaction_of_its_caller :
    Says (calling (Some RUNTIME_EXCEPTION) (method None (Stmt.Write a (pos 1) ∷ Stmt.Throw RUNTIME_EXCEPTION ∷ []))) 0 (
    m_begins ++ call_plain n ∷ write 1 a (pos 1) Answer.Done ∷ throws_out RUNTIME_EXCEPTION n ++ catch RUNTIME_EXCEPTION
    ∷ m_commits)
unfolding Says
a_plain_method_runs_in_the_transaction_of_its_caller = refl

-- ---- own statements

abbrev own_add : Scenario
own_add = plainly (method None (Stmt.Add a (pos 2) ∷ Stmt.Read a ∷ []) ∷ [])

pub each_statement_outside_a_transaction_has_a_connection_of_its_own : Says own_add 0 (
    top 0 ∷ call_plain m
    ∷ take 1 ∷ auto_read a Answer.Absent ∷ auto_write a (pos 2) Answer.Done ∷ give 1
    ∷ take 1 ∷ auto_read a (Answer.Found (pos 2)) ∷ give 1
    ∷ leave m ∷ [])
unfolding Says
each_statement_outside_a_transaction_has_a_connection_of_its_own = refl

pub an_own_add_that_is_busy_writes_nothing_and_gives_back_before_it_throws : Says own_add 0 (
    top 0 ∷ call_plain m
    ∷ take 2 ∷ auto_read a (Answer.Busy 1) ∷ give 2 ∷ throws_out CANNOT_ACQUIRE_LOCK_EXCEPTION m)
unfolding Says
an_own_add_that_is_busy_writes_nothing_and_gives_back_before_it_throws = refl

pub an_own_add_may_be_busy_at_its_write : Says own_add 0 (
    top 0 ∷ call_plain m
    ∷ take 2 ∷ auto_read a Answer.Absent ∷ auto_write a (pos 2) (Answer.Busy 1) ∷ give 2
    ∷ throws_out CANNOT_ACQUIRE_LOCK_EXCEPTION m)
unfolding Says
an_own_add_may_be_busy_at_its_write = refl

pub an_own_add_that_overflows_writes_nothing : Says (plainly (method None (Stmt.Add a (pos 1) ∷ []) ∷ [])) 0 (
    top 0 ∷ call_plain m
    ∷ take 1 ∷ auto_read a (Answer.Found (pos (2 ^ 63 - 1))) ∷ give 1 ∷ throws_out ARITHMETIC_EXCEPTION m)
unfolding Says
an_own_add_that_overflows_writes_nothing = refl

pub an_own_need_of_an_absent_row_throws : Says (plainly (method None (Stmt.Need a (pos 1) ∷ []) ∷ [])) 0 (
    top 0 ∷ call_plain m
    ∷ take 1 ∷ auto_read a Answer.Absent ∷ give 1 ∷ throws_out ILLEGAL_STATE_EXCEPTION m)
unfolding Says
an_own_need_of_an_absent_row_throws = refl

pub in_an_empty_scope_statements_are_own_ones : Says (plainly (method never (Stmt.Write a (pos 1) ∷ []) ∷ [])) 0 (
    top 0 ∷ call m Propagation.Never ∷ opened_sync Kind.Empty
    ∷ take 1 ∷ auto_write a (pos 1) Answer.Done ∷ give 1
    ∷ end_commit ∷ leave m ∷ [])
unfolding Says
in_an_empty_scope_statements_are_own_ones = refl

-- ---- attributes of methods and beans

-- the bean's attribute is read-only, begins a transaction of its own, and keeps RuntimeException
abbrev bean_attribute : TxAttr
bean_attribute = record {
  propagation = Propagation.RequiresNew;
  read_only = true;
  rules = record { rollback = false; by = RuleBy.Class RUNTIME_EXCEPTION } ∷ [];
}

-- methods of that bean: n has an attribute of its own, and p has none
abbrev own_attribute_and_none : Scenario
own_attribute_and_none = record (plainly (
    method None (Stmt.Call n (Some RUNTIME_EXCEPTION) ∷ Stmt.Call p (Some RUNTIME_EXCEPTION) ∷ [])
    ∷ record failing { bean = record { 0 = 1 } }
    ∷ record (method None (Stmt.Throw RUNTIME_EXCEPTION ∷ [])) { bean = record { 0 = 1 } }
    ∷ [])) { beans = record { name = codes "b"; tx = None } ∷ record { name = codes "c"; tx = Some bean_attribute } ∷ [] }

pub the_attribute_of_a_method_replaces_that_of_its_bean_wholly : Says own_attribute_and_none 0 (
    top 0 ∷ call_plain m
    ∷ call n Propagation.Required ∷ take 1 ∷ begin 1 ∷ opened_sync Kind.Fresh ∷ throw RUNTIME_EXCEPTION ∷ rules_rollback_by None
    ∷ end_rollback ∷ rollback 1 ∷ give 1 ∷ leave_throws n RUNTIME_EXCEPTION ∷ catch RUNTIME_EXCEPTION
    ∷ call_read_only p Propagation.RequiresNew ∷ take 1 ∷ begin 2 ∷ opened_sync Kind.Fresh ∷ throw RUNTIME_EXCEPTION ∷ rules_keep_by (Some 0)
    ∷ end_commit ∷ commit 2 1 ∷ give 1 ∷ leave_throws p RUNTIME_EXCEPTION ∷ catch RUNTIME_EXCEPTION
    ∷ leave m ∷ [])
unfolding Says
the_attribute_of_a_method_replaces_that_of_its_bean_wholly = refl
