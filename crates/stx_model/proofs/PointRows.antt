-- Worked rows: savepoints, which nested scopes make.
use Rattle.std.proofs.Common.{pos, false, [], ◌∷◌, Some, None, refl}
use Rattle.std.specs.Prelude.{◌++◌}
use Rattle.stx_scenario.specs.declared.classes.TheConstants.{EXCEPTION, RUNTIME_EXCEPTION, CANNOT_CREATE_TRANSACTION_EXCEPTION, NESTED_TRANSACTION_NOT_SUPPORTED_EXCEPTION, UNEXPECTED_ROLLBACK_EXCEPTION, CANNOT_ACQUIRE_LOCK_EXCEPTION}
use Rattle.stx_scenario.specs.declared.scenario.Scenario.{Scenario}
use Rattle.stx_scenario.specs.declared.scenario.Propagation.{Propagation}
use Rattle.stx_scenario.specs.declared.scenario.SyncMode.{SyncMode}
use Rattle.stx_scenario.specs.declared.scenario.Stmt.{Stmt}
use Rattle.stx_base.specs.declared.history.Answer.{Answer}
use Rattle.stx_base.specs.declared.manager.Kind.{Kind}
use Rattle.stx_model.proofs.Small.{m, n, p, a, k, sync_no, s, required, nested, settings, last_of_all, method, failing, sync, plainly, calling, marked_and_then, Says}
use Rattle.stx_model.proofs.Traces.{top, call, leave, leave_throws, throw, catch, rules_rollback_by, rules_keep_by, opened_sync, end_commit, end_rollback, end_unexpected, mark, take, give, begin, read, write, back_to, release, rollback, register}
use Rattle.stx_model.proofs.Passages.{m_begins, m_commits, m_commits_with, m_ends_unexpectedly, n_joins_and_marks, nests, goes_back_by, throws_out}

-- ---- a nested scope ends

pub a_nested_commit_releases_its_savepoint : Says (calling None (method nested (Stmt.Write a (pos 1) ∷ []))) 0 (
    m_begins ++ nests n ++ write 1 a (pos 1) Answer.Done
    ∷ end_commit ∷ release 1 ∷ leave n
    ∷ m_commits)
unfolding Says
a_nested_commit_releases_its_savepoint = refl

abbrev nested_failure : Scenario
nested_failure = calling (Some RUNTIME_EXCEPTION) (method nested (Stmt.Write a (pos 1) ∷ Stmt.Throw RUNTIME_EXCEPTION ∷ []))

pub a_nested_failure_goes_back_to_its_savepoint : Says nested_failure 0 (
    m_begins ++ nests n ++ write 1 a (pos 1) Answer.Done ∷ throw RUNTIME_EXCEPTION ∷ goes_back_by RUNTIME_EXCEPTION n ++ catch RUNTIME_EXCEPTION
    ∷ m_commits)
unfolding Says
a_nested_failure_goes_back_to_its_savepoint = refl

-- the rules of the nested method keep the class that it throws
pub a_nested_scope_that_keeps_its_exception_releases : Says (calling (Some EXCEPTION) (method nested (Stmt.Throw EXCEPTION ∷ []))) 0 (
    m_begins ++ nests n ++ throw EXCEPTION ∷ rules_keep_by None
    ∷ end_commit ∷ release 1 ∷ leave_throws n EXCEPTION ∷ catch EXCEPTION
    ∷ m_commits)
unfolding Says
a_nested_scope_that_keeps_its_exception_releases = refl

-- a nested scope marks itself
pub a_marked_nested_scope_goes_back_and_throws_nothing : Says (calling None (method nested (Stmt.Mark ∷ []))) 0 (
    m_begins ++ nests n ++ mark ∷ end_rollback ∷ back_to 1 ∷ release 1 ∷ leave n
    ∷ m_commits)
unfolding Says
a_marked_nested_scope_goes_back_and_throws_nothing = refl

-- ---- the global mark

-- a scope joins inside the nested one and fails
abbrev pub marked_inside : Scenario
marked_inside = plainly (
    method required (Stmt.Call p (Some UNEXPECTED_ROLLBACK_EXCEPTION) ∷ [])
    ∷ failing
    ∷ method nested (Stmt.Call n (Some RUNTIME_EXCEPTION) ∷ [])
    ∷ [])

pub a_return_to_a_savepoint_clears_the_mark : Says marked_inside 0 (
    m_begins ++ nests p
    ++ n_joins_and_marks ++ catch RUNTIME_EXCEPTION
    ∷ end_unexpected ∷ back_to 1 ∷ release 1 ∷ throws_out UNEXPECTED_ROLLBACK_EXCEPTION p ++ catch UNEXPECTED_ROLLBACK_EXCEPTION
    ∷ m_commits)
unfolding Says
a_return_to_a_savepoint_clears_the_mark = refl

-- the same, but the nested scope rolls back by its own exception
abbrev marked_and_failed_inside : Scenario
marked_and_failed_inside = plainly (
    method required (Stmt.Call p (Some RUNTIME_EXCEPTION) ∷ [])
    ∷ failing
    ∷ method nested (Stmt.Call n None ∷ [])
    ∷ [])

pub a_rollback_to_a_savepoint_clears_the_mark_too : Says marked_and_failed_inside 0 (
    m_begins ++ nests p
    ++ n_joins_and_marks ++ goes_back_by RUNTIME_EXCEPTION p ++ catch RUNTIME_EXCEPTION
    ∷ m_commits)
unfolding Says
a_rollback_to_a_savepoint_clears_the_mark_too = refl

-- a nested scope is to open after the transaction was marked
abbrev nested_under_the_mark : Scenario
nested_under_the_mark = marked_and_then (Some CANNOT_CREATE_TRANSACTION_EXCEPTION) (method nested [])

pub no_savepoint_is_made_under_the_mark : Says nested_under_the_mark 0 (
    m_begins ++ n_joins_and_marks ++ catch RUNTIME_EXCEPTION
    ∷ call p Propagation.Nested ∷ throws_out CANNOT_CREATE_TRANSACTION_EXCEPTION p ++ catch CANNOT_CREATE_TRANSACTION_EXCEPTION
    ∷ m_ends_unexpectedly)
unfolding Says
no_savepoint_is_made_under_the_mark = refl

-- ---- where the manager makes no savepoints, and where there is no transaction

pub nested_scopes_are_refused_where_the_manager_allows_none : Says (record nested_failure { settings = settings 8 SyncMode.Always false }) 0 (
    m_begins ++ call n Propagation.Nested ∷ throws_out NESTED_TRANSACTION_NOT_SUPPORTED_EXCEPTION n
    ++ catch NESTED_TRANSACTION_NOT_SUPPORTED_EXCEPTION
    ∷ m_commits)
unfolding Says
nested_scopes_are_refused_where_the_manager_allows_none = refl

-- under the mark the refusal is the same
pub nested_scopes_are_refused_so_under_the_mark_too :
    Says (record nested_under_the_mark { settings = settings 8 SyncMode.Always false }) 0 (
    m_begins ++ n_joins_and_marks ++ catch RUNTIME_EXCEPTION
    ∷ call p Propagation.Nested ∷ throws_out NESTED_TRANSACTION_NOT_SUPPORTED_EXCEPTION p ++ catch NESTED_TRANSACTION_NOT_SUPPORTED_EXCEPTION
    ∷ m_ends_unexpectedly)
unfolding Says
nested_scopes_are_refused_so_under_the_mark_too = refl

pub a_nested_scope_without_a_transaction_is_fresh : Says (plainly (method nested [] ∷ [])) 0 (
    top 0 ∷ call m Propagation.Nested ∷ take 1 ∷ begin 1 ∷ opened_sync Kind.Fresh ∷ m_commits)
unfolding Says
a_nested_scope_without_a_transaction_is_fresh = refl

-- ---- what outlives a savepoint

-- the nested scope's write is undone; another client writes the row meanwhile
abbrev rivals_over_a_savepoint : Scenario
rivals_over_a_savepoint = record (plainly (
    method required (Stmt.Call n (Some RUNTIME_EXCEPTION) ∷ Stmt.Read k ∷ [])
    ∷ method nested (Stmt.Write k (pos 5) ∷ Stmt.Throw RUNTIME_EXCEPTION ∷ [])
    ∷ method required (Stmt.Write k (pos 9) ∷ [])
    ∷ [])) { clients = (m ∷ []) ∷ (p ∷ []) ∷ [] }

pub a_row_is_absent_again_after_the_return : Says rivals_over_a_savepoint 0 (
    m_begins ++ nests n ++ write 1 k (pos 5) Answer.Done ∷ throw RUNTIME_EXCEPTION ∷ goes_back_by RUNTIME_EXCEPTION n ++ catch RUNTIME_EXCEPTION
    ∷ read 1 k Answer.Absent ∷ m_commits)
unfolding Says
a_row_is_absent_again_after_the_return = refl

pub a_lock_outlives_the_savepoint : Says rivals_over_a_savepoint 1 (
    top 0 ∷ call p Propagation.Required ∷ take 2 ∷ begin 2 ∷ opened_sync Kind.Fresh
    ∷ write 2 k (pos 9) (Answer.Busy 1) ∷ throw CANNOT_ACQUIRE_LOCK_EXCEPTION ∷ rules_rollback_by None
    ∷ end_rollback ∷ rollback 2 ∷ give 2 ∷ leave_throws p CANNOT_ACQUIRE_LOCK_EXCEPTION ∷ [])
unfolding Says
a_lock_outlives_the_savepoint = refl

-- a nested scope registers, and goes back
pub a_registration_outlives_the_savepoint :
    Says (record (calling (Some RUNTIME_EXCEPTION) (method nested (Stmt.Register (sync_no 0) ∷ Stmt.Throw RUNTIME_EXCEPTION ∷ []))) {
      syncs = sync last_of_all ∷ [];
    }) 0 (
    m_begins ++ nests n ++ register s ∷ throw RUNTIME_EXCEPTION ∷ goes_back_by RUNTIME_EXCEPTION n ++ catch RUNTIME_EXCEPTION
    ∷ m_commits_with s)
unfolding Says
a_registration_outlives_the_savepoint = refl

-- ---- one savepoint inside another

abbrev nested_twice : Scenario
nested_twice = plainly (
    method required (Stmt.Call n None ∷ [])
    ∷ method nested (Stmt.Call p (Some RUNTIME_EXCEPTION) ∷ Stmt.Write a (pos 1) ∷ [])
    ∷ method nested (Stmt.Throw RUNTIME_EXCEPTION ∷ [])
    ∷ [])

pub the_innermost_savepoint_is_returned_to_first : Says nested_twice 0 (
    m_begins ++ nests n
    ++ nests p ++ throw RUNTIME_EXCEPTION ∷ goes_back_by RUNTIME_EXCEPTION p ++ catch RUNTIME_EXCEPTION
    ∷ write 1 a (pos 1) Answer.Done ∷ end_commit ∷ release 1 ∷ leave n
    ∷ m_commits)
unfolding Says
the_innermost_savepoint_is_returned_to_first = refl
