-- Worked rows: scopes that suspend what they meet, empty scopes, and pools without a connection.
use Rattle.std.proofs.Common.{pos, true, List, [], ◌∷◌, Some, None, refl}
use Rattle.std.specs.Prelude.{◌++◌}
use Rattle.stx_scenario.specs.declared.classes.TheConstants.{RUNTIME_EXCEPTION, ILLEGAL_STATE_EXCEPTION, CANNOT_CREATE_TRANSACTION_EXCEPTION, ILLEGAL_TRANSACTION_STATE_EXCEPTION, CANNOT_GET_JDBC_CONNECTION_EXCEPTION}
use Rattle.stx_scenario.specs.declared.scenario.Scenario.{Scenario}
use Rattle.stx_scenario.specs.declared.scenario.Propagation.{Propagation}
use Rattle.stx_scenario.specs.declared.scenario.SyncMode.{SyncMode}
use Rattle.stx_scenario.specs.declared.scenario.Stmt.{Stmt}
use Rattle.stx_base.specs.declared.history.Answer.{Answer}
use Rattle.stx_base.specs.declared.line.Line.{Line}
use Rattle.stx_base.specs.declared.manager.Kind.{Kind}
use Rattle.stx_model.proofs.Small.{m, n, p, a, sync_no, s, t, required, supports, requires_new, not_supported, never, settings, last_of_all, method, sync, plainly, calling, marked_and_then, Says}
use Rattle.stx_model.proofs.Traces.{top, call, call_plain, leave, leave_throws, throw, catch, rules_rollback_by, opened_sync, opened, end_commit, end_rollback, mark, take, take_empty, give, unbind, bind, suspend, resume, begin, write, auto_write, commit, rollback, register, before_commit, before_completion, after_commit, after_completion_committed, after_completion_rolled_back}
use Rattle.stx_model.proofs.Passages.{m_begins, m_commits, m_commits_with, m_rolls_back, m_rolls_back_by, m_ends_unexpectedly, n_joins_and_marks, throws_out}

-- ---- an empty pool

-- m has the one connection, and n wants another
abbrev over_one_connection : List Stmt → Scenario
over_one_connection body = record (plainly (method required body ∷ method requires_new [] ∷ [])) { settings = settings 1 SyncMode.Always true }

-- m catches what n throws then
abbrev call_n : Stmt
call_n = Stmt.Call n (Some CANNOT_CREATE_TRANSACTION_EXCEPTION)

abbrev n_finds_none : List Line
n_finds_none = call n Propagation.RequiresNew ∷ unbind 1 ∷ take_empty ∷ bind 1 ∷ throws_out CANNOT_CREATE_TRANSACTION_EXCEPTION n

pub an_empty_pool_resumes_the_outer_transaction : Says (over_one_connection (call_n ∷ [])) 0 (
    m_begins ++ n_finds_none ++ catch CANNOT_CREATE_TRANSACTION_EXCEPTION ∷ m_commits)
unfolding Says
an_empty_pool_resumes_the_outer_transaction = refl

pub an_empty_pool_resumes_the_registrations :
    Says (record (over_one_connection (Stmt.Register (sync_no 0) ∷ call_n ∷ [])) { syncs = sync last_of_all ∷ [] }) 0 (
    m_begins ++ register s
    ∷ call n Propagation.RequiresNew ∷ suspend s ∷ unbind 1 ∷ take_empty ∷ bind 1 ∷ resume s
    ∷ throws_out CANNOT_CREATE_TRANSACTION_EXCEPTION n ++ catch CANNOT_CREATE_TRANSACTION_EXCEPTION
    ∷ m_commits_with s)
unfolding Says
an_empty_pool_resumes_the_registrations = refl

-- the outer scope has marked itself before
pub an_empty_pool_leaves_the_local_mark : Says (over_one_connection (Stmt.Mark ∷ call_n ∷ [])) 0 (
    m_begins ++ mark ∷ n_finds_none ++ catch CANNOT_CREATE_TRANSACTION_EXCEPTION ∷ m_rolls_back)
unfolding Says
an_empty_pool_leaves_the_local_mark = refl

-- three scopes, each of which wants a connection of its own
pub an_empty_pool_that_nobody_catches_rolls_the_outer_one_back :
    Says (record (over_one_connection []) {
      methods = method required (Stmt.Call n None ∷ []) ∷ method requires_new (Stmt.Call p None ∷ []) ∷ method requires_new [] ∷ [];
    }) 0 (
    m_begins ++ n_finds_none ++ m_rolls_back_by CANNOT_CREATE_TRANSACTION_EXCEPTION)
unfolding Says
an_empty_pool_that_nobody_catches_rolls_the_outer_one_back = refl

-- outside a transaction a statement finds no connection
pub an_own_statement_needs_a_connection : Says (plainly (method None (Stmt.Read a ∷ []) ∷ [])) 0 (
    top 0 ∷ call_plain m ∷ take_empty
    ∷ throws_out CANNOT_GET_JDBC_CONNECTION_EXCEPTION m)
unfolding Says
an_own_statement_needs_a_connection = refl

-- ---- a transaction inside another

-- both scopes have registrations, and the inner transaction rolls back
abbrev two_transactions : Scenario
two_transactions = record (plainly (
    method required (Stmt.Register (sync_no 0) ∷ Stmt.Register (sync_no 1) ∷ Stmt.Call n (Some RUNTIME_EXCEPTION) ∷ Stmt.Write a (pos 1) ∷ [])
    ∷ method requires_new (Stmt.Register (sync_no 0) ∷ Stmt.Throw RUNTIME_EXCEPTION ∷ [])
    ∷ [])) { syncs = sync (pos 2) ∷ sync (pos 1) ∷ [] }

pub registrations_are_suspended_and_resumed_by_their_order : Says two_transactions 0 (
    m_begins ++ register s ∷ register t
    ∷ call n Propagation.RequiresNew ∷ suspend t ∷ suspend s ∷ unbind 1 ∷ take 2 ∷ begin 2 ∷ opened_sync Kind.Fresh
    ∷ register s ∷ throw RUNTIME_EXCEPTION ∷ rules_rollback_by None
    ∷ end_rollback ∷ before_completion s ∷ rollback 2 ∷ after_completion_rolled_back s ∷ give 2
    ∷ bind 1 ∷ resume t ∷ resume s ∷ leave_throws n RUNTIME_EXCEPTION ∷ catch RUNTIME_EXCEPTION
    ∷ write 1 a (pos 1) Answer.Done
    ∷ end_commit ∷ before_commit t ∷ before_commit s ∷ before_completion t ∷ before_completion s ∷ commit 1 1
    ∷ after_commit t ∷ after_commit s ∷ after_completion_committed t ∷ after_completion_committed s ∷ give 1 ∷ leave m ∷ [])
unfolding Says
registrations_are_suspended_and_resumed_by_their_order = refl

-- the outer transaction is marked, and the inner one isn't
pub a_new_transaction_has_no_mark_and_leaves_that_of_the_outer_one : Says (marked_and_then None (method requires_new [])) 0 (
    m_begins ++ n_joins_and_marks ++ catch RUNTIME_EXCEPTION
    ∷ call p Propagation.RequiresNew ∷ unbind 1 ∷ take 2 ∷ begin 2 ∷ opened_sync Kind.Fresh ∷ end_commit ∷ commit 2 1 ∷ give 2 ∷ bind 1 ∷ leave p
    ∷ m_ends_unexpectedly)
unfolding Says
a_new_transaction_has_no_mark_and_leaves_that_of_the_outer_one = refl

-- ---- never, and not_supported

pub never_is_refused_inside_a_transaction : Says (calling (Some ILLEGAL_TRANSACTION_STATE_EXCEPTION) (method never [])) 0 (
    m_begins ++ call n Propagation.Never ∷ throws_out ILLEGAL_TRANSACTION_STATE_EXCEPTION n ++ catch ILLEGAL_TRANSACTION_STATE_EXCEPTION
    ∷ m_commits)
unfolding Says
never_is_refused_inside_a_transaction = refl

-- the inner scope has registrations of its own, and writes outside the transaction
abbrev apart : Scenario
apart = record (plainly (
    method required (Stmt.Register (sync_no 0) ∷ Stmt.Call n None ∷ [])
    ∷ method not_supported (Stmt.Register (sync_no 1) ∷ Stmt.Write a (pos 1) ∷ [])
    ∷ [])) { syncs = sync last_of_all ∷ sync last_of_all ∷ [] }

pub not_supported_suspends_the_transaction : Says apart 0 (
    m_begins ++ register s
    ∷ call n Propagation.NotSupported ∷ suspend s ∷ unbind 1 ∷ opened_sync Kind.Empty
    ∷ register t ∷ take 2 ∷ auto_write a (pos 1) Answer.Done ∷ give 2
    ∷ end_commit ∷ before_commit t ∷ before_completion t ∷ after_commit t ∷ after_completion_committed t ∷ bind 1 ∷ resume s ∷ leave n
    ∷ m_commits_with s)
unfolding Says
not_supported_suspends_the_transaction = refl

-- ---- synchronisation without a transaction

abbrev fresh_in_an_empty_scope : Scenario
fresh_in_an_empty_scope = record (plainly (
    method supports (Stmt.Register (sync_no 0) ∷ Stmt.Call n None ∷ [])
    ∷ method required []
    ∷ [])) { syncs = sync last_of_all ∷ [] }

pub a_fresh_scope_suspends_synchronisation_alone : Says fresh_in_an_empty_scope 0 (
    top 0 ∷ call m Propagation.Supports ∷ opened_sync Kind.Empty ∷ register s
    ∷ call n Propagation.Required ∷ suspend s ∷ take 1 ∷ begin 1 ∷ opened_sync Kind.Fresh ∷ end_commit ∷ commit 1 1 ∷ give 1 ∷ resume s ∷ leave n
    ∷ end_commit ∷ before_commit s ∷ before_completion s ∷ after_commit s ∷ after_completion_committed s ∷ leave m ∷ [])
unfolding Says
a_fresh_scope_suspends_synchronisation_alone = refl

pub an_empty_scope_owns_no_synchronisation_in_the_mode_actual : Says (record fresh_in_an_empty_scope { settings = settings 8 SyncMode.Actual true }) 0 (
    top 0 ∷ call m Propagation.Supports ∷ opened Kind.Empty
    ∷ throw ILLEGAL_STATE_EXCEPTION ∷ rules_rollback_by None ∷ end_rollback ∷ leave_throws m ILLEGAL_STATE_EXCEPTION ∷ [])
unfolding Says
an_empty_scope_owns_no_synchronisation_in_the_mode_actual = refl

-- the pool is empty where synchronisation alone was suspended
pub an_empty_pool_resumes_synchronisation_alone : Says fresh_in_an_empty_scope 0 (
    top 0 ∷ call m Propagation.Supports ∷ opened_sync Kind.Empty ∷ register s
    ∷ call n Propagation.Required ∷ suspend s ∷ take_empty ∷ resume s
    ∷ throws_out CANNOT_CREATE_TRANSACTION_EXCEPTION n
    ++ rules_rollback_by None ∷ end_rollback ∷ before_completion s ∷ after_completion_rolled_back s
    ∷ leave_throws m CANNOT_CREATE_TRANSACTION_EXCEPTION ∷ [])
unfolding Says
an_empty_pool_resumes_synchronisation_alone = refl

pub a_marked_empty_scope_tells_a_rollback :
    Says (record (plainly (method supports (Stmt.Register (sync_no 0) ∷ Stmt.Mark ∷ []) ∷ [])) { syncs = sync last_of_all ∷ [] }) 0 (
    top 0 ∷ call m Propagation.Supports ∷ opened_sync Kind.Empty ∷ register s ∷ mark
    ∷ end_rollback ∷ before_completion s ∷ after_completion_rolled_back s ∷ leave m ∷ [])
unfolding Says
a_marked_empty_scope_tells_a_rollback = refl

-- one empty scope in another
abbrev empty_in_empty : Scenario
empty_in_empty = record (plainly (
    method supports (Stmt.Call n None ∷ [])
    ∷ method not_supported (Stmt.Register (sync_no 0) ∷ [])
    ∷ [])) { syncs = sync last_of_all ∷ [] }

pub an_inner_empty_scope_leaves_its_registrations_to_the_owner : Says empty_in_empty 0 (
    top 0 ∷ call m Propagation.Supports ∷ opened_sync Kind.Empty
    ∷ call n Propagation.NotSupported ∷ opened Kind.Empty ∷ register s ∷ end_commit ∷ leave n
    ∷ end_commit ∷ before_commit s ∷ before_completion s ∷ after_commit s ∷ after_completion_committed s ∷ leave m ∷ [])
unfolding Says
an_inner_empty_scope_leaves_its_registrations_to_the_owner = refl

-- no scope owns synchronisation in the mode never
abbrev registered_in_the_mode_never : Scenario
registered_in_the_mode_never = record (plainly (method required (Stmt.Register (sync_no 0) ∷ []) ∷ [])) {
  settings = settings 8 SyncMode.Never true;
  syncs = sync last_of_all ∷ [];
}

pub nothing_registers_in_the_mode_never : Says registered_in_the_mode_never 0 (
    top 0 ∷ call m Propagation.Required ∷ take 1 ∷ begin 1 ∷ opened Kind.Fresh
    ∷ throw ILLEGAL_STATE_EXCEPTION ∷ m_rolls_back_by ILLEGAL_STATE_EXCEPTION)
unfolding Says
nothing_registers_in_the_mode_never = refl
