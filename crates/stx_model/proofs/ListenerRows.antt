-- Worked rows: transactional event listeners.
use Rattle.std.proofs.Common.{pos, true, false, List, [], ◌∷◌, None, refl}
use Rattle.std.specs.Prelude.{◌++◌}
use Rattle.stx_scenario.specs.declared.classes.TheConstants.{EXCEPTION, RUNTIME_EXCEPTION}
use Rattle.stx_scenario.specs.declared.scenario.Scenario.{Scenario}
use Rattle.stx_scenario.specs.declared.scenario.Propagation.{Propagation}
use Rattle.stx_scenario.specs.declared.scenario.SyncMode.{SyncMode}
use Rattle.stx_scenario.specs.declared.scenario.Phase.{Phase}
use Rattle.stx_scenario.specs.declared.scenario.Stmt.{Stmt}
use Rattle.stx_base.specs.declared.history.Answer.{Answer}
use Rattle.stx_base.specs.declared.line.Label.{Label}
use Rattle.stx_base.specs.declared.manager.Kind.{Kind}
use Rattle.stx_model.proofs.Small.{m, n, a, sync_no, e, listener_no, s, l, o, required, requires_new, not_supported, settings, last_of_all, method, sync, listener, plainly, calling, Says}
use Rattle.stx_model.proofs.Traces.{top, call, call_plain, leave, leave_throws, throw, swallow, rules_rollback_by, opened, opened_sync, end_commit, end_rollback, mark, take, give, unbind, bind, begin, write, auto_write, commit, rollback, register, publish, listen, skip, before_commit, before_completion, after_commit, after_completion_committed, after_completion_rolled_back}
use Rattle.stx_model.proofs.Passages.{m_begins, m_commits, m_is_refused_with, n_begins_apart, throws_out}

-- ---- registered listeners

-- a listener calls a method that fails
abbrev failing_listener : Scenario
failing_listener = record (plainly (
    method required (Stmt.Publish e ∷ [])
    ∷ method requires_new (Stmt.Throw RUNTIME_EXCEPTION ∷ [])
    ∷ [])) { settings = settings 2 SyncMode.Always true; listeners = listener Phase.AfterCommit false (Stmt.Call n None ∷ []) ∷ [] }

pub an_after_commit_listener_runs_after_completion_and_what_it_throws_is_swallowed : Says failing_listener 0 (
    m_begins ++ publish e ∷ register l
    ∷ end_commit ∷ before_commit l ∷ before_completion l ∷ commit 1 1 ∷ after_commit l ∷ after_completion_committed l
    ∷ listen (listener_no 0)
    ∷ n_begins_apart ++ throw RUNTIME_EXCEPTION ∷ rules_rollback_by None
    ∷ end_rollback ∷ rollback 2 ∷ give 2 ∷ bind 1 ∷ leave_throws n RUNTIME_EXCEPTION
    ∷ swallow RUNTIME_EXCEPTION
    ∷ give 1 ∷ leave m ∷ [])
unfolding Says
an_after_commit_listener_runs_after_completion_and_what_it_throws_is_swallowed = refl

abbrev rolled_back_with_a_listener : Phase → Scenario
rolled_back_with_a_listener phase = record (plainly (method required (Stmt.Publish e ∷ Stmt.Mark ∷ []) ∷ [])) {
  listeners = listener phase false [] ∷ [];
}

pub an_after_rollback_listener_runs_where_the_transaction_rolled_back : Says (rolled_back_with_a_listener Phase.AfterRollback) 0 (
    m_begins ++ publish e ∷ register l ∷ mark
    ∷ end_rollback ∷ before_completion l ∷ rollback 1 ∷ after_completion_rolled_back l ∷ listen (listener_no 0) ∷ give 1 ∷ leave m ∷ [])
unfolding Says
an_after_rollback_listener_runs_where_the_transaction_rolled_back = refl

pub an_after_completion_listener_runs_there_too : Says (rolled_back_with_a_listener Phase.AfterCompletion) 0 (
    m_begins ++ publish e ∷ register l ∷ mark
    ∷ end_rollback ∷ before_completion l ∷ rollback 1 ∷ after_completion_rolled_back l ∷ listen (listener_no 0) ∷ give 1 ∷ leave m ∷ [])
unfolding Says
an_after_completion_listener_runs_there_too = refl

pub an_after_commit_listener_does_not_run_there : Says (rolled_back_with_a_listener Phase.AfterCommit) 0 (
    m_begins ++ publish e ∷ register l ∷ mark
    ∷ end_rollback ∷ before_completion l ∷ rollback 1 ∷ after_completion_rolled_back l ∷ give 1 ∷ leave m ∷ [])
unfolding Says
an_after_commit_listener_does_not_run_there = refl

-- a listener of each phase, in this order, and a commit
abbrev each_phase : Scenario
each_phase = record (plainly (method required (Stmt.Publish e ∷ []) ∷ [])) {
  listeners = listener Phase.BeforeCommit false (Stmt.Write a (pos 1) ∷ [])
      ∷ listener Phase.AfterRollback false []
      ∷ listener Phase.AfterCompletion false []
      ∷ [];
}

pub each_listener_runs_in_the_round_of_its_phase : Says each_phase 0 (
    m_begins ++ publish e ∷ register l ∷ register o ∷ register (Label.Listener (listener_no 2))
    ∷ end_commit
    ∷ before_commit l ∷ listen (listener_no 0) ∷ write 1 a (pos 1) Answer.Done
    ∷ before_commit o ∷ before_commit (Label.Listener (listener_no 2))
    ∷ before_completion l ∷ before_completion o ∷ before_completion (Label.Listener (listener_no 2))
    ∷ commit 1 1
    ∷ after_commit l ∷ after_commit o ∷ after_commit (Label.Listener (listener_no 2))
    ∷ after_completion_committed l ∷ after_completion_committed o
    ∷ after_completion_committed (Label.Listener (listener_no 2)) ∷ listen (listener_no 2)
    ∷ give 1 ∷ leave m ∷ [])
unfolding Says
each_listener_runs_in_the_round_of_its_phase = refl

-- a before_commit listener throws
pub a_throw_of_a_before_commit_listener_rolls_back :
    Says (record each_phase { listeners = listener Phase.BeforeCommit false (Stmt.Throw EXCEPTION ∷ []) ∷ [] }) 0 (
    m_begins ++ publish e ∷ register l
    ∷ end_commit ∷ before_commit l ∷ listen (listener_no 0) ∷ throw EXCEPTION
    ∷ m_is_refused_with l EXCEPTION)
unfolding Says
a_throw_of_a_before_commit_listener_rolls_back = refl

-- ---- fallback

-- in an empty scope inside a suspended transaction
abbrev published_apart : Scenario
published_apart = record (calling None (method not_supported (Stmt.Publish e ∷ []))) {
  listeners = listener Phase.AfterCommit true [] ∷ listener Phase.AfterCommit false [] ∷ [];
}

pub without_a_transaction_a_listener_with_fallback_runs_at_once_and_others_are_skipped : Says published_apart 0 (
    m_begins ++ call n Propagation.NotSupported ∷ unbind 1 ∷ opened_sync Kind.Empty
    ∷ publish e ∷ listen (listener_no 0) ∷ skip (listener_no 1)
    ∷ end_commit ∷ bind 1 ∷ leave n
    ∷ m_commits)
unfolding Says
without_a_transaction_a_listener_with_fallback_runs_at_once_and_others_are_skipped = refl

-- in a transaction, where the manager has no synchronisation
abbrev published_in_the_mode_never : Scenario
published_in_the_mode_never = record (plainly (method required (Stmt.Write a (pos 1) ∷ Stmt.Publish e ∷ Stmt.Write a (pos 3) ∷ []) ∷ [])) {
  settings = settings 8 SyncMode.Never true;
  listeners = listener Phase.BeforeCommit true (Stmt.Write a (pos 2) ∷ []) ∷ listener Phase.BeforeCommit false [] ∷ [];
}

pub in_the_mode_never_a_listener_with_fallback_runs_at_once_in_the_live_transaction : Says published_in_the_mode_never 0 (
    top 0 ∷ call m Propagation.Required ∷ take 1 ∷ begin 1 ∷ opened Kind.Fresh
    ∷ write 1 a (pos 1) Answer.Done
    ∷ publish e ∷ listen (listener_no 0) ∷ write 1 a (pos 2) Answer.Done ∷ skip (listener_no 1)
    ∷ write 1 a (pos 3) Answer.Done
    ∷ m_commits)
unfolding Says
in_the_mode_never_a_listener_with_fallback_runs_at_once_in_the_live_transaction = refl

-- in a transaction, with synchronisation
pub a_listener_with_fallback_that_is_registered_runs_in_its_phase_alone :
    Says (record published_in_the_mode_never { settings = settings 8 SyncMode.Always true }) 0 (
    m_begins ++ write 1 a (pos 1) Answer.Done
    ∷ publish e ∷ register l ∷ register o
    ∷ write 1 a (pos 3) Answer.Done
    ∷ end_commit ∷ before_commit l ∷ listen (listener_no 0) ∷ write 1 a (pos 2) Answer.Done ∷ before_commit o ∷ listen (listener_no 1)
    ∷ before_completion l ∷ before_completion o ∷ commit 1 1
    ∷ after_commit l ∷ after_commit o ∷ after_completion_committed l ∷ after_completion_committed o ∷ give 1 ∷ leave m ∷ [])
unfolding Says
a_listener_with_fallback_that_is_registered_runs_in_its_phase_alone = refl

-- outside every scope the listener's body is an own statement
pub a_listener_with_fallback_outside_a_transaction_takes_a_connection_of_its_own :
    Says (record published_in_the_mode_never { methods = method None (Stmt.Publish e ∷ []) ∷ [] }) 0 (
    top 0 ∷ call_plain m
    ∷ publish e ∷ listen (listener_no 0) ∷ take 1 ∷ auto_write a (pos 2) Answer.Done ∷ give 1 ∷ skip (listener_no 1)
    ∷ leave m ∷ [])
unfolding Says
a_listener_with_fallback_outside_a_transaction_takes_a_connection_of_its_own = refl

-- the first listener throws at once
abbrev thrown_at_once : Scenario
thrown_at_once = record (plainly (method None (Stmt.Publish e ∷ Stmt.Write a (pos 1) ∷ []) ∷ [])) {
  listeners = listener Phase.AfterCommit true (Stmt.Throw EXCEPTION ∷ []) ∷ listener Phase.AfterCommit true [] ∷ [];
}

pub what_a_listener_throws_at_once_leaves_the_publication : Says thrown_at_once 0 (
    top 0 ∷ call_plain m ∷ publish e ∷ listen (listener_no 0) ∷ throws_out EXCEPTION m)
unfolding Says
what_a_listener_throws_at_once_leaves_the_publication = refl

-- ---- order

-- a synchronisation and two listeners of equal order values, and a listener of a lower one
abbrev equal_order_values : List Stmt → Scenario
equal_order_values body = record (plainly (method required body ∷ [])) {
  syncs = sync last_of_all ∷ [];
  listeners = listener Phase.AfterCommit false [] ∷ record (listener Phase.AfterCommit false []) { order = pos 7 } ∷ [];
}

pub a_tie_of_a_synchronisation_and_a_listener_is_as_registered : Says (equal_order_values (Stmt.Register (sync_no 0) ∷ Stmt.Publish e ∷ [])) 0 (
    m_begins ++ register s
    ∷ publish e ∷ register o ∷ register l
    ∷ end_commit ∷ before_commit o ∷ before_commit s ∷ before_commit l ∷ before_completion o ∷ before_completion s ∷ before_completion l ∷ commit 1 1
    ∷ after_commit o ∷ after_commit s ∷ after_commit l
    ∷ after_completion_committed o ∷ listen (listener_no 1) ∷ after_completion_committed s ∷ after_completion_committed l ∷ listen (listener_no 0)
    ∷ give 1 ∷ leave m ∷ [])
unfolding Says
a_tie_of_a_synchronisation_and_a_listener_is_as_registered = refl

pub and_so_is_the_tie_where_the_listener_comes_first : Says (equal_order_values (Stmt.Publish e ∷ Stmt.Register (sync_no 0) ∷ [])) 0 (
    m_begins ++ publish e ∷ register o ∷ register l ∷ register s
    ∷ end_commit ∷ before_commit o ∷ before_commit l ∷ before_commit s ∷ before_completion o ∷ before_completion l ∷ before_completion s ∷ commit 1 1
    ∷ after_commit o ∷ after_commit l ∷ after_commit s
    ∷ after_completion_committed o ∷ listen (listener_no 1) ∷ after_completion_committed l ∷ listen (listener_no 0) ∷ after_completion_committed s
    ∷ give 1 ∷ leave m ∷ [])
unfolding Says
and_so_is_the_tie_where_the_listener_comes_first = refl

-- outside a transaction the order is by order value, too
pub skipped_listeners_come_by_their_order : Says (record (equal_order_values []) { methods = method None (Stmt.Publish e ∷ []) ∷ [] }) 0 (
    top 0 ∷ call_plain m ∷ publish e ∷ skip (listener_no 1) ∷ skip (listener_no 0) ∷ leave m ∷ [])
unfolding Says
skipped_listeners_come_by_their_order = refl
