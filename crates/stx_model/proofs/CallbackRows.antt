-- Worked rows: synchronisations, their rounds, and what is thrown out of their callbacks.
use Rattle.std.proofs.Common.{pos, negsuc, List, [], ◌∷◌, Some, None, refl}
use Rattle.std.specs.Prelude.{◌++◌}
use Rattle.stx_scenario.specs.declared.classes.TheConstants.{EXCEPTION, ERROR, RUNTIME_EXCEPTION, UNEXPECTED_ROLLBACK_EXCEPTION, CANNOT_ACQUIRE_LOCK_EXCEPTION}
use Rattle.stx_scenario.specs.declared.scenario.Scenario.{Scenario}
use Rattle.stx_scenario.specs.declared.scenario.Propagation.{Propagation}
use Rattle.stx_scenario.specs.declared.scenario.Stmt.{Stmt}
use Rattle.stx_base.specs.declared.history.Answer.{Answer}
use Rattle.stx_base.specs.declared.line.Label.{Label}
use Rattle.stx_base.specs.declared.line.Line.{Line}
use Rattle.stx_base.specs.declared.manager.Kind.{Kind}
use Rattle.stx_model.proofs.Small.{m, n, a, sync_no, s, t, required, supports, requires_new, last_of_all, method, failing, sync, plainly, registering, Says}
use Rattle.stx_model.proofs.Traces.{top, call, leave, leave_throws, throw, catch, swallow, rules_rollback_by, rules_keep_by, opened_sync, opened, end_commit, end_rollback, end_unexpected, take, give, unbind, bind, suspend, resume, begin, write, commit, rollback, register, before_commit, before_completion, after_commit, after_completion_committed, after_completion_rolled_back}
use Rattle.stx_model.proofs.Passages.{m_begins, m_is_refused_with, n_joins_and_marks, n_begins_apart}

-- ---- order

-- two synchronisations, the later of which has the lower order value
abbrev by_order_value : Scenario
by_order_value = record (plainly (method required (Stmt.Register (sync_no 0) ∷ Stmt.Register (sync_no 1) ∷ Stmt.Register (sync_no 0) ∷ []) ∷ [])) {
  syncs = sync (pos 5) ∷ sync (pos 1) ∷ [];
}

pub lower_order_values_come_first_and_ties_as_registered : Says by_order_value 0 (
    m_begins ++ register s ∷ register t ∷ register s
    ∷ end_commit
    ∷ before_commit t ∷ before_commit s ∷ before_commit s
    ∷ before_completion t ∷ before_completion s ∷ before_completion s
    ∷ commit 1 1
    ∷ after_commit t ∷ after_commit s ∷ after_commit s
    ∷ after_completion_committed t ∷ after_completion_committed s ∷ after_completion_committed s
    ∷ give 1 ∷ leave m ∷ [])
unfolding Says
lower_order_values_come_first_and_ties_as_registered = refl

-- order values may be negative
pub negative_order_values_come_before_all_others : Says (record by_order_value {
  methods = method required (Stmt.Register (sync_no 0) ∷ Stmt.Register (sync_no 1) ∷ Stmt.Register (sync_no 2) ∷ []) ∷ [];
  syncs = sync (pos 0) ∷ sync (negsuc 0) ∷ sync (negsuc 4) ∷ [];
}) 0 (
    m_begins ++ register s ∷ register t ∷ register (Label.Sync (sync_no 2))
    ∷ end_commit ∷ before_commit (Label.Sync (sync_no 2)) ∷ before_commit t ∷ before_commit s
    ∷ before_completion (Label.Sync (sync_no 2)) ∷ before_completion t ∷ before_completion s
    ∷ commit 1 1 ∷ after_commit (Label.Sync (sync_no 2)) ∷ after_commit t ∷ after_commit s
    ∷ after_completion_committed (Label.Sync (sync_no 2)) ∷ after_completion_committed t ∷ after_completion_committed s
    ∷ give 1 ∷ leave m ∷ [])
unfolding Says
negative_order_values_come_before_all_others = refl

-- a joined scope registers with the owner of the synchronisation
abbrev registered_by_two : Scenario
registered_by_two = record (plainly (
    method required (Stmt.Register (sync_no 0) ∷ Stmt.Call n None ∷ [])
    ∷ method required (Stmt.Register (sync_no 1) ∷ [])
    ∷ [])) { syncs = sync last_of_all ∷ sync last_of_all ∷ [] }

pub the_fresh_scope_alone_calls_back : Says registered_by_two 0 (
    m_begins ++ register s
    ∷ call n Propagation.Required ∷ opened Kind.Join ∷ register t ∷ end_commit ∷ leave n
    ∷ end_commit ∷ before_commit s ∷ before_commit t ∷ before_completion s ∷ before_completion t ∷ commit 1 1
    ∷ after_commit s ∷ after_commit t ∷ after_completion_committed s ∷ after_completion_committed t ∷ give 1 ∷ leave m ∷ [])
unfolding Says
the_fresh_scope_alone_calls_back = refl

-- ---- before_commit

-- the first of two callbacks throws
abbrev refused_commit : Scenario
refused_commit = registering (record (sync last_of_all) { before_commit = Stmt.Throw RUNTIME_EXCEPTION ∷ [] })

pub a_throw_before_commit_rolls_back : Says refused_commit 0 (
    m_begins ++ register s
    ∷ end_commit ∷ before_commit s ∷ throw RUNTIME_EXCEPTION
    ∷ m_is_refused_with s RUNTIME_EXCEPTION)
unfolding Says
a_throw_before_commit_rolls_back = refl

-- two registrations of it; the body throws what the rules keep
pub a_throw_before_commit_ends_the_round_and_is_what_leaves :
    Says (record refused_commit {
      methods = method required (Stmt.Register (sync_no 0) ∷ Stmt.Register (sync_no 0) ∷ Stmt.Throw EXCEPTION ∷ []) ∷ [];
    }) 0 (
    m_begins ++ register s ∷ register s ∷ throw EXCEPTION ∷ rules_keep_by None
    ∷ end_commit ∷ before_commit s ∷ throw RUNTIME_EXCEPTION
    ∷ before_completion s ∷ before_completion s ∷ rollback 1
    ∷ after_completion_rolled_back s ∷ after_completion_rolled_back s ∷ give 1 ∷ leave_throws m RUNTIME_EXCEPTION ∷ [])
unfolding Says
a_throw_before_commit_ends_the_round_and_is_what_leaves = refl

-- whatever it throws: the rules of the method aren't asked
pub a_checked_throw_before_commit_rolls_back_too :
    Says (record refused_commit { syncs = record (sync last_of_all) { before_commit = Stmt.Throw EXCEPTION ∷ [] } ∷ [] }) 0 (
    m_begins ++ register s
    ∷ end_commit ∷ before_commit s ∷ throw EXCEPTION
    ∷ m_is_refused_with s EXCEPTION)
unfolding Says
a_checked_throw_before_commit_rolls_back_too = refl

-- an empty scope has nothing to commit
pub a_throw_before_commit_in_an_empty_scope : Says (record refused_commit { methods = method supports (Stmt.Register (sync_no 0) ∷ []) ∷ [] }) 0 (
    top 0 ∷ call m Propagation.Supports ∷ opened_sync Kind.Empty ∷ register s
    ∷ end_commit ∷ before_commit s ∷ throw RUNTIME_EXCEPTION
    ∷ before_completion s ∷ after_completion_rolled_back s ∷ leave_throws m RUNTIME_EXCEPTION ∷ [])
unfolding Says
a_throw_before_commit_in_an_empty_scope = refl

-- a callback writes, and is refused a row
abbrev written_before_commit : Scenario
written_before_commit = registering (record (sync last_of_all) { before_commit = Stmt.Write a (pos 1) ∷ [] })

pub a_callback_before_commit_writes_in_the_transaction : Says written_before_commit 0 (
    m_begins ++ register s
    ∷ end_commit ∷ before_commit s ∷ write 1 a (pos 1) Answer.Done
    ∷ before_completion s ∷ commit 1 1 ∷ after_commit s ∷ after_completion_committed s ∷ give 1 ∷ leave m ∷ [])
unfolding Says
a_callback_before_commit_writes_in_the_transaction = refl

pub a_busy_row_before_commit_rolls_back : Says written_before_commit 0 (
    top 0 ∷ call m Propagation.Required ∷ take 1 ∷ begin 2 ∷ opened_sync Kind.Fresh ∷ register s
    ∷ end_commit ∷ before_commit s ∷ write 2 a (pos 1) (Answer.Busy 1) ∷ throw CANNOT_ACQUIRE_LOCK_EXCEPTION
    ∷ before_completion s ∷ rollback 2 ∷ after_completion_rolled_back s ∷ give 1 ∷ leave_throws m CANNOT_ACQUIRE_LOCK_EXCEPTION ∷ [])
unfolding Says
a_busy_row_before_commit_rolls_back = refl

-- ---- after_commit

abbrev failed_after_commit : Scenario
failed_after_commit = registering (record (sync last_of_all) { after_commit = Stmt.Throw RUNTIME_EXCEPTION ∷ [] })

abbrev m_fails_after_commit : List Line
m_fails_after_commit = end_commit ∷ before_commit s ∷ before_completion s ∷ commit 1 1
    ∷ after_commit s ∷ throw RUNTIME_EXCEPTION ∷ after_completion_committed s ∷ give 1 ∷ leave_throws m RUNTIME_EXCEPTION ∷ []

pub a_throw_after_commit_leaves_though_the_commit_stands : Says failed_after_commit 0 (
    m_begins ++ register s
    ∷ m_fails_after_commit)
unfolding Says
a_throw_after_commit_leaves_though_the_commit_stands = refl

-- two registrations of it, and the inner scope had suspended the outer one's transaction
abbrev failed_after_inner_commit : Scenario
failed_after_inner_commit = record failed_after_commit {
  methods = method required (Stmt.Call n (Some RUNTIME_EXCEPTION) ∷ [])
      ∷ method requires_new (Stmt.Register (sync_no 0) ∷ Stmt.Register (sync_no 0) ∷ [])
      ∷ [];
}

pub a_throw_after_commit_ends_the_round_alone : Says failed_after_inner_commit 0 (
    m_begins ++ n_begins_apart ++ register s ∷ register s
    ∷ end_commit ∷ before_commit s ∷ before_commit s ∷ before_completion s ∷ before_completion s ∷ commit 2 1
    ∷ after_commit s ∷ throw RUNTIME_EXCEPTION ∷ after_completion_committed s ∷ after_completion_committed s ∷ give 2 ∷ bind 1
    ∷ leave_throws n RUNTIME_EXCEPTION ∷ catch RUNTIME_EXCEPTION
    ∷ end_commit ∷ commit 1 2 ∷ give 1 ∷ leave m ∷ [])
unfolding Says
a_throw_after_commit_ends_the_round_alone = refl

-- the body throws what the rules keep, and so does a callback
pub a_throw_after_commit_takes_the_place_of_a_kept_exception :
    Says (record failed_after_commit { methods = method required (Stmt.Register (sync_no 0) ∷ Stmt.Throw EXCEPTION ∷ []) ∷ [] }) 0 (
    m_begins ++ register s ∷ throw EXCEPTION ∷ rules_keep_by None
    ∷ m_fails_after_commit)
unfolding Says
a_throw_after_commit_takes_the_place_of_a_kept_exception = refl

pub a_throw_after_commit_in_an_empty_scope :
    Says (record failed_after_commit { methods = method supports (Stmt.Register (sync_no 0) ∷ []) ∷ [] }) 0 (
    top 0 ∷ call m Propagation.Supports ∷ opened_sync Kind.Empty ∷ register s
    ∷ end_commit ∷ before_commit s ∷ before_completion s
    ∷ after_commit s ∷ throw RUNTIME_EXCEPTION ∷ after_completion_committed s ∷ leave_throws m RUNTIME_EXCEPTION ∷ [])
unfolding Says
a_throw_after_commit_in_an_empty_scope = refl

-- ---- the completion rounds

-- each of its completion callbacks throws
abbrev failed_in_completion : Scenario
failed_in_completion = record (plainly (method required (Stmt.Register (sync_no 0) ∷ Stmt.Register (sync_no 0) ∷ []) ∷ [])) {
  syncs = record (sync last_of_all) {
    before_completion = Stmt.Throw RUNTIME_EXCEPTION ∷ Stmt.Throw ERROR ∷ [];
    after_completion = Stmt.Throw ERROR ∷ [];
  } ∷ [];
}

pub what_completion_callbacks_throw_is_swallowed_one_by_one : Says failed_in_completion 0 (
    m_begins ++ register s ∷ register s
    ∷ end_commit ∷ before_commit s ∷ before_commit s
    ∷ before_completion s ∷ throw RUNTIME_EXCEPTION ∷ swallow RUNTIME_EXCEPTION
    ∷ before_completion s ∷ throw RUNTIME_EXCEPTION ∷ swallow RUNTIME_EXCEPTION
    ∷ commit 1 1 ∷ after_commit s ∷ after_commit s
    ∷ after_completion_committed s ∷ throw ERROR ∷ swallow ERROR
    ∷ after_completion_committed s ∷ throw ERROR ∷ swallow ERROR
    ∷ give 1 ∷ leave m ∷ [])
unfolding Says
what_completion_callbacks_throw_is_swallowed_one_by_one = refl

-- a joined scope marked the transaction that has a registration
abbrev unexpected_with_a_registration : Scenario
unexpected_with_a_registration = record (plainly (
    method required (Stmt.Register (sync_no 0) ∷ Stmt.Call n (Some RUNTIME_EXCEPTION) ∷ [])
    ∷ failing
    ∷ [])) { syncs = sync last_of_all ∷ [] }

pub the_unexpected_rollback_is_thrown_between_after_completion_and_the_give : Says unexpected_with_a_registration 0 (
    m_begins ++ register s
    ∷ n_joins_and_marks ++ catch RUNTIME_EXCEPTION
    ∷ end_unexpected ∷ before_completion s ∷ rollback 1 ∷ after_completion_rolled_back s
    ∷ throw UNEXPECTED_ROLLBACK_EXCEPTION ∷ give 1 ∷ leave_throws m UNEXPECTED_ROLLBACK_EXCEPTION ∷ [])
unfolding Says
the_unexpected_rollback_is_thrown_between_after_completion_and_the_give = refl

-- ---- callbacks that call

-- each of these three callbacks calls a method with a transaction of its own
abbrev calls_in_each_round : Scenario
calls_in_each_round = record (plainly (
    method required (Stmt.Register (sync_no 0) ∷ [])
    ∷ method requires_new []
    ∷ [])) {
      syncs = record (sync last_of_all) {
        before_completion = Stmt.Call n None ∷ [];
        after_commit = Stmt.Call n None ∷ [];
        after_completion = Stmt.Call n None ∷ [];
      } ∷ [];
    }

pub in_after_completion_alone_no_synchronisation_is_active : Says calls_in_each_round 0 (
    m_begins ++ register s
    ∷ end_commit ∷ before_commit s
    ∷ before_completion s
    ∷ call n Propagation.RequiresNew ∷ suspend s ∷ unbind 1 ∷ take 2 ∷ begin 2 ∷ opened_sync Kind.Fresh
    ∷ end_commit ∷ commit 2 1 ∷ give 2 ∷ bind 1 ∷ resume s ∷ leave n
    ∷ commit 1 2
    ∷ after_commit s
    ∷ call n Propagation.RequiresNew ∷ suspend s ∷ unbind 1 ∷ take 2 ∷ begin 3 ∷ opened_sync Kind.Fresh
    ∷ end_commit ∷ commit 3 3 ∷ give 2 ∷ bind 1 ∷ resume s ∷ leave n
    ∷ after_completion_committed s
    ∷ call n Propagation.RequiresNew ∷ unbind 1 ∷ take 2 ∷ begin 4 ∷ opened_sync Kind.Fresh
    ∷ end_commit ∷ commit 4 4 ∷ give 2 ∷ bind 1 ∷ leave n
    ∷ give 1 ∷ leave m ∷ [])
unfolding Says
in_after_completion_alone_no_synchronisation_is_active = refl

-- in an empty scope nothing is bound
pub after_completion_of_an_empty_scope_meets_a_bare_context :
    Says (record calls_in_each_round {
      methods = method supports (Stmt.Register (sync_no 0) ∷ []) ∷ method requires_new [] ∷ [];
      syncs = record (sync last_of_all) { after_completion = Stmt.Call n None ∷ [] } ∷ [];
    }) 0 (
    top 0 ∷ call m Propagation.Supports ∷ opened_sync Kind.Empty ∷ register s
    ∷ end_commit ∷ before_commit s ∷ before_completion s ∷ after_commit s
    ∷ after_completion_committed s
    ∷ call n Propagation.RequiresNew ∷ take 1 ∷ begin 1 ∷ opened_sync Kind.Fresh ∷ end_commit ∷ commit 1 1 ∷ give 1 ∷ leave n
    ∷ leave m ∷ [])
unfolding Says
after_completion_of_an_empty_scope_meets_a_bare_context = refl

-- the callback itself catches what the method throws
pub a_callback_catches_what_its_call_throws :
    Says (record calls_in_each_round {
      methods = method required (Stmt.Register (sync_no 0) ∷ []) ∷ method requires_new (Stmt.Throw RUNTIME_EXCEPTION ∷ []) ∷ [];
      syncs = record (sync last_of_all) { after_commit = Stmt.Call n (Some RUNTIME_EXCEPTION) ∷ [] } ∷ [];
    }) 0 (
    m_begins ++ register s
    ∷ end_commit ∷ before_commit s ∷ before_completion s ∷ commit 1 1
    ∷ after_commit s
    ∷ call n Propagation.RequiresNew ∷ suspend s ∷ unbind 1 ∷ take 2 ∷ begin 2 ∷ opened_sync Kind.Fresh ∷ throw RUNTIME_EXCEPTION ∷ rules_rollback_by None
    ∷ end_rollback ∷ rollback 2 ∷ give 2 ∷ bind 1 ∷ resume s ∷ leave_throws n RUNTIME_EXCEPTION ∷ catch RUNTIME_EXCEPTION
    ∷ after_completion_committed s ∷ give 1 ∷ leave m ∷ [])
unfolding Says
a_callback_catches_what_its_call_throws = refl
