-- Worked rows: scopes that join, marks, and exceptions that are caught.
use Rattle.std.proofs.Common.{pos, [], ◌∷◌, Some, None, refl}
use Rattle.std.specs.Prelude.{◌++◌}
use Rattle.stx_scenario.specs.declared.classes.TheConstants.{EXCEPTION, ERROR, RUNTIME_EXCEPTION, ILLEGAL_STATE_EXCEPTION, ILLEGAL_TRANSACTION_STATE_EXCEPTION, NO_TRANSACTION_EXCEPTION}
use Rattle.stx_scenario.specs.declared.scenario.Scenario.{Scenario}
use Rattle.stx_scenario.specs.declared.scenario.Propagation.{Propagation}
use Rattle.stx_scenario.specs.declared.scenario.Stmt.{Stmt}
use Rattle.stx_base.specs.declared.history.Answer.{Answer}
use Rattle.stx_base.specs.declared.manager.Kind.{Kind}
use Rattle.stx_model.proofs.Small.{m, n, p, a, required, supports, mandatory, requires_new, method, failing, plainly, calling, marked_and_then, Says}
use Rattle.stx_model.proofs.Traces.{top, call, call_plain, leave, leave_throws, throw, catch, rules_rollback_by, rules_keep_by, opened, end_commit, end_rollback, end_unexpected, mark, mark_global, give, bind, write, commit}
use Rattle.stx_model.proofs.Passages.{m_begins, m_commits, m_rolls_back, m_rolls_back_by, m_ends_unexpectedly, n_joins_and_marks, n_begins_apart, n_rolls_back_apart, throws_out}

-- ---- a joined scope fails, and its caller catches the exception

pub a_joined_failure_is_unexpected :
    Says (calling (Some RUNTIME_EXCEPTION) (method required (Stmt.Write a (pos 1) ∷ Stmt.Throw RUNTIME_EXCEPTION ∷ []))) 0 (
    m_begins ++ call n Propagation.Required ∷ opened Kind.Join ∷ write 1 a (pos 1) Answer.Done ∷ throw RUNTIME_EXCEPTION ∷ rules_rollback_by None
    ∷ end_rollback ∷ mark_global ∷ leave_throws n RUNTIME_EXCEPTION ∷ catch RUNTIME_EXCEPTION
    ∷ m_ends_unexpectedly)
unfolding Says
a_joined_failure_is_unexpected = refl

-- ---- what else joins

-- supports and mandatory join a live transaction, and commit nothing by themselves
abbrev joining : Scenario
joining = plainly (
    method required (Stmt.Call n None ∷ Stmt.Call p None ∷ [])
    ∷ method supports (Stmt.Write a (pos 1) ∷ [])
    ∷ method mandatory []
    ∷ [])

pub supports_and_mandatory_join : Says joining 0 (
    m_begins ++ call n Propagation.Supports ∷ opened Kind.Join ∷ write 1 a (pos 1) Answer.Done ∷ end_commit ∷ leave n
    ∷ call p Propagation.Mandatory ∷ opened Kind.Join ∷ end_commit ∷ leave p
    ∷ m_commits)
unfolding Says
supports_and_mandatory_join = refl

pub mandatory_is_refused_without_a_transaction : Says (plainly (method mandatory [] ∷ [])) 0 (
    top 0 ∷ call m Propagation.Mandatory ∷ throws_out ILLEGAL_TRANSACTION_STATE_EXCEPTION m)
unfolding Says
mandatory_is_refused_without_a_transaction = refl

-- ---- scopes under the global mark

-- another scope joins the transaction after it was marked
pub a_joined_scope_under_the_mark_marks_again_and_throws_nothing : Says (marked_and_then None (method required [])) 0 (
    m_begins ++ n_joins_and_marks ++ catch RUNTIME_EXCEPTION
    ∷ call p Propagation.Required ∷ opened Kind.Join ∷ end_unexpected ∷ mark_global ∷ leave p
    ∷ m_ends_unexpectedly)
unfolding Says
a_joined_scope_under_the_mark_marks_again_and_throws_nothing = refl

-- the outer body throws, after a joined scope marked its transaction; the rules keep that class
abbrev kept_under_the_mark : Scenario
kept_under_the_mark = plainly (
    method required (Stmt.Call n (Some RUNTIME_EXCEPTION) ∷ Stmt.Throw EXCEPTION ∷ [])
    ∷ failing
    ∷ [])

pub the_unexpected_rollback_takes_the_place_of_a_kept_exception : Says kept_under_the_mark 0 (
    m_begins ++ n_joins_and_marks ++ catch RUNTIME_EXCEPTION
    ∷ throw EXCEPTION ∷ rules_keep_by None
    ∷ m_ends_unexpectedly)
unfolding Says
the_unexpected_rollback_takes_the_place_of_a_kept_exception = refl

-- the outer body throws what the rules roll back, after a joined scope marked its transaction
pub a_failure_that_nobody_catches_is_the_one_that_leaves : Says (calling None failing) 0 (
    m_begins ++ n_joins_and_marks ++ m_rolls_back_by RUNTIME_EXCEPTION)
unfolding Says
a_failure_that_nobody_catches_is_the_one_that_leaves = refl

-- ---- marks

abbrev marked : Scenario
marked = plainly (method required (Stmt.Write a (pos 1) ∷ Stmt.Mark ∷ []) ∷ [])

pub a_marked_scope_rolls_back_and_throws_nothing : Says marked 0 (
    m_begins ++ write 1 a (pos 1) Answer.Done ∷ mark
    ∷ m_rolls_back)
unfolding Says
a_marked_scope_rolls_back_and_throws_nothing = refl

pub a_mark_without_a_scope_is_refused : Says (plainly (method None (Stmt.Mark ∷ []) ∷ [])) 0 (
    top 0 ∷ call_plain m ∷ throws_out NO_TRANSACTION_EXCEPTION m)
unfolding Says
a_mark_without_a_scope_is_refused = refl

-- the inner call marks its own scope alone, and after it a plain method marks its caller's
abbrev marks_of_two_scopes : Scenario
marks_of_two_scopes = plainly (
    method required (Stmt.Call n None ∷ Stmt.Call p None ∷ [])
    ∷ method requires_new (Stmt.Mark ∷ [])
    ∷ method None (Stmt.Mark ∷ [])
    ∷ [])

pub a_mark_is_that_of_the_nearest_scope : Says marks_of_two_scopes 0 (
    m_begins ++ n_begins_apart ++ mark ∷ n_rolls_back_apart
    ++ call_plain p ∷ mark ∷ leave p
    ∷ m_rolls_back)
unfolding Says
a_mark_is_that_of_the_nearest_scope = refl

-- the same without the second mark
pub a_mark_ends_with_its_scope : Says (calling None (method requires_new (Stmt.Mark ∷ []))) 0 (
    m_begins ++ n_begins_apart ++ mark ∷ n_rolls_back_apart
    ++ m_commits)
unfolding Says
a_mark_ends_with_its_scope = refl

-- a mark comes before a call of another scope, and is still there after it
pub a_mark_stays_over_an_inner_scope : Says (plainly (method required (Stmt.Mark ∷ Stmt.Call n None ∷ []) ∷ method requires_new [] ∷ [])) 0 (
    m_begins ++ mark
    ∷ n_begins_apart ++ end_commit ∷ commit 2 1 ∷ give 2 ∷ bind 1 ∷ leave n
    ∷ m_rolls_back)
unfolding Says
a_mark_stays_over_an_inner_scope = refl

-- a joined scope marks itself, and its caller meets the global mark
pub a_marked_joined_scope_marks_the_transaction : Says (calling None (method required (Stmt.Mark ∷ []))) 0 (
    m_begins ++ call n Propagation.Required ∷ opened Kind.Join ∷ mark ∷ end_rollback ∷ mark_global ∷ leave n
    ∷ m_ends_unexpectedly)
unfolding Says
a_marked_joined_scope_marks_the_transaction = refl

-- ---- catches

-- a class above the thrown one catches it, and one that is no such class doesn't
abbrev caught_above : Scenario
caught_above = plainly (
    method None (Stmt.Call n (Some RUNTIME_EXCEPTION) ∷ Stmt.Call n (Some ERROR) ∷ Stmt.Call n (Some EXCEPTION) ∷ [])
    ∷ method None (Stmt.Throw ILLEGAL_STATE_EXCEPTION ∷ [])
    ∷ [])

pub a_catch_takes_its_class_and_those_below : Says caught_above 0 (
    top 0 ∷ call_plain m
    ∷ call_plain n ∷ throws_out ILLEGAL_STATE_EXCEPTION n ++ catch ILLEGAL_STATE_EXCEPTION
    ∷ call_plain n ∷ throws_out ILLEGAL_STATE_EXCEPTION n
    ++ leave_throws m ILLEGAL_STATE_EXCEPTION ∷ [])
unfolding Says
a_catch_takes_its_class_and_those_below = refl
