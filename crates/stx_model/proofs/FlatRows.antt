-- Worked rows: methods that call no other, rules, and clients side by side.
use Rattle.std.proofs.Common.{ℕ, pos, negsuc, ◌-◌, ◌^◌, true, false, List, [], ◌∷◌, Option, Some, None, refl}
use Rattle.std.specs.Prelude.{codes, ◌++◌}
use Rattle.stx_scenario.specs.declared.classes.TheConstants.{EXCEPTION, RUNTIME_EXCEPTION, ILLEGAL_STATE_EXCEPTION, ARITHMETIC_EXCEPTION, CANNOT_CREATE_TRANSACTION_EXCEPTION, CANNOT_ACQUIRE_LOCK_EXCEPTION}
use Rattle.stx_scenario.specs.declared.numbers.ClassNo.{ClassNo}
use Rattle.stx_scenario.specs.declared.scenario.Scenario.{Scenario}
use Rattle.stx_scenario.specs.declared.scenario.Propagation.{Propagation}
use Rattle.stx_scenario.specs.declared.scenario.SyncMode.{SyncMode}
use Rattle.stx_scenario.specs.declared.scenario.Rule.{Rule}
use Rattle.stx_scenario.specs.declared.scenario.RuleBy.{RuleBy}
use Rattle.stx_scenario.specs.declared.scenario.Stmt.{Stmt}
use Rattle.stx_scenario.specs.BuiltIn.{built_in, class_below}
use Rattle.stx_base.specs.declared.history.Answer.{Answer}
use Rattle.stx_base.specs.declared.line.Line.{Line}
use Rattle.stx_base.specs.declared.manager.Kind.{Kind}
use Rattle.stx_model.proofs.Small.{m, n, a, required, settings, method, named, failing, plainly, Says}
use Rattle.stx_model.proofs.Traces.{top, call, call_plain, leave, leave_throws, throw, rules_rollback_by, rules_keep_by, opened_sync, end_commit, end_rollback, take, take_empty, give, begin, read, write, erase, commit, rollback}
use Rattle.stx_model.proofs.Passages.{m_begins, m_commits, m_commits_and_throws, m_rolls_back_by, throws_out}

-- ---- one method

abbrev pub writes_and_reads : Scenario
writes_and_reads = plainly (method required (Stmt.Write a (pos 5) ∷ Stmt.Read a ∷ []) ∷ [])

abbrev pub written_and_read : List Line
written_and_read = m_begins
    ++ write 1 a (pos 5) Answer.Done ∷ read 1 a (Answer.Found (pos 5))
    ∷ m_commits

pub a_transaction_writes_reads_and_commits : Says writes_and_reads 0 written_and_read
unfolding Says
a_transaction_writes_reads_and_commits = refl

abbrev does_nothing : Scenario
does_nothing = plainly (method required [] ∷ [])

pub an_empty_body_commits : Says does_nothing 0 (m_begins ++ m_commits)
unfolding Says
an_empty_body_commits = refl

abbrev m_finds_none : List Line
m_finds_none = top 0 ∷ call m Propagation.Required ∷ take_empty ∷ throws_out CANNOT_CREATE_TRANSACTION_EXCEPTION m

pub a_call_without_a_connection_is_refused : Says does_nothing 0 m_finds_none
unfolding Says
a_call_without_a_connection_is_refused = refl

-- a client's second call runs after the first has thrown
pub what_a_top_level_call_throws_goes_no_further : Says (record (plainly (failing ∷ method None [] ∷ [])) { clients = (m ∷ n ∷ []) ∷ [] }) 0 (
    m_begins ++ throw RUNTIME_EXCEPTION ∷ m_rolls_back_by RUNTIME_EXCEPTION
    ++ top 1 ∷ call_plain n ∷ leave n ∷ [])
unfolding Says
what_a_top_level_call_throws_goes_no_further = refl

-- ---- what rolls back

pub a_runtime_exception_rolls_back : Says (plainly (method required (Stmt.Write a (pos 5) ∷ Stmt.Throw RUNTIME_EXCEPTION ∷ []) ∷ [])) 0 (
    m_begins ++ write 1 a (pos 5) Answer.Done ∷ throw RUNTIME_EXCEPTION ∷ m_rolls_back_by RUNTIME_EXCEPTION)
unfolding Says
a_runtime_exception_rolls_back = refl

pub a_checked_exception_commits : Says (plainly (method required (Stmt.Erase a ∷ Stmt.Throw EXCEPTION ∷ []) ∷ [])) 0 (
    m_begins ++ erase 1 a Answer.Done ∷ throw EXCEPTION ∷ rules_keep_by None
    ∷ m_commits_and_throws EXCEPTION)
unfolding Says
a_checked_exception_commits = refl

-- two classes of the file, the second below the first, which is below Exception
abbrev soft : ClassNo
soft = record { 0 = 17 }

abbrev softer : ClassNo
softer = record { 0 = 18 }

abbrev with_rules : List Rule → List Stmt → Scenario
with_rules rules body = record (plainly (method (Some (record { propagation = Propagation.Required; read_only = false; rules = rules })) body ∷ [])) {
  classes = built_in ++ class_below 1 (codes "app.Soft") ∷ class_below 17 (codes "app.Softer") ∷ [];
}

pub a_class_of_the_file_below_exception_commits : Says (with_rules [] (Stmt.Write a (pos 1) ∷ Stmt.Throw soft ∷ [])) 0 (
    m_begins ++ write 1 a (pos 1) Answer.Done ∷ throw soft ∷ rules_keep_by None
    ∷ m_commits_and_throws soft)
unfolding Says
a_class_of_the_file_below_exception_commits = refl

-- what a method says that throws the lower of the two classes
abbrev kept : Option ℕ → List Line
kept winner = m_begins ++ throw softer ∷ rules_keep_by winner
    ∷ m_commits_and_throws softer

abbrev rolled_back : Option ℕ → List Line
rolled_back winner = m_begins ++ throw softer ∷ rules_rollback_by winner
    ∷ end_rollback ∷ rollback 1 ∷ give 1 ∷ leave_throws m softer ∷ []

abbrev rolls_back : RuleBy → Rule
rolls_back by = record { rollback = true; by = by }

abbrev keeps : RuleBy → Rule
keeps by = record { rollback = false; by = by }

abbrev thrown_under : List Rule → Scenario
thrown_under rules = with_rules rules (Stmt.Throw softer ∷ [])

pub the_nearest_rule_wins : Says (thrown_under (rolls_back (RuleBy.Class EXCEPTION) ∷ keeps (RuleBy.Class soft) ∷ [])) 0 (kept (Some 1))
unfolding Says
the_nearest_rule_wins = refl

pub whatever_its_place : Says (thrown_under (keeps (RuleBy.Class soft) ∷ rolls_back (RuleBy.Class EXCEPTION) ∷ [])) 0 (kept (Some 0))
unfolding Says
whatever_its_place = refl

-- the pattern and the class are equally near
abbrev keeps_named_soft : Rule
keeps_named_soft = keeps (RuleBy.Pattern (codes "Soft"))

abbrev rolls_softer_back : Rule
rolls_softer_back = rolls_back (RuleBy.Class softer)

pub the_first_of_equally_near_rules_wins : Says (thrown_under (keeps_named_soft ∷ rolls_softer_back ∷ [])) 0 (kept (Some 0))
unfolding Says
the_first_of_equally_near_rules_wins = refl

pub and_so_with_the_rules_exchanged : Says (thrown_under (rolls_softer_back ∷ keeps_named_soft ∷ [])) 0 (rolled_back (Some 0))
unfolding Says
and_so_with_the_rules_exchanged = refl

-- ---- adds and needs

abbrev adds_one : Scenario
adds_one = plainly (method required (Stmt.Add a (pos 1) ∷ []) ∷ [])

pub an_add_reads_and_writes_the_sum : Says adds_one 0 (
    m_begins ++ read 1 a (Answer.Found (pos 6)) ∷ write 1 a (pos 7) Answer.Done
    ∷ m_commits)
unfolding Says
an_add_reads_and_writes_the_sum = refl

pub an_add_that_overflows_throws_and_writes_nothing : Says adds_one 0 (
    m_begins ++ read 1 a (Answer.Found (pos (2 ^ 63 - 1))) ∷ throw ARITHMETIC_EXCEPTION ∷ m_rolls_back_by ARITHMETIC_EXCEPTION)
unfolding Says
an_add_that_overflows_throws_and_writes_nothing = refl

-- the least value of all, and one less
pub an_add_overflows_below_too : Says (plainly (method required (Stmt.Add a (negsuc 0) ∷ Stmt.Add a (negsuc 0) ∷ []) ∷ [])) 0 (
    m_begins ++ read 1 a (Answer.Found (negsuc (2 ^ 63 - 2))) ∷ write 1 a (negsuc (2 ^ 63 - 1)) Answer.Done
    ∷ read 1 a (Answer.Found (negsuc (2 ^ 63 - 1))) ∷ throw ARITHMETIC_EXCEPTION ∷ m_rolls_back_by ARITHMETIC_EXCEPTION)
unfolding Says
an_add_overflows_below_too = refl

abbrev needs_three : Scenario
needs_three = plainly (method required (Stmt.Need a (pos 3) ∷ []) ∷ [])

pub a_need_of_just_so_much_is_met : Says needs_three 0 (
    m_begins ++ read 1 a (Answer.Found (pos 3))
    ∷ m_commits)
unfolding Says
a_need_of_just_so_much_is_met = refl

pub a_need_of_more_throws : Says needs_three 0 (
    m_begins ++ read 1 a (Answer.Found (pos 2))
    ∷ throw ILLEGAL_STATE_EXCEPTION ∷ m_rolls_back_by ILLEGAL_STATE_EXCEPTION)
unfolding Says
a_need_of_more_throws = refl

-- ---- two clients

abbrev one_pool_for_two : Scenario
one_pool_for_two = record does_nothing { settings = settings 1 SyncMode.Always true; clients = (m ∷ []) ∷ (m ∷ []) ∷ [] }

pub the_first_client_has_the_connection : Says one_pool_for_two 0 (m_begins ++ m_commits)
unfolding Says
the_first_client_has_the_connection = refl

pub the_second_client_finds_none : Says one_pool_for_two 1 m_finds_none
unfolding Says
the_second_client_finds_none = refl

-- one client writes the row, and the other reads it
abbrev pub rivals : Scenario
rivals = record (plainly (method required (Stmt.Write a (pos 1) ∷ []) ∷ named (codes "n") (method required (Stmt.Read a ∷ [])) ∷ [])) {
  clients = (m ∷ []) ∷ (n ∷ []) ∷ [];
}

abbrev pub written : List Line
written = m_begins ++ write 1 a (pos 1) Answer.Done
    ∷ m_commits

-- the reader beside the writer
abbrev pub refused_beside : List Line
refused_beside = top 0 ∷ call n Propagation.Required ∷ take 2 ∷ begin 2 ∷ opened_sync Kind.Fresh
    ∷ read 2 a (Answer.Busy 1) ∷ throw CANNOT_ACQUIRE_LOCK_EXCEPTION ∷ rules_rollback_by None
    ∷ end_rollback ∷ rollback 2 ∷ give 2 ∷ leave_throws n CANNOT_ACQUIRE_LOCK_EXCEPTION ∷ []

-- the reader after the writer
abbrev pub read_after : List Line
read_after = top 0 ∷ call n Propagation.Required ∷ take 1 ∷ begin 2 ∷ opened_sync Kind.Fresh ∷ read 2 a (Answer.Found (pos 1))
    ∷ end_commit ∷ commit 2 2 ∷ give 1 ∷ leave n ∷ []

pub the_writer_commits : Says rivals 0 written
unfolding Says
the_writer_commits = refl

pub a_reader_beside_the_writer_is_refused : Says rivals 1 refused_beside
unfolding Says
a_reader_beside_the_writer_is_refused = refl

pub a_reader_after_the_writer_finds_the_value : Says rivals 1 read_after
unfolding Says
a_reader_after_the_writer_finds_the_value = refl
