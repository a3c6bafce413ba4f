-- Passages that the traces of many worked rows share: how the call of the client goes into its transaction and out of it,
-- and what calls inside it do again and again.
use Rattle.std.proofs.Common.{List, [], ◌∷◌, None}
use Rattle.stx_scenario.specs.declared.classes.TheConstants.{RUNTIME_EXCEPTION, UNEXPECTED_ROLLBACK_EXCEPTION}
use Rattle.stx_scenario.specs.declared.numbers.ClassNo.{ClassNo}
use Rattle.stx_scenario.specs.declared.numbers.MethodNo.{MethodNo}
use Rattle.stx_scenario.specs.declared.scenario.Propagation.{Propagation}
use Rattle.stx_base.specs.declared.line.Label.{Label}
use Rattle.stx_base.specs.declared.line.Line.{Line}
use Rattle.stx_base.specs.declared.manager.Kind.{Kind}
use Rattle.stx_model.proofs.Small.{m, n}
use Rattle.stx_model.proofs.Traces.{top, call, leave, leave_throws, throw, rules_rollback_by, opened_sync, opened, end_commit, end_rollback, end_unexpected, mark_global, take, give, unbind, bind, begin, savepoint, back_to, release, commit, rollback, before_commit, before_completion, after_commit, after_completion_committed, after_completion_rolled_back}

-- ---- the first top-level call, of m, which has transaction 1 over connection 1

abbrev pub m_begins : List Line
m_begins = top 0 ∷ call m Propagation.Required ∷ take 1 ∷ begin 1 ∷ opened_sync Kind.Fresh ∷ []

abbrev pub m_commits : List Line
m_commits = end_commit ∷ commit 1 1 ∷ give 1 ∷ leave m ∷ []

-- one registration is completed with it
abbrev pub m_commits_with : Label → List Line
m_commits_with label = end_commit
    ∷ before_commit label ∷ before_completion label ∷ commit 1 1 ∷ after_commit label ∷ after_completion_committed label ∷ give 1 ∷ leave m ∷ []

-- its body threw what the rules keep
abbrev pub m_commits_and_throws : ClassNo → List Line
m_commits_and_throws x = end_commit ∷ commit 1 1 ∷ give 1 ∷ leave_throws m x ∷ []

-- it was marked, and returns
abbrev pub m_rolls_back : List Line
m_rolls_back = end_rollback ∷ rollback 1 ∷ give 1 ∷ leave m ∷ []

-- what its body threw rolls back by default, and leaves
abbrev pub m_rolls_back_by : ClassNo → List Line
m_rolls_back_by x = rules_rollback_by None ∷ end_rollback ∷ rollback 1 ∷ give 1 ∷ leave_throws m x ∷ []

-- what was thrown before the commit rolls it back, and leaves; one registration is completed with it
abbrev pub m_is_refused_with : Label → ClassNo → List Line
m_is_refused_with label x = before_completion label ∷ rollback 1 ∷ after_completion_rolled_back label ∷ give 1 ∷ leave_throws m x ∷ []

-- a joined scope had marked its transaction
abbrev pub m_ends_unexpectedly : List Line
m_ends_unexpectedly = end_unexpected ∷ rollback 1 ∷ throw UNEXPECTED_ROLLBACK_EXCEPTION ∷ give 1 ∷ leave_throws m UNEXPECTED_ROLLBACK_EXCEPTION ∷ []

-- ---- calls inside it

-- n joins, throws RuntimeException, and marks the transaction
abbrev pub n_joins_and_marks : List Line
n_joins_and_marks = call n Propagation.Required ∷ opened Kind.Join ∷ throw RUNTIME_EXCEPTION ∷ rules_rollback_by None
    ∷ end_rollback ∷ mark_global ∷ leave_throws n RUNTIME_EXCEPTION ∷ []

-- n has transaction 2 over connection 2, apart from that of m
abbrev pub n_begins_apart : List Line
n_begins_apart = call n Propagation.RequiresNew ∷ unbind 1 ∷ take 2 ∷ begin 2 ∷ opened_sync Kind.Fresh ∷ []

-- its mark rolls it back, and that of m is bound again
abbrev pub n_rolls_back_apart : List Line
n_rolls_back_apart = end_rollback ∷ rollback 2 ∷ give 2 ∷ bind 1 ∷ leave n ∷ []

-- a nested call makes a savepoint
abbrev pub nests : MethodNo → List Line
nests method = call method Propagation.Nested ∷ savepoint 1 ∷ opened Kind.Point ∷ []

-- and returns to it by what its body threw
abbrev pub goes_back_by : ClassNo → MethodNo → List Line
goes_back_by x method = rules_rollback_by None ∷ end_rollback ∷ back_to 1 ∷ release 1 ∷ leave_throws method x ∷ []

-- a call ends with what is thrown in it, where no scope is open
abbrev pub throws_out : ClassNo → MethodNo → List Line
throws_out x method = throw x ∷ leave_throws method x ∷ []
