-- The lines of a trace by their words, so that a worked row reads like its text.
use Rattle.std.proofs.Common.{ℕ, ℤ, true, false, Option, Some, None}
use Rattle.stx_scenario.specs.declared.numbers.ClassNo.{ClassNo}
use Rattle.stx_scenario.specs.declared.numbers.RowNo.{RowNo}
use Rattle.stx_scenario.specs.declared.numbers.MethodNo.{MethodNo}
use Rattle.stx_scenario.specs.declared.scenario.Propagation.{Propagation}
use Rattle.stx_base.specs.declared.history.Access.{Access}
use Rattle.stx_base.specs.declared.history.Answer.{Answer}
use Rattle.stx_base.specs.declared.line.Label.{Label}
use Rattle.stx_base.specs.declared.line.Line.{Line}
pub use Rattle.stx_base.specs.declared.line.Line.TheVariants.{Top as top, Plain as call_plain, This as this, Throw as throw, Catch as catch, Swallow as swallow, Mark as mark, MarkGlobal as mark_global, Give as give, Unbind as unbind, Bind as bind, Suspend as suspend, Resume as resume, Begin as begin, Savepoint as savepoint, BackTo as back_to, Release as release, Commit as commit, Rollback as rollback, Register as register, Publish as publish, Listen as listen, Skip as skip, BeforeCommit as before_commit, BeforeCompletion as before_completion, AfterCommit as after_commit}
use Rattle.stx_base.specs.declared.manager.Kind.{Kind}
use Rattle.stx_base.specs.declared.manager.Ending.{Ending}

-- ---- calls

abbrev pub call : MethodNo → Propagation → Line
call m propagation = Line.Call m propagation false

abbrev pub call_read_only : MethodNo → Propagation → Line
call_read_only m propagation = Line.Call m propagation true

abbrev pub leave : MethodNo → Line
leave m = Line.Leave m None

abbrev pub leave_throws : MethodNo → ClassNo → Line
leave_throws m x = Line.Leave m (Some x)

-- what the rules decide, by the rule at this place, or by default
abbrev pub rules_rollback_by : Option ℕ → Line
rules_rollback_by winner = Line.Rules true winner

abbrev pub rules_keep_by : Option ℕ → Line
rules_keep_by winner = Line.Rules false winner

-- ---- scopes

-- without and with synchronisation of its own
abbrev pub opened : Kind → Line
opened kind = Line.Opened kind false

abbrev pub opened_sync : Kind → Line
opened_sync kind = Line.Opened kind true

abbrev pub end_commit : Line
end_commit = Line.End Ending.Commit

abbrev pub end_rollback : Line
end_rollback = Line.End Ending.Rollback

abbrev pub end_unexpected : Line
end_unexpected = Line.End Ending.Unexpected

-- ---- connections

abbrev pub take : ℕ → Line
take c = Line.Take (Some c)

abbrev pub take_empty : Line
take_empty = Line.Take None

-- ---- transactions

abbrev pub read : ℕ → RowNo → Answer → Line
read t k answer = Line.Row t (Access.Read k) answer

abbrev pub write : ℕ → RowNo → ℤ → Answer → Line
write t k value answer = Line.Row t (Access.Write k value) answer

abbrev pub erase : ℕ → RowNo → Answer → Line
erase t k answer = Line.Row t (Access.Erase k) answer

abbrev pub auto_read : RowNo → Answer → Line
auto_read k answer = Line.Auto (Access.Read k) answer

abbrev pub auto_write : RowNo → ℤ → Answer → Line
auto_write k value answer = Line.Auto (Access.Write k value) answer

-- ---- callbacks

abbrev pub after_completion_committed : Label → Line
after_completion_committed l = Line.AfterCompletion l true

abbrev pub after_completion_rolled_back : Label → Line
after_completion_rolled_back l = Line.AfterCompletion l false
