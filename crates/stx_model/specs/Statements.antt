-- The statements that call no method: throws, statements on rows in a transaction and outside one, marks, registrations.
-- (Spring: DataSourceUtils, TransactionInterceptor.currentTransactionStatus, TransactionSynchronizationManager.)
use Rattle.std.specs.Prelude.{ℕ, ◌-◌, ◌^◌, Bool, true, false, ◌&&◌, ℤ, pos, negsuc, ◌+ℤ◌, int_lt, int_le, List, Option, Some, None, slice_get}
use Rattle.stx_scenario.specs.declared.numbers.ClassNo.{ClassNo}
use Rattle.stx_scenario.specs.declared.numbers.RowNo.{RowNo}
use Rattle.stx_scenario.specs.declared.numbers.SyncNo.{SyncNo}
use Rattle.stx_scenario.specs.declared.numbers.ListenerNo.{ListenerNo}
use Rattle.stx_scenario.specs.declared.classes.TheConstants.{ILLEGAL_STATE_EXCEPTION, ARITHMETIC_EXCEPTION, CANNOT_ACQUIRE_LOCK_EXCEPTION, CANNOT_GET_JDBC_CONNECTION_EXCEPTION, NO_TRANSACTION_EXCEPTION}
use Rattle.stx_scenario.specs.declared.scenario.Scenario.{Scenario}
use Rattle.stx_scenario.specs.declared.scenario.Listener.{Listener}
use Rattle.stx_scenario.specs.declared.scenario.Stmt.{Stmt}
use Rattle.stx_scenario.specs.declared.scenario.SyncDecl.{SyncDecl}
use Rattle.stx_base.specs.declared.call.Want.{Want}
use Rattle.stx_base.specs.declared.history.Access.{Access}
use Rattle.stx_base.specs.declared.history.Answer.{Answer}
use Rattle.stx_base.specs.declared.line.Line.{Line}
use Rattle.stx_base.specs.declared.line.Label.{Label}
use Rattle.stx_base.specs.Classes.{is_below}
use Rattle.stx_model.specs.Contexts.{Live, Registration, with_registration}
use Rattle.stx_model.specs.Meanings.{Over, Breaks, Meaning, say, with_context, with_local, ask, on_take, on_access}

-- ---- throwing and catching

-- an exception arises
abbrev pub throws : ClassNo → Meaning
throws x st = Over (Some x) (say (Line.Throw x) st)

-- the end of a statement that threw this or nothing
abbrev pub concludes : Option ClassNo → Meaning
concludes None st = Over None st
concludes (Some x) st = throws x st

-- a call's own `catch` catches the class that it names and those below it
abbrev pub catches : Scenario → Option ClassNo → ClassNo → Bool
catches S None x = false
catches S (Some caught) x = is_below S.classes x.0 caught.0

abbrev pub caught : Scenario → Option ClassNo → Option ClassNo → Meaning
caught S catch None st = Over None st
caught S catch (Some x) st = elim (catches S catch x) [ true ↦ Over None (say (Line.Catch x) st) | false ↦ Over (Some x) st ]

-- ---- statements on rows

-- where a statement's accesses are made, and how the statement ends
pub record RowAccess : Type 0 where
  pub want : Access → Want
  pub ends : Option ClassNo → Meaning

-- a busy row is refused at once (CannotAcquireLockException)
abbrev pub unless_busy : RowAccess → (Answer → Meaning) → Answer → Meaning
unless_busy at next (Answer.Busy t) st = at.ends (Some CANNOT_ACQUIRE_LOCK_EXCEPTION) st
unless_busy at next answer st = next answer st

-- one access, and then what the statement does with its answer
abbrev pub access_row : RowAccess → Access → (Answer → Meaning) → Meaning
access_row at a next st = ask (at.want a) (on_access (unless_busy at next)) st

-- a read, a write and an erase do nothing more
abbrev pub nothing_more : RowAccess → Answer → Meaning
nothing_more at answer st = at.ends None st

-- the value that a read found; an absent row counts as 0
abbrev pub value_of : Answer → ℤ
value_of (Answer.Found v) = v
value_of _ = pos 0

-- a value is a signed number of 64 bits
abbrev pub is_value : ℤ → Bool
is_value v = int_le (negsuc (2 ^ 63 - 1)) v && int_lt v (pos (2 ^ 63))

-- a need throws where the value found is less
abbrev pub needed : RowAccess → ℤ → Answer → Meaning
needed at n answer st = elim (int_lt (value_of answer) n) [ true ↦ at.ends (Some ILLEGAL_STATE_EXCEPTION) st | false ↦ at.ends None st ]

-- an add writes the sum, and throws without the write where the sum is no value
abbrev pub added : RowAccess → RowNo → ℤ → Answer → Meaning
added at k n answer st =
    elim (is_value (value_of answer +ℤ n)) [
      | true ↦ access_row at (Access.Write k (value_of answer +ℤ n)) (nothing_more at) st
      | false ↦ at.ends (Some ARITHMETIC_EXCEPTION) st
    ]

-- a statement on a row: one access, or a read and then a write
abbrev pub on_row : RowAccess → Stmt → Meaning
on_row at (Stmt.Read k) st = access_row at (Access.Read k) (nothing_more at) st
on_row at (Stmt.Write k v) st = access_row at (Access.Write k v) (nothing_more at) st
on_row at (Stmt.Erase k) st = access_row at (Access.Erase k) (nothing_more at) st
on_row at (Stmt.Need k n) st = access_row at (Access.Read k) (needed at n) st
on_row at (Stmt.Add k n) st = access_row at (Access.Read k) (added at k n) st
on_row at _ st = Breaks st

-- in a live transaction the accesses are its own, and the statement ends at once
abbrev pub in_transaction : ℕ → RowAccess
in_transaction t = record { want = Want.Access t; ends = concludes }

-- outside a transaction each access is an own statement that commits at once, and the connection is given back before
-- the exception arises (DataSourceUtils.getConnection, releaseConnection)
abbrev pub on_connection : ℕ → RowAccess
on_connection c = record { want = Want.Auto; ends = λ x. ask (Want.Give c) (λ _. concludes x) }

-- a pool that is empty refuses it (CannotGetJdbcConnectionException)
abbrev pub connected : Stmt → Option ℕ → Meaning
connected s (Some c) st = on_row (on_connection c) s st
connected s None st = throws CANNOT_GET_JDBC_CONNECTION_EXCEPTION st

abbrev pub row_statement : Option Live → Stmt → Meaning
row_statement (Some live) s st = on_row (in_transaction live.transaction) s st
row_statement None s st = ask Want.Take (on_take (connected s)) st

-- ---- marks and registrations

-- marks the nearest scope that is open (TransactionInterceptor.currentTransactionStatus, setRollbackOnly)
abbrev pub marks : Option Bool → Meaning
marks (Some local) st = Over None (say Line.Mark (with_local (Some true) st))
marks None st = throws NO_TRANSACTION_EXCEPTION st

abbrev pub order_of : Option SyncDecl → ℤ
order_of (Some sync) = sync.order
order_of None = pos 0

-- a registration of a label, where synchronisation is active (TransactionSynchronizationManager.registerSynchronization)
abbrev pub registers : Registration → Option (List Registration) → Meaning
registers r (Some list) st = Over None (say (Line.Register r.label) (with_context (with_registration r list st.context) st))
registers r None st = throws ILLEGAL_STATE_EXCEPTION st

abbrev pub register_sync : Scenario → SyncNo → Meaning
register_sync S s st = registers (record { label = Label.Sync s; order = order_of (slice_get S.syncs s.0) }) st.context.syncs st

abbrev pub order_of_listener : Option Listener → ℤ
order_of_listener (Some listener) = listener.order
order_of_listener None = pos 0

abbrev pub register_listener : Scenario → ListenerNo → Meaning
register_listener S l st =
    registers (record { label = Label.Listener l; order = order_of_listener (slice_get S.listeners l.0) }) st.context.syncs st
