-- Worked rows: scripts that are not done yet, with the call at which they stop and what they carry there, and notes that
-- don't answer.
use Rattle.std.proofs.Common.{◌≡◌, ℕ, pos, ◌+◌, Bool, true, false, List, [], ◌∷◌, map, Option, Some, None, refl}
use Rattle.std.specs.Prelude.{◌++◌}
use Rattle.std.specs.List.{filter_map, range_with_len}
use Rattle.stx_scenario.specs.declared.classes.TheConstants.{RUNTIME_EXCEPTION}
use Rattle.stx_scenario.specs.declared.scenario.Scenario.{Scenario}
use Rattle.stx_scenario.specs.declared.scenario.Propagation.{Propagation}
use Rattle.stx_scenario.specs.declared.scenario.Stmt.{Stmt}
use Rattle.stx_base.specs.declared.history.Answer.{Answer}
use Rattle.stx_base.specs.declared.history.Access.{Access}
use Rattle.stx_base.specs.declared.history.PoolNote.{PoolNote}
use Rattle.stx_base.specs.declared.history.StoreNote.{StoreNote}
use Rattle.stx_base.specs.declared.call.Want.{Want}
use Rattle.stx_base.specs.declared.line.Line.{Line}
use Rattle.stx_base.specs.declared.manager.Kind.{Kind}
use Rattle.stx_model.specs.Contexts.{Context, Registration, bare}
use Rattle.stx_model.specs.Meanings.{Result, Stops, Breaks}
use Rattle.stx_model.specs.Script.{script}
use Rattle.stx_model.proofs.Small.{method_no, m, n, p, a, k, sync_no, s, required, requires_new, nested, last_of_all, method, sync, plainly, calling, with_transaction, pool_note, store_note, Says}
use Rattle.stx_model.proofs.Traces.{top, call, call_read_only, call_plain, leave, catch, opened_sync, opened, end_commit, end_rollback, end_unexpected, mark, take, give, unbind, bind, suspend, resume, begin, read, write, erase, auto_read, auto_write, savepoint, back_to, release, commit, rollback, register, before_completion, after_completion_rolled_back}
use Rattle.stx_model.proofs.Passages.{m_begins, n_joins_and_marks, nests}
use Rattle.stx_model.proofs.PointRows.{marked_inside}
use Rattle.stx_model.proofs.FlatRows.{writes_and_reads}

-- ---- where scripts stop

-- over the notes that these lines tell, the script of client 0 says these lines, has read all, and stops at this call,
-- with this context and local mark
unfoldable pub Stands : Scenario → List Line → Want → Context → Option Bool → Type 0
unfolding Says
Stands S lines want context local =
    script S 0 (filter_map pool_note lines) (filter_map store_note lines)
    ≡ Stops want (record { lines = lines; context = context; local = local; pool = []; store = [] })

-- a registration of s
abbrev of_s : Option (List Registration)
of_s = Some (record { label = s; order = last_of_all } ∷ [])

abbrev reads_only : Scenario
reads_only = plainly (method (Some (record { propagation = Propagation.Required; read_only = true; rules = [] })) (Stmt.Read a ∷ []) ∷ [])

pub a_fresh_scope_first_wants_a_connection : Stands reads_only (top 0 ∷ call_read_only m Propagation.Required ∷ []) Want.Take bare None
unfolding Stands
a_fresh_scope_first_wants_a_connection = refl

pub and_then_a_transaction : Stands reads_only (top 0 ∷ call_read_only m Propagation.Required ∷ take 1 ∷ []) Want.Begin bare None
unfolding Stands
and_then_a_transaction = refl

pub a_read_only_transaction_is_bound_as_one :
    Stands reads_only (top 0 ∷ call_read_only m Propagation.Required ∷ take 1 ∷ begin 1 ∷ opened_sync Kind.Fresh ∷ []) (Want.Access 1 (Access.Read a))
    (record { tx = Some (record { connection = 1; transaction = 1; read_only = true; mark = false }); syncs = Some [] }) (Some false)
unfolding Stands
a_read_only_transaction_is_bound_as_one = refl

-- a read-only method joins a transaction that isn't
abbrev joined_by_a_reader : Scenario
joined_by_a_reader = record reads_only { methods = method required (Stmt.Call n None ∷ []) ∷ reads_only.methods }

pub a_joined_scope_leaves_the_transaction_as_it_is : Stands joined_by_a_reader
    (m_begins ++ call_read_only n Propagation.Required ∷ opened Kind.Join ∷ [])
    (Want.Access 1 (Access.Read a)) (with_transaction false (Some [])) (Some false)
unfolding Stands
a_joined_scope_leaves_the_transaction_as_it_is = refl

-- a registration, a call of another transaction, and a local mark
abbrev marked_and_registered : Scenario
marked_and_registered = record (plainly (
    method required (Stmt.Mark ∷ Stmt.Register (sync_no 0) ∷ Stmt.Call n None ∷ [])
    ∷ method requires_new []
    ∷ [])) { syncs = sync last_of_all ∷ [] }

abbrev until_the_inner_call : List Line
until_the_inner_call = m_begins ++ mark ∷ register s
    ∷ call n Propagation.RequiresNew ∷ suspend s ∷ unbind 1 ∷ []

pub what_is_suspended_is_not_carried : Stands marked_and_registered until_the_inner_call Want.Take bare (Some true)
unfolding Stands
what_is_suspended_is_not_carried = refl

pub what_is_resumed_is_carried_again : Stands marked_and_registered
    (until_the_inner_call ++ take 2 ∷ begin 2 ∷ opened_sync Kind.Fresh ∷ end_commit ∷ commit 2 1 ∷ give 2 ∷ bind 1 ∷ resume s ∷ leave n
    ∷ end_rollback ∷ before_completion s ∷ [])
    (Want.Rollback 1) (with_transaction false of_s) (Some true)
unfolding Stands
what_is_resumed_is_carried_again = refl

-- after the after_completion round the connection is still bound, and no synchronisation is active
pub the_connection_is_bound_until_it_is_given_back : Stands marked_and_registered
    (until_the_inner_call ++ take 2 ∷ begin 2 ∷ opened_sync Kind.Fresh ∷ end_commit ∷ commit 2 1 ∷ give 2 ∷ bind 1 ∷ resume s ∷ leave n
    ∷ end_rollback ∷ before_completion s ∷ rollback 1 ∷ after_completion_rolled_back s ∷ [])
    (Want.Give 1) (with_transaction false None) (Some true)
unfolding Stands
the_connection_is_bound_until_it_is_given_back = refl

-- a joined scope fails inside a nested one
abbrev until_the_return : List Line
until_the_return = m_begins
    ++ nests p
    ++ n_joins_and_marks ++ catch RUNTIME_EXCEPTION
    ∷ end_unexpected ∷ []

pub a_joined_scope_marks_the_transaction : Stands marked_inside until_the_return (Want.BackTo 1) (with_transaction true (Some [])) (Some false)
unfolding Stands
a_joined_scope_marks_the_transaction = refl

pub and_the_return_takes_the_mark_off :
    Stands marked_inside (until_the_return ++ back_to 1 ∷ []) (Want.Release 1) (with_transaction false (Some [])) (Some false)
unfolding Stands
and_the_return_takes_the_mark_off = refl

-- ---- notes that don't answer

abbrev breaks : Result → Bool
breaks (Breaks st) = true
breaks _ = false

-- the script of client 0 over the notes that these lines tell
abbrev breaks_over : Scenario → List Line → Bool
breaks_over S lines = breaks (script S 0 (filter_map pool_note lines) (filter_map store_note lines))

-- nothing; another transaction, row, value, kind of access and kind of answer; a commit or rollback of another, a rollback
-- where a commit is wanted, and another connection that is given back
pub a_note_of_something_else_breaks : map (breaks_over writes_and_reads) (
    (take 1 ∷ begin 1 ∷ write 1 a (pos 5) Answer.Done ∷ read 1 a Answer.Absent ∷ commit 1 1 ∷ give 1 ∷ [])
    ∷ (take 1 ∷ begin 1 ∷ write 2 a (pos 5) Answer.Done ∷ [])
    ∷ (take 1 ∷ begin 1 ∷ write 1 k (pos 5) Answer.Done ∷ [])
    ∷ (take 1 ∷ begin 1 ∷ write 1 a (pos 6) Answer.Done ∷ [])
    ∷ (take 1 ∷ begin 1 ∷ erase 1 a Answer.Done ∷ [])
    ∷ (take 1 ∷ begin 1 ∷ write 1 a (pos 5) Answer.Absent ∷ [])
    ∷ (take 1 ∷ begin 1 ∷ auto_write a (pos 5) Answer.Done ∷ [])
    ∷ (take 1 ∷ begin 1 ∷ write 1 a (pos 5) Answer.Done ∷ read 1 a Answer.Done ∷ [])
    ∷ (take 1 ∷ begin 1 ∷ write 1 a (pos 5) Answer.Done ∷ read 1 a Answer.Absent ∷ commit 2 1 ∷ [])
    ∷ (take 1 ∷ begin 1 ∷ write 1 a (pos 5) Answer.Done ∷ read 1 a Answer.Absent ∷ rollback 1 ∷ [])
    ∷ (take 1 ∷ begin 1 ∷ write 1 a (pos 5) (Answer.Busy 7) ∷ rollback 2 ∷ [])
    ∷ (take 1 ∷ begin 1 ∷ write 1 a (pos 5) Answer.Done ∷ read 1 a Answer.Absent ∷ commit 1 1 ∷ give 2 ∷ [])
    ∷ (give 1 ∷ [])
    ∷ (take 1 ∷ commit 1 1 ∷ []) ∷ [])
    ≡ false ∷ true ∷ true ∷ true ∷ true ∷ true ∷ true ∷ true ∷ true ∷ true ∷ true ∷ true ∷ true ∷ true ∷ []
unfolding Says
a_note_of_something_else_breaks = refl

-- nothing; another row, kind of answer and transaction's access
pub and_so_outside_a_transaction : map (breaks_over (plainly (method None (Stmt.Read a ∷ []) ∷ []))) (
    (take 1 ∷ auto_read a Answer.Absent ∷ give 1 ∷ [])
    ∷ (take 1 ∷ auto_read k Answer.Absent ∷ [])
    ∷ (take 1 ∷ auto_read a Answer.Done ∷ [])
    ∷ (take 1 ∷ read 1 a Answer.Absent ∷ [])
    ∷ (take 1 ∷ auto_read a Answer.Absent ∷ give 2 ∷ []) ∷ [])
    ≡ false ∷ true ∷ true ∷ true ∷ true ∷ []
unfolding Says
and_so_outside_a_transaction = refl

-- nothing; another transaction's savepoint, return and release
pub and_so_at_savepoints : map (breaks_over (calling None (method nested (Stmt.Mark ∷ [])))) (
    (take 1 ∷ begin 1 ∷ savepoint 1 ∷ back_to 1 ∷ release 1 ∷ commit 1 1 ∷ give 1 ∷ [])
    ∷ (take 1 ∷ begin 1 ∷ savepoint 2 ∷ [])
    ∷ (take 1 ∷ begin 1 ∷ savepoint 1 ∷ back_to 2 ∷ [])
    ∷ (take 1 ∷ begin 1 ∷ savepoint 1 ∷ back_to 1 ∷ release 2 ∷ []) ∷ [])
    ≡ false ∷ true ∷ true ∷ true ∷ []
unfolding Says
and_so_at_savepoints = refl

-- notes that are left over stay unread
pub notes_that_nobody_asks_for_stay_unread :
    script (plainly (method None [] ∷ [])) 0 (PoolNote.Taken 1 ∷ []) (StoreNote.Begin 1 ∷ [])
    ≡ Stops Want.Done (record {
      lines = top 0 ∷ call_plain m ∷ leave m ∷ [];
      context = bare;
      local = None;
      pool = PoolNote.Taken 1 ∷ [];
      store = StoreNote.Begin 1 ∷ [];
    })
unfolding Says
notes_that_nobody_asks_for_stay_unread = refl

-- ---- how deep calls go

-- a method that calls itself
pub a_call_that_leads_back_breaks : breaks_over (plainly (method None (Stmt.Call m None ∷ []) ∷ [])) [] ≡ true
unfolding Says
a_call_that_leads_back_breaks = refl

-- so many methods, each but the last of which calls the next
abbrev chain : ℕ → Scenario
chain calls = plainly (map (λ i. method None (Stmt.Call (method_no (i + 1)) None ∷ [])) (range_with_len 0 calls) ++ method None [] ∷ [])

pub sixty_four_calls_deep_is_said : breaks_over (chain 64) [] ∷ breaks_over (chain 65) [] ∷ [] ≡ false ∷ true ∷ []
unfolding Says
sixty_four_calls_deep_is_said = refl
