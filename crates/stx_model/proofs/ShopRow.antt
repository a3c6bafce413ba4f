-- A worked row: a shop. An order is placed, an audit note is committed by itself, the stock is too low for a nested scope,
-- and a mail goes out after the order has committed.
use Rattle.std.proofs.Common.{pos, negsuc, true, false, List, [], ◌∷◌, Some, None, refl}
use Rattle.std.specs.Prelude.{codes}
use Rattle.stx_scenario.specs.declared.classes.TheConstants.{ILLEGAL_STATE_EXCEPTION}
use Rattle.stx_scenario.specs.declared.numbers.RowNo.{RowNo}
use Rattle.stx_scenario.specs.declared.numbers.MethodNo.{MethodNo}
use Rattle.stx_scenario.specs.declared.scenario.Scenario.{Scenario}
use Rattle.stx_scenario.specs.declared.scenario.Propagation.{Propagation}
use Rattle.stx_scenario.specs.declared.scenario.SyncMode.{SyncMode}
use Rattle.stx_scenario.specs.declared.scenario.Phase.{Phase}
use Rattle.stx_scenario.specs.declared.scenario.Stmt.{Stmt}
use Rattle.stx_scenario.specs.BuiltIn.{built_in}
use Rattle.stx_base.specs.declared.history.Answer.{Answer}
use Rattle.stx_base.specs.declared.line.Line.{Line}
use Rattle.stx_base.specs.declared.manager.Kind.{Kind}
use Rattle.stx_model.proofs.Small.{method_no, m as place, n as pick, p as note, row_no, a as stock, k as orders, e, listener_no, l, required, requires_new, nested, settings, listener, Says}
use Rattle.stx_model.proofs.Traces.{top, call, leave, leave_throws, throw, catch, rules_rollback_by, opened_sync, opened, end_commit, end_rollback, take, give, unbind, bind, begin, read, write, savepoint, back_to, release, commit, register, publish, listen, before_commit, before_completion, after_commit, after_completion_committed}

-- beside the rows and the methods of the other worked rows, which have the names of the shop here
abbrev audit : RowNo
audit = row_no 2

abbrev mails : RowNo
mails = row_no 3

abbrev mail : MethodNo
mail = method_no 3

abbrev pub shop : Scenario
shop = record {
  settings = settings 3 SyncMode.Always true;
  events = codes "placed" ∷ [];
  schedule = [];
  row_names = codes "stock" ∷ codes "orders" ∷ codes "audit" ∷ codes "mails" ∷ [];
  values = pos 2 ∷ pos 0 ∷ [];
  classes = built_in;
  beans = record { name = codes "orders"; tx = required }
      ∷ record { name = codes "stock"; tx = None }
      ∷ record { name = codes "audit"; tx = requires_new }
      ∷ [];
  methods = record {
    bean = record { 0 = 0 };
    name = codes "place";
    tx = None;
    body = Stmt.Call note None ∷ Stmt.Call pick (Some ILLEGAL_STATE_EXCEPTION) ∷ Stmt.Add orders (pos 1) ∷ Stmt.Publish e ∷ [];
  } ∷ record {
    bean = record { 0 = 1 };
    name = codes "pick";
    tx = nested;
    body = Stmt.Need stock (pos 3) ∷ Stmt.Add stock (negsuc 2) ∷ [];
  } ∷ record { bean = record { 0 = 2 }; name = codes "note"; tx = None; body = Stmt.Add audit (pos 1) ∷ [] }
      ∷ record { bean = record { 0 = 2 }; name = codes "mail"; tx = None; body = Stmt.Add mails (pos 1) ∷ [] }
      ∷ [];
  syncs = [];
  listeners = record (listener Phase.AfterCommit false (Stmt.Call mail None ∷ [])) { name = codes "mail" } ∷ [];
  clients = (place ∷ []) ∷ [];
}

abbrev pub placed : List Line
placed = top 0 ∷ call place Propagation.Required ∷ take 1 ∷ begin 1 ∷ opened_sync Kind.Fresh
    ∷ call note Propagation.RequiresNew ∷ unbind 1 ∷ take 2 ∷ begin 2 ∷ opened_sync Kind.Fresh
    ∷ read 2 audit Answer.Absent ∷ write 2 audit (pos 1) Answer.Done
    ∷ end_commit ∷ commit 2 1 ∷ give 2 ∷ bind 1 ∷ leave note
    ∷ call pick Propagation.Nested ∷ savepoint 1 ∷ opened Kind.Point
    ∷ read 1 stock (Answer.Found (pos 2)) ∷ throw ILLEGAL_STATE_EXCEPTION ∷ rules_rollback_by None
    ∷ end_rollback ∷ back_to 1 ∷ release 1 ∷ leave_throws pick ILLEGAL_STATE_EXCEPTION
    ∷ catch ILLEGAL_STATE_EXCEPTION
    ∷ read 1 orders (Answer.Found (pos 0)) ∷ write 1 orders (pos 1) Answer.Done
    ∷ publish e ∷ register l
    ∷ end_commit ∷ before_commit l ∷ before_completion l ∷ commit 1 2 ∷ after_commit l ∷ after_completion_committed l
    ∷ listen (listener_no 0)
    ∷ call mail Propagation.RequiresNew ∷ unbind 1 ∷ take 2 ∷ begin 3 ∷ opened_sync Kind.Fresh
    ∷ read 3 mails Answer.Absent ∷ write 3 mails (pos 1) Answer.Done
    ∷ end_commit ∷ commit 3 3 ∷ give 2 ∷ bind 1 ∷ leave mail
    ∷ give 1 ∷ leave place ∷ []

pub an_order_is_placed : Says shop 0 placed
unfolding Says
an_order_is_placed = refl
