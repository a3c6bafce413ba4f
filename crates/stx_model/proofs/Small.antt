-- Small scenarios for the worked rows, built from what tells them apart, and what it is for a row to hold.
use Rattle.std.proofs.Common.{◌≡◌, ℕ, ℤ, pos, Bool, true, false, List, [], ◌∷◌, Option, Some, None}
use Rattle.std.specs.Prelude.{codes}
use Rattle.std.specs.List.{filter_map}
use Rattle.stx_scenario.specs.declared.classes.TheConstants.{RUNTIME_EXCEPTION}
use Rattle.stx_scenario.specs.declared.numbers.ClassNo.{ClassNo}
use Rattle.stx_scenario.specs.declared.numbers.RowNo.{RowNo}
use Rattle.stx_scenario.specs.declared.numbers.MethodNo.{MethodNo}
use Rattle.stx_scenario.specs.declared.numbers.SyncNo.{SyncNo}
use Rattle.stx_scenario.specs.declared.numbers.EventNo.{EventNo}
use Rattle.stx_scenario.specs.declared.numbers.ListenerNo.{ListenerNo}
use Rattle.stx_scenario.specs.declared.scenario.Scenario.{Scenario}
use Rattle.stx_scenario.specs.declared.scenario.Settings.{Settings}
use Rattle.stx_scenario.specs.declared.scenario.SyncMode.{SyncMode}
use Rattle.stx_scenario.specs.declared.scenario.Propagation.{Propagation}
use Rattle.stx_scenario.specs.declared.scenario.Phase.{Phase}
use Rattle.stx_scenario.specs.declared.scenario.Method.{Method}
use Rattle.stx_scenario.specs.declared.scenario.SyncDecl.{SyncDecl}
use Rattle.stx_scenario.specs.declared.scenario.Listener.{Listener}
use Rattle.stx_scenario.specs.declared.scenario.TxAttr.{TxAttr}
use Rattle.stx_scenario.specs.declared.scenario.Stmt.{Stmt}
use Rattle.stx_scenario.specs.BuiltIn.{built_in}
use Rattle.stx_base.specs.declared.history.PoolNote.{PoolNote}
use Rattle.stx_base.specs.declared.history.StoreNote.{StoreNote}
use Rattle.stx_base.specs.declared.line.Label.{Label}
use Rattle.stx_base.specs.declared.line.Line.{Line}
use Rattle.stx_base.specs.declared.call.Want.{Want}
use Rattle.stx_base.specs.Rules.{winner, rolls_back}
use Rattle.stx_base.specs.Weight.{longest, leads}
use Rattle.stx_model.specs.Contexts.{Context, Registration, bare}
use Rattle.stx_model.specs.Meanings.{Result, Stops, ask}
use Rattle.stx_model.specs.Opening.{opening}
use Rattle.stx_model.specs.Ending.{completion}
use Rattle.stx_model.specs.Listeners.{deeds}
use Rattle.stx_model.specs.Rounds.{callback_statement, callback, told, stopping_round, swallowing_round}
use Rattle.stx_model.specs.Scopes.{acts, completes, ends, in_scope, begins, opens, intercepted}
use Rattle.stx_model.specs.Script.{script, tops, calls_below, invoked, body, statement, deals}

-- ---- names

abbrev pub method_no : ℕ → MethodNo
method_no number = record { 0 = number }

-- the methods of the rows, by their places in the list: m is the one that the client calls
abbrev pub m : MethodNo
m = method_no 0

abbrev pub n : MethodNo
n = method_no 1

abbrev pub p : MethodNo
p = method_no 2

abbrev pub row_no : ℕ → RowNo
row_no number = record { 0 = number }

abbrev pub a : RowNo
a = row_no 0

abbrev pub k : RowNo
k = row_no 1

abbrev pub sync_no : ℕ → SyncNo
sync_no number = record { 0 = number }

abbrev pub e : EventNo
e = record { 0 = 0 }

abbrev pub listener_no : ℕ → ListenerNo
listener_no number = record { 0 = number }

-- the first two synchronisations and listeners, by their labels
abbrev pub s : Label
s = Label.Sync (sync_no 0)

abbrev pub t : Label
t = Label.Sync (sync_no 1)

abbrev pub l : Label
l = Label.Listener (listener_no 0)

abbrev pub o : Label
o = Label.Listener (listener_no 1)

-- ---- attributes

abbrev pub attribute_of : Propagation → Option TxAttr
attribute_of propagation = Some (record { propagation = propagation; read_only = false; rules = [] })

abbrev pub required : Option TxAttr
required = attribute_of Propagation.Required

abbrev pub supports : Option TxAttr
supports = attribute_of Propagation.Supports

abbrev pub mandatory : Option TxAttr
mandatory = attribute_of Propagation.Mandatory

abbrev pub requires_new : Option TxAttr
requires_new = attribute_of Propagation.RequiresNew

abbrev pub not_supported : Option TxAttr
not_supported = attribute_of Propagation.NotSupported

abbrev pub never : Option TxAttr
never = attribute_of Propagation.Never

abbrev pub nested : Option TxAttr
nested = attribute_of Propagation.Nested

-- ---- parts of a scenario

abbrev pub settings : ℕ → SyncMode → Bool → Settings
settings pool mode nested = record { pool = pool; mode = mode; nested = nested }

-- the order value where none is given
abbrev pub last_of_all : ℤ
last_of_all = pos 2147483647

-- a method of the first bean
abbrev pub method : Option TxAttr → List Stmt → Method
method tx body = record { bean = record { 0 = 0 }; name = codes "m"; tx = tx; body = body }

abbrev pub named : List ℕ → Method → Method
named name method = record method { name = name }

-- a method whose scope rolls back by default
abbrev pub failing : Method
failing = method required (Stmt.Throw RUNTIME_EXCEPTION ∷ [])

-- a synchronisation whose callbacks hold nothing
abbrev pub sync : ℤ → SyncDecl
sync order = record { name = codes "s"; order = order; before_commit = []; before_completion = []; after_commit = []; after_completion = [] }

-- a listener of the one event
abbrev pub listener : Phase → Bool → List Stmt → Listener
listener phase fallback body = record { name = codes "l"; event = e; phase = phase; order = last_of_all; fallback = fallback; body = body }

-- these methods of a bean without attribute, and one client that calls the first of them once
abbrev pub plainly : List Method → Scenario
plainly methods = record {
  settings = settings 8 SyncMode.Always true;
  events = codes "e" ∷ [];
  schedule = [];
  row_names = codes "a" ∷ codes "k" ∷ [];
  values = [];
  classes = built_in;
  beans = record { name = codes "b"; tx = None } ∷ [];
  methods = methods;
  syncs = [];
  listeners = [];
  clients = (m ∷ []) ∷ [];
}

-- m has a transaction in which it calls n once, which is this method, and catches this
abbrev pub calling : Option ClassNo → Method → Scenario
calling catches inner = plainly (method required (Stmt.Call n catches ∷ []) ∷ inner ∷ [])

-- m has a transaction that n marks, which it calls first and catches; then it calls p, which is this method, and catches this
abbrev pub marked_and_then : Option ClassNo → Method → Scenario
marked_and_then catches last = plainly (method required (Stmt.Call n (Some RUNTIME_EXCEPTION) ∷ Stmt.Call p catches ∷ []) ∷ failing ∷ last ∷ [])

-- m has a transaction and registers the one synchronisation, which has these callbacks
abbrev pub registering : SyncDecl → Scenario
registering callbacks = record (plainly (method required (Stmt.Register (sync_no 0) ∷ []) ∷ [])) { syncs = callbacks ∷ [] }

-- ---- contexts

-- a live transaction, marked or not, with these registrations where synchronisation is active
abbrev pub with_transaction : Bool → Option (List Registration) → Context
with_transaction marked syncs = record { tx = Some (record { connection = 1; transaction = 1; read_only = false; mark = marked }); syncs = syncs }

-- ---- what a row says

-- a script that is done: it has said these lines, read all notes, and carries nothing
abbrev pub done : List Line → Result
done lines = Stops Want.Done (record { lines = lines; context = bare; local = None; pool = []; store = [] })

-- the notes that lines tell: each line of a shared call is the line of one note
abbrev pub pool_note : Line → Option PoolNote
pool_note (Line.Take (Some c)) = Some (PoolNote.Taken c)
pool_note (Line.Take None) = Some PoolNote.Empty
pool_note (Line.Give c) = Some (PoolNote.Given c)
pool_note _ = None

abbrev pub store_note : Line → Option StoreNote
store_note (Line.Begin t) = Some (StoreNote.Begin t)
store_note (Line.Row t access answer) = Some (StoreNote.Access t access answer)
store_note (Line.Auto access answer) = Some (StoreNote.Auto access answer)
store_note (Line.Savepoint t) = Some (StoreNote.Point t)
store_note (Line.BackTo t) = Some (StoreNote.BackTo t)
store_note (Line.Release t) = Some (StoreNote.Release t)
store_note (Line.Commit t number) = Some (StoreNote.Commit t number)
store_note (Line.Rollback t) = Some (StoreNote.Rollback t)
store_note _ = None

-- over the notes that these lines tell, the script of client c says exactly these lines, and is done
unfoldable pub Says : Scenario → ℕ → List Line → Type 0
unfolding script tops calls_below invoked body statement callback_statement callback told stopping_round swallowing_round acts completes ends in_scope begins opens intercepted deals ask opening completion deeds longest leads winner rolls_back
Says S c lines = script S c (filter_map pool_note lines) (filter_map store_note lines) ≡ done lines
