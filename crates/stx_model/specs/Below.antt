-- What calls only methods of a rank below a bound: statements, callbacks, registrations and what is dealt with at a publication.
use Rattle.std.specs.Prelude.{ℕ, ◌<◌, ⊤, Bool, List, [], Option, Some, None, slice_get}
use Rattle.std.specs.List.{AllByRecursion}
use Rattle.stx_scenario.specs.declared.numbers.MethodNo.{MethodNo}
use Rattle.stx_scenario.specs.declared.numbers.SyncNo.{SyncNo}
use Rattle.stx_scenario.specs.declared.numbers.ListenerNo.{ListenerNo}
use Rattle.stx_scenario.specs.declared.scenario.Scenario.{Scenario}
use Rattle.stx_scenario.specs.declared.scenario.Listener.{Listener}
use Rattle.stx_scenario.specs.declared.scenario.Stmt.{Stmt}
use Rattle.stx_base.specs.declared.line.Label.{Label}
use Rattle.stx_base.specs.declared.manager.Round.{Round}
use Rattle.stx_base.specs.Weight.{body_of, rank}
use Rattle.stx_model.specs.Contexts.{Registration}
use Rattle.stx_model.specs.Listeners.{Deed, Register, RunNow, Skip, deeds}
use Rattle.stx_model.specs.Rounds.{sync_body}
use Rattle.stx_model.specs.Script.{calls_of}

-- a statement that a callback may hold, and that calls only methods of a rank below this
abbrev pub CallbackBelow : Scenario → ℕ → Stmt → Type 0
CallbackBelow S k (Stmt.Call m catch) = rank S m < k
CallbackBelow S k (Stmt.This m catch) = ⊥
CallbackBelow S k Stmt.Mark = ⊥
CallbackBelow S k (Stmt.Publish e) = ⊥
CallbackBelow S k (Stmt.Register s) = ⊥
CallbackBelow S k _ = ⊤

abbrev pub CallbacksBelow : Scenario → ℕ → List Stmt → Type 0
CallbacksBelow S k body = AllByRecursion (CallbackBelow S k) body

abbrev pub SyncBelow : Scenario → ℕ → SyncNo → Type 0
SyncBelow S k s = (round : Round) → CallbacksBelow S k (sync_body round (slice_get S.syncs s.0))

abbrev pub listener_body : Option Listener → List Stmt
listener_body (Some listener) = listener.body
listener_body None = []

abbrev pub ListenerBelow : Scenario → ℕ → ListenerNo → Type 0
ListenerBelow S k l = CallbacksBelow S k (listener_body (slice_get S.listeners l.0))

abbrev pub LabelBelow : Scenario → ℕ → Label → Type 0
LabelBelow S k (Label.Sync s) = SyncBelow S k s
LabelBelow S k (Label.Listener l) = ListenerBelow S k l

-- the callbacks of all these registrations
abbrev pub RegisteredBelow : Scenario → ℕ → List Registration → Type 0
RegisteredBelow S k rs = AllByRecursion (λ r. LabelBelow S k r.label) rs

abbrev pub DeedBelow : Scenario → ℕ → Deed → Type 0
DeedBelow S k (Register l) = ListenerBelow S k l
DeedBelow S k (RunNow l) = ListenerBelow S k l
DeedBelow S k (Skip l) = ⊤

-- a statement of a method: itself, and the callbacks of what it registers and of the listeners that it publishes to
abbrev pub StatementBelow : Scenario → ℕ → Stmt → Type 0
StatementBelow S k (Stmt.Call m catch) = rank S m < k
StatementBelow S k (Stmt.This m catch) = rank S m < k
StatementBelow S k (Stmt.Register s) = SyncBelow S k s
StatementBelow S k (Stmt.Publish e) = (active live : Bool) → AllByRecursion (DeedBelow S k) (deeds S e active live)
StatementBelow S k _ = ⊤

abbrev pub StatementsBelow : Scenario → ℕ → List Stmt → Type 0
StatementsBelow S k body = AllByRecursion (StatementBelow S k) body

abbrev pub MethodsBelow : Scenario → ℕ → List MethodNo → Type 0
MethodsBelow S k methods = AllByRecursion (λ m. rank S m < k) methods

-- each method, itself and by the callbacks that it leads to, calls only methods of lower rank, and callbacks hold only what
-- they may
pub record Callable (S : Scenario) : Type 0 where
  pub methods : (m : MethodNo) → StatementsBelow S (rank S m) (body_of S m)
  pub clients : (c : ℕ) → MethodsBelow S 65 (calls_of S c)
