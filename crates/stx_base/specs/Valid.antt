-- What a scenario has to be, beside its types, to be judged, and what can be relied on in one that no stage refuses.
use Rattle.std.specs.Prelude.{◌≡◌, ℕ, ◌^◌, ◌<◌, ◌≤◌, Bool, true, false, not, ◌&&◌, ◌==◌, nat_lt, List, drop, length, take, Option, Some, None, slice_get}
use Rattle.std.specs.Option.{option_map_or}
use Rattle.std.specs.List.{All, list_all}
use Rattle.stx_scenario.specs.declared.numbers.BeanNo.{BeanNo}
use Rattle.stx_scenario.specs.declared.numbers.ClassNo.{ClassNo}
use Rattle.stx_scenario.specs.declared.numbers.MethodNo.{MethodNo}
use Rattle.stx_scenario.specs.declared.numbers.RowNo.{RowNo}
use Rattle.stx_scenario.specs.declared.classes.TheConstants.{TRANSACTION_EXCEPTION}
use Rattle.stx_scenario.specs.declared.scenario.Scenario.{Scenario}
use Rattle.stx_scenario.specs.declared.scenario.ClassDecl.{ClassDecl}
use Rattle.stx_scenario.specs.declared.scenario.Bean.{Bean}
use Rattle.stx_scenario.specs.declared.scenario.Method.{Method}
use Rattle.stx_scenario.specs.declared.scenario.TxAttr.{TxAttr}
use Rattle.stx_scenario.specs.declared.scenario.Propagation.{Propagation}
use Rattle.stx_scenario.specs.declared.scenario.RuleBy.{RuleBy}
use Rattle.stx_scenario.specs.declared.scenario.SyncDecl.{SyncDecl}
use Rattle.stx_scenario.specs.declared.scenario.Listener.{Listener}
use Rattle.stx_scenario.specs.declared.scenario.Phase.{Phase}
use Rattle.stx_scenario.specs.declared.scenario.Stmt.{Stmt}
use Rattle.stx_scenario.specs.BuiltIn.{built_in}
use Rattle.stx_scenario.specs.Names.{is_name, is_class_name, is_pattern, duplicate_from}
use Rattle.stx_base.specs.Attributes.{attribute}
use Rattle.stx_base.specs.Classes.{is_below, IsTree}
use Rattle.stx_base.specs.Weight.{InRange, rank, weight, leads, IsOnCycle}

-- ---- what names something that is there

abbrev pub is_row : Scenario → RowNo → Bool
is_row S row = nat_lt row.0 (length S.row_names)

abbrev pub is_class : Scenario → ClassNo → Bool
is_class S class = nat_lt class.0 (length S.classes)

abbrev pub is_method : Scenario → MethodNo → Bool
is_method S method = nat_lt method.0 (length S.methods)

-- what is caught, if anything
abbrev pub is_catch : Scenario → Option ClassNo → Bool
is_catch S None = true
is_catch S (Some class) = is_class S class

-- a method of this bean
abbrev pub is_own_method : Scenario → BeanNo → MethodNo → Bool
is_own_method S bean method = option_map_or (λ m. m.bean.0 == bean.0) (slice_get S.methods method.0) false

-- all that a statement names, but the method of a `this`
abbrev pub names_known : Scenario → Stmt → Bool
names_known S (Stmt.Read row) = is_row S row
names_known S (Stmt.Write row v) = is_row S row
names_known S (Stmt.Erase row) = is_row S row
names_known S (Stmt.Add row v) = is_row S row
names_known S (Stmt.Need row v) = is_row S row
names_known S (Stmt.Call method catch) = is_method S method && is_catch S catch
names_known S (Stmt.This method catch) = is_catch S catch
names_known S (Stmt.Throw class) = is_class S class
names_known S Stmt.Mark = true
names_known S (Stmt.Publish event) = nat_lt event.0 (length S.events)
names_known S (Stmt.Register sync) = nat_lt sync.0 (length S.syncs)

-- in a method of this bean the method of a `this` is the bean's; in a callback it isn't looked up
abbrev pub own_known : Scenario → BeanNo → Stmt → Bool
own_known S bean (Stmt.This method catch) = is_own_method S bean method
own_known S bean _ = true

abbrev pub parent_known : Scenario → Option ClassNo → Bool
parent_known S parent = option_map_or (is_class S) parent false

-- the names that the rows section gives
abbrev pub first_rows : Scenario → List (List ℕ)
first_rows S = take (length S.values) S.row_names

abbrev pub own_classes : Scenario → List ClassDecl
own_classes S = drop (length built_in) S.classes

-- ---- what a callback may hold

-- before the commit: statements on rows, and throws of classes that are no TransactionException
abbrev pub allowed_before_commit : Scenario → Stmt → Bool
allowed_before_commit S (Stmt.Read row) = true
allowed_before_commit S (Stmt.Write row v) = true
allowed_before_commit S (Stmt.Erase row) = true
allowed_before_commit S (Stmt.Add row v) = true
allowed_before_commit S (Stmt.Need row v) = true
allowed_before_commit S (Stmt.Throw class) = not (is_below S.classes class.0 TRANSACTION_EXCEPTION.0)
allowed_before_commit S _ = false

abbrev pub is_new : Propagation → Bool
is_new Propagation.RequiresNew = true
is_new _ = false

-- in other callbacks: throws, and calls that begin a transaction of their own (Spring: the Javadoc of
-- TransactionSynchronization.afterCommit advises PROPAGATION_REQUIRES_NEW)
abbrev pub allowed_around : Scenario → Stmt → Bool
allowed_around S (Stmt.Throw class) = true
allowed_around S (Stmt.Call method catch) = option_map_or (λ tx. is_new tx.propagation) (attribute S method) false
allowed_around S _ = false

abbrev pub allowed_in : Phase → Scenario → Stmt → Bool
allowed_in Phase.BeforeCommit S s = allowed_before_commit S s
allowed_in _ S s = allowed_around S s

-- ---- what a scenario's type doesn't say of itself

abbrev pub IsFew : ℕ → Type 0
IsFew n = n < 2 ^ 32

pub record IsShaped (S : Scenario) : Type 0 where
  pub classes : take (length built_in) S.classes ≡ built_in
  pub values : length S.values ≤ length S.row_names
  pub names : list_all is_name (drop (length S.values) S.row_names) ≡ true
  pub rows : duplicate_from (first_rows S) (length S.values) (drop (length S.values) S.row_names) ≡ None
  pub few_events : IsFew (length S.events)
  pub few_turns : IsFew (length S.schedule)
  pub few_rows : IsFew (length S.row_names)
  pub few_classes : IsFew (length S.classes)
  pub few_beans : IsFew (length S.beans)
  pub few_methods : IsFew (length S.methods)
  pub few_syncs : IsFew (length S.syncs)
  pub few_listeners : IsFew (length S.listeners)
  pub few_clients : IsFew (length S.clients)

-- ---- single places

-- all that these statements name is there, but the methods of `this`
abbrev pub AreKnown : Scenario → List Stmt → Type 0
AreKnown S body = All (λ s. names_known S s ≡ true) body

-- the body of a method of this bean
pub record BodyInOrder (S : Scenario) (bean : BeanNo) (body : List Stmt) : Type 0 where
  pub few : length body ≤ 256
  pub known : AreKnown S body
  pub own : All (λ s. own_known S bean s ≡ true) body

-- the body of a callback
pub record CallbackInOrder (S : Scenario) (body : List Stmt) : Type 0 where
  pub few : length body ≤ 256
  pub known : AreKnown S body

-- a rule names a class that is there, or is a pattern
abbrev pub RuleInOrder : Scenario → RuleBy → Type 0
RuleInOrder S (RuleBy.Class class) = class.0 < length S.classes
RuleInOrder S (RuleBy.Pattern pattern) = is_pattern pattern ≡ true

pub record AttributeInOrder (S : Scenario) (tx : TxAttr) : Type 0 where
  pub few : length tx.rules ≤ 64
  pub rules : All (λ rule. RuleInOrder S rule.by) tx.rules

-- where there is an attribute
abbrev pub TxInOrder : Scenario → Option TxAttr → Type 0
TxInOrder S (Some tx) = AttributeInOrder S tx
TxInOrder S None = Unit {0}

-- ---- parts

-- a class that isn't built in
pub record ClassInOrder (S : Scenario) (class : ClassDecl) : Type 0 where
  pub name : is_class_name class.name ≡ true
  pub parent : parent_known S class.parent ≡ true

pub record BeanInOrder (S : Scenario) (bean : Bean) : Type 0 where
  pub name : is_name bean.name ≡ true
  pub tx : TxInOrder S bean.tx

pub record MethodInOrder (S : Scenario) (method : Method) : Type 0 where
  pub bean : method.bean.0 < length S.beans
  pub name : is_name method.name ≡ true
  pub tx : TxInOrder S method.tx
  pub body : BodyInOrder S method.bean method.body

pub record SyncInOrder (S : Scenario) (sync : SyncDecl) : Type 0 where
  pub name : is_name sync.name ≡ true
  pub before_commit : CallbackInOrder S sync.before_commit
  pub before_completion : CallbackInOrder S sync.before_completion
  pub after_commit : CallbackInOrder S sync.after_commit
  pub after_completion : CallbackInOrder S sync.after_completion

pub record ListenerInOrder (S : Scenario) (listener : Listener) : Type 0 where
  pub name : is_name listener.name ≡ true
  pub event : listener.event.0 < length S.events
  pub body : CallbackInOrder S listener.body

-- what a client calls
pub record CallsInOrder (S : Scenario) (calls : List MethodNo) : Type 0 where
  pub few : length calls ≤ 64
  pub methods : All (λ m. m.0 < length S.methods) calls

-- ---- the whole

-- no list is too long, each name is one, each number within its range, and all that is named is there
pub record PlacesInOrder (S : Scenario) : Type 0 where
  pub few_events : length S.events ≤ 256
  pub events : All (λ name. is_name name ≡ true) S.events
  pub few_turns : length S.schedule ≤ 100000
  pub turns : All (λ client. client < length S.clients) S.schedule
  pub connections : 1 ≤ S.settings.pool
  pub few_connections : S.settings.pool ≤ 64
  pub few_values : length S.values ≤ 10000
  pub rows : All (λ name. is_name name ≡ true) (first_rows S)
  pub few_classes : length (own_classes S) ≤ 1000
  pub classes : All (ClassInOrder S) (own_classes S)
  pub few_beans : length S.beans ≤ 256
  pub beans : All (BeanInOrder S) S.beans
  pub few_methods : length S.methods ≤ 1000
  pub methods : All (MethodInOrder S) S.methods
  pub few_syncs : length S.syncs ≤ 256
  pub syncs : All (SyncInOrder S) S.syncs
  pub few_listeners : length S.listeners ≤ 256
  pub listeners : All (ListenerInOrder S) S.listeners
  pub any_client : 1 ≤ length S.clients
  pub few_clients : length S.clients ≤ 64
  pub clients : All (CallsInOrder S) S.clients

-- ---- callbacks

pub record SyncAllowed (S : Scenario) (sync : SyncDecl) : Type 0 where
  pub before_commit : All (λ s. allowed_before_commit S s ≡ true) sync.before_commit
  pub before_completion : All (λ s. allowed_around S s ≡ true) sync.before_completion
  pub after_commit : All (λ s. allowed_around S s ≡ true) sync.after_commit
  pub after_completion : All (λ s. allowed_around S s ≡ true) sync.after_completion

-- each callback holds only what it may
pub record CallbacksAllowed (S : Scenario) : Type 0 where
  pub syncs : All (SyncAllowed S) S.syncs
  pub listeners : All (λ listener. All (λ s. allowed_in listener.phase S s ≡ true) listener.body) S.listeners

-- ---- all of it

-- what a scenario that is accepted can be relied on for
pub record IsInOrder (S : Scenario) : Type 0 where
  pub places : PlacesInOrder S
  pub callbacks : CallbacksAllowed S
  pub range : InRange S
  pub tree : IsTree S.classes
  pub acyclic : (m : MethodNo) → m.0 < length S.methods → ¬ (IsOnCycle (leads S) m)
  pub shallow : (m : MethodNo) → m.0 < length S.methods → rank S m ≤ 64
  pub light : weight S ≤ 200000
