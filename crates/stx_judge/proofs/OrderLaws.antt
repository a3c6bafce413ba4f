-- What a scenario that is accepted can be relied on for, place by place.
use Rattle.std.proofs.Common.{◌≡◌, ℕ, zero, suc, ◌<◌, ◌≤◌, Bool, true, false, ◌&&◌, ◌==◌, pos, List, codes, Option, Some, None, length, slice_get, refl, arith}
use Rattle.std.specs.List.{All}
use Rattle.std.specs.Option.{option_map_or}
use Rattle.std.proofs.lemmas.Bool.{false≢true, ltb-true, leb-true}
use Rattle.std.proofs.lemmas.Option.{slice_get_within}
use Rattle.stx_scenario.specs.declared.numbers.BeanNo.{BeanNo}
use Rattle.stx_scenario.specs.declared.numbers.MethodNo.{MethodNo}
use Rattle.stx_scenario.specs.declared.scenario.Scenario.{Scenario}
use Rattle.stx_scenario.specs.declared.scenario.ClassDecl.{ClassDecl}
use Rattle.stx_scenario.specs.declared.scenario.Bean.{Bean}
use Rattle.stx_scenario.specs.declared.scenario.Method.{Method}
use Rattle.stx_scenario.specs.declared.scenario.TxAttr.{TxAttr}
use Rattle.stx_scenario.specs.declared.scenario.RuleBy.{RuleBy}
use Rattle.stx_scenario.specs.declared.scenario.SyncDecl.{SyncDecl}
use Rattle.stx_scenario.specs.declared.scenario.Listener.{Listener}
use Rattle.stx_scenario.specs.declared.scenario.Phase.{Phase}
use Rattle.stx_scenario.specs.declared.scenario.Stmt.{Stmt}
use Rattle.stx_base.specs.Weight.{CallbackInRange, StatementInRange, SyncInRange, InRange}
use Rattle.stx_refusals.specs.declared.fault.Stage.TheVariants.{BadName, OutOfRange, TooMany, BadWord, UnknownRef, CallbackBody}
use Rattle.stx_scenario.specs.Names.{is_name}
use Rattle.stx_refusals.specs.Faults.{under, entry, refused, first_at, is_stage, count_stage}
use Rattle.stx_names.specs.Integers.{is_pool}
use Rattle.stx_judge.specs.Judge
use Rattle.stx_base.specs.Valid
use Rattle.stx_judge.specs.Stages.{place_refusal, callback_refusal, PlacesQuiet}
use Rattle.stx_base.specs.Valid.{AreKnown, BodyInOrder, CallbackInOrder, RuleInOrder, AttributeInOrder, TxInOrder, ClassInOrder, BeanInOrder, MethodInOrder, SyncInOrder, ListenerInOrder, CallsInOrder, PlacesInOrder, SyncAllowed, CallbacksAllowed}
use Rattle.stx_refusals.proofs.QuietLaws.{Quiet, is_place, both_true, none_at, quiet_both, quiet_each, quiet_passed, quiet_array, quiet_first, quiet_many, places_quiet}

-- ---- bodies and attributes

body_order : (S : Scenario) (bean : BeanNo) (path : List ℕ) (body : List Stmt) → Quiet is_place (Judge.body_faults S bean path body) → BodyInOrder S bean body
body_order S bean path body q =
    let array = quiet_array (λ s. (Valid.names_known S s && Valid.own_known S bean s) ≡ true) 256 (length body) path _ body refl (λ k s. quiet_passed _ _ UnknownRef refl) q in
    record {
      few = array.few;
      known = λ k d within. (both_true _ _ (array.all k d within)).0;
      own = λ k d within. (both_true _ _ (array.all k d within)).1;
    }

callback_order : (S : Scenario) (path : List ℕ) (body : List Stmt) → Quiet is_place (Judge.callback_body_faults S path body) → CallbackInOrder S body
callback_order S path body q =
    let array = quiet_array (λ s. Valid.names_known S s ≡ true) 256 (length body) path _ body refl (λ k s. quiet_passed _ _ UnknownRef refl) q in
    record { few = array.few; known = array.all }

rule_order : (S : Scenario) (path : List ℕ) (by : RuleBy) → Quiet is_place (refused path (Judge.rule_stage S by)) → RuleInOrder S by
rule_order S path (RuleBy.Class class) q = ltb-true class.0 (length S.classes) (quiet_passed path _ UnknownRef refl q)
rule_order S path (RuleBy.Pattern pattern) q = quiet_passed path _ BadWord refl q

tx_order : (S : Scenario) (path : List ℕ) (tx : Option TxAttr) → Quiet is_place (Judge.tx_faults S path tx) → TxInOrder S tx
tx_order S path None q = tt
tx_order S path (Some tx) q =
    let array = quiet_array (λ rule. RuleInOrder S rule.by) 64 (length tx.rules) _ _ tx.rules refl (λ k rule. rule_order S _ rule.by) q in
    record { few = array.few; rules = array.all }

-- ---- parts

class_order : (S : Scenario) (n : ℕ) (class : ClassDecl) → Quiet is_place (Judge.class_faults S n class) → ClassInOrder S class
class_order S n class q =
    let parts = quiet_both _ _ q in
    record { name = quiet_passed _ _ BadName refl parts.0; parent = quiet_passed _ _ UnknownRef refl parts.1 }

bean_order : (S : Scenario) (n : ℕ) (bean : Bean) → Quiet is_place (Judge.bean_faults S n bean) → BeanInOrder S bean
bean_order S n bean q =
    let parts = quiet_both _ _ q in
    record { name = quiet_passed _ _ BadName refl parts.0; tx = tx_order S (entry (codes "beans") n) bean.tx parts.1 }

method_order : (S : Scenario) (n : ℕ) (method : Method) → Quiet is_place (Judge.method_faults S n method) → MethodInOrder S method
method_order S n method q =
    let body = quiet_both _ _ q in
    let tx = quiet_both _ _ body.0 in
    let name = quiet_both _ _ tx.0 in
    record {
      bean = ltb-true _ _ (quiet_passed _ _ UnknownRef refl name.0);
      name = quiet_passed _ _ BadName refl name.1;
      tx = tx_order S (entry (codes "methods") n) method.tx tx.1;
      body = body_order S method.bean _ method.body body.1;
    }

sync_order : (S : Scenario) (n : ℕ) (sync : SyncDecl) → Quiet is_place (Judge.sync_faults S n sync) → SyncInOrder S sync
sync_order S n sync q =
    let after_completion = quiet_both _ _ q in
    let after_commit = quiet_both _ _ after_completion.0 in
    let before_completion = quiet_both _ _ after_commit.0 in
    let before_commit = quiet_both _ _ before_completion.0 in
    record {
      name = quiet_passed _ _ BadName refl before_commit.0;
      before_commit = callback_order S _ sync.before_commit before_commit.1;
      before_completion = callback_order S _ sync.before_completion before_completion.1;
      after_commit = callback_order S _ sync.after_commit after_commit.1;
      after_completion = callback_order S _ sync.after_completion after_completion.1;
    }

listener_order : (S : Scenario) (n : ℕ) (listener : Listener) → Quiet is_place (Judge.listener_faults S n listener) → ListenerInOrder S listener
listener_order S n listener q =
    let body = quiet_both _ _ q in
    let event = quiet_both _ _ body.0 in
    record {
      name = quiet_passed _ _ BadName refl event.0;
      event = ltb-true _ _ (quiet_passed _ _ UnknownRef refl event.1);
      body = callback_order S _ listener.body body.1;
    }

calls_order : (S : Scenario) (n : ℕ) (calls : List MethodNo) → Quiet is_place (Judge.client_faults S n calls) → CallsInOrder S calls
calls_order S n calls q =
    let array = quiet_array (λ m. m.0 < length S.methods) 64 (length calls) _ _ calls refl (λ k m h. ltb-true _ _ (quiet_passed _ _ UnknownRef refl h)) q in
    record { few = array.few; methods = array.all }

turn_order : (S : Scenario) (n client : ℕ) → Quiet is_place (Judge.turn_faults S n client) → client < length S.clients
turn_order S n client q = ltb-true _ _ (quiet_passed _ _ UnknownRef refl (quiet_both _ _ q).1)

-- ---- the whole

pool_order : (pool : ℕ) → is_pool (pos pool) ≡ true → (1 ≤ pool) × (pool ≤ 64)
pool_order pool h =
    let bounds = both_true _ _ h in (leb-true 1 pool bounds.0, leb-true pool 64 bounds.1)

clients_some : (path : List ℕ) (n : ℕ) → Quiet is_place (refused path (count_stage 1 64 n)) → (1 ≤ n) × (n ≤ 64)
clients_some path zero q = absurd (false≢true (quiet_passed path false OutOfRange refl q))
clients_some path (suc k) q = (omega arith, quiet_many path 64 (suc k) _ refl q (grind arith))

pub places_order : (S : Scenario) → Quiet is_place (Judge.scenario_faults S) → PlacesInOrder S
unfolding Judge.scenario_faults
places_order S q =
    let with_clients = quiet_both _ _ q in
    let with_listeners = quiet_both _ _ with_clients.0 in
    let with_syncs = quiet_both _ _ with_listeners.0 in
    let with_methods = quiet_both _ _ with_syncs.0 in
    let with_beans = quiet_both _ _ with_methods.0 in
    let with_classes = quiet_both _ _ with_beans.0 in
    let with_rows = quiet_both _ _ with_classes.0 in
    let with_settings = quiet_both _ _ with_rows.0 in
    let with_schedule = quiet_both _ _ with_settings.0 in
    let events = quiet_array (λ name. is_name name ≡ true) 256 (length S.events) _ _ S.events refl (λ k name. quiet_passed _ _ BadName refl) with_schedule.0 in
    let schedule = quiet_array (λ client. client < length S.clients) 100000 (length S.schedule) _ (Judge.turn_faults S) S.schedule refl (turn_order S) with_schedule.1 in
    let pool = pool_order S.settings.pool (quiet_passed _ _ OutOfRange refl with_settings.1) in
    let rows = quiet_array (λ name. is_name name ≡ true) 10000 (length S.values) _ _ (Valid.first_rows S) refl (λ k name. quiet_passed _ _ BadName refl) with_rows.1 in
    let classes = quiet_array (ClassInOrder S) 1000 (length (Valid.own_classes S)) _ (Judge.class_faults S) (Valid.own_classes S) refl (class_order S) with_classes.1 in
    let beans = quiet_array (BeanInOrder S) 256 (length S.beans) _ (Judge.bean_faults S) S.beans refl (bean_order S) with_beans.1 in
    let methods = quiet_array (MethodInOrder S) 1000 (length S.methods) _ (Judge.method_faults S) S.methods refl (method_order S) with_methods.1 in
    let syncs = quiet_array (SyncInOrder S) 256 (length S.syncs) _ (Judge.sync_faults S) S.syncs refl (sync_order S) with_syncs.1 in
    let listeners = quiet_array (ListenerInOrder S) 256 (length S.listeners) _ (Judge.listener_faults S) S.listeners refl (listener_order S) with_listeners.1 in
    let clients = quiet_both _ _ with_clients.1 in
    let some : (1 ≤ length S.clients) × (length S.clients ≤ 64) = clients_some _ _ clients.0 in
    let calls : All (CallsInOrder S) S.clients = quiet_each (CallsInOrder S) (Judge.client_faults S) S.clients (calls_order S) clients.1 in
    assumption (events, schedule, pool, rows, classes, beans, methods, syncs, listeners, some, calls)

-- the stages on single places are quiet, and all that is named is there
pub quiet_places : (S : Scenario) → PlacesQuiet S → first_at UnknownRef (Judge.scenario_faults S) ≡ None → PlacesInOrder S
quiet_places S quiet references =
    let faults = Judge.scenario_faults S in
    places_order S (places_quiet faults
    (quiet_first BadName faults quiet.names) (quiet_first OutOfRange faults quiet.ranges) (quiet_first TooMany faults quiet.counts)
    (quiet_first BadWord faults quiet.words) (quiet_first UnknownRef faults references))

-- no stage up to the look-up of names refuses anything
pub accepted_places : (S : Scenario) → place_refusal S ≡ None → PlacesInOrder S
accepted_places S accepted =
    let none = λ (n : ℕ). none_at n (Judge.place_stages S) accepted in
    quiet_places S (record { names = none 0; ranges = none 1; counts = none 2; words = none 4 }) (none 5)

-- ---- callbacks

disallowed_none : (allowed : Stmt → Bool) (path : List ℕ) (body : List Stmt) → Quiet (is_stage CallbackBody) (Judge.disallowed allowed path body)
    → All (λ s. allowed s ≡ true) body
disallowed_none allowed path body q = quiet_each (λ s. allowed s ≡ true) _ body (λ k s. quiet_passed _ _ CallbackBody refl) q

sync_allowed : (S : Scenario) (n : ℕ) (sync : SyncDecl) → Quiet (is_stage CallbackBody) (Judge.sync_callback_faults S n sync) → SyncAllowed S sync
sync_allowed S n sync q =
    let path = entry (codes "syncs") n in
    let after_completion = quiet_both _ _ q in
    let after_commit = quiet_both _ _ after_completion.0 in
    let before_completion = quiet_both _ _ after_commit.0 in
    record {
      before_commit = disallowed_none (Valid.allowed_before_commit S) (under path (codes "before_commit")) sync.before_commit before_completion.0;
      before_completion = disallowed_none (Valid.allowed_around S) (under path (codes "before_completion")) sync.before_completion before_completion.1;
      after_commit = disallowed_none (Valid.allowed_around S) (under path (codes "after_commit")) sync.after_commit after_commit.1;
      after_completion = disallowed_none (Valid.allowed_around S) (under path (codes "after_completion")) sync.after_completion after_completion.1;
    }

pub accepted_callbacks : (S : Scenario) → callback_refusal S ≡ None → CallbacksAllowed S
unfolding Judge.callback_faults
accepted_callbacks S accepted =
    let parts = quiet_both _ _ (quiet_first CallbackBody (Judge.callback_faults S) accepted) in
    record {
      syncs = quiet_each (SyncAllowed S) (Judge.sync_callback_faults S) S.syncs (sync_allowed S) parts.0;
      listeners = quiet_each (λ listener. All (λ s. Valid.allowed_in listener.phase S s ≡ true) listener.body) (Judge.listener_callback_faults S) S.listeners
          (λ k listener. disallowed_none (Valid.allowed_in listener.phase S) (under (entry (codes "listeners") k) (codes "body")) listener.body) parts.1;
    }

-- ---- what a call graph is made of

method_known : (S : Scenario) (m : MethodNo) (b : Bool) → (Valid.is_method S m && b) ≡ true → m.0 < length S.methods
method_known S m b h = ltb-true m.0 (length S.methods) (both_true _ b h).0

-- a method of the bean is there
own_there : (S : Scenario) (bean : BeanNo) (o : Option Method) (m : ℕ) → slice_get S.methods m ≡ o
    → option_map_or (λ method. method.bean.0 == bean.0) o false ≡ true → m < length S.methods
own_there S bean None m here h = absurd (false≢true h)
own_there S bean (Some method) m here h = slice_get_within S.methods m method here

statement_range : (S : Scenario) (bean : BeanNo) (s : Stmt) → Valid.names_known S s ≡ true → Valid.own_known S bean s ≡ true
    → StatementInRange (length S.methods) (length S.events) (length S.syncs) s
statement_range S bean (Stmt.Call m x) known own = method_known S m (Valid.is_catch S x) known
statement_range S bean (Stmt.This m x) known own = own_there S bean _ m.0 refl own
statement_range S bean (Stmt.Publish e) known own = ltb-true e.0 (length S.events) known
statement_range S bean (Stmt.Register s) known own = ltb-true s.0 (length S.syncs) known
statement_range S bean _ known own = tt

before_commit_range : (S : Scenario) (s : Stmt) → Valid.allowed_before_commit S s ≡ true → CallbackInRange (length S.methods) s
before_commit_range S (Stmt.Call m x) allowed = absurd (false≢true allowed)
before_commit_range S (Stmt.This m x) allowed = absurd (false≢true allowed)
before_commit_range S (Stmt.Publish e) allowed = absurd (false≢true allowed)
before_commit_range S (Stmt.Register s) allowed = absurd (false≢true allowed)
before_commit_range S _ allowed = tt

around_range : (S : Scenario) (s : Stmt) → Valid.names_known S s ≡ true → Valid.allowed_around S s ≡ true → CallbackInRange (length S.methods) s
around_range S (Stmt.Call m x) known allowed = method_known S m (Valid.is_catch S x) known
around_range S (Stmt.This m x) known allowed = absurd (false≢true allowed)
around_range S (Stmt.Publish e) known allowed = absurd (false≢true allowed)
around_range S (Stmt.Register s) known allowed = absurd (false≢true allowed)
around_range S _ known allowed = tt

phase_range : (S : Scenario) (phase : Phase) (s : Stmt) → Valid.names_known S s ≡ true → Valid.allowed_in phase S s ≡ true → CallbackInRange (length S.methods) s
phase_range S Phase.BeforeCommit s known allowed = before_commit_range S s allowed
phase_range S _ s known allowed = around_range S s known allowed

around_all : (S : Scenario) (body : List Stmt) → CallbackInOrder S body → All (λ s. Valid.allowed_around S s ≡ true) body → All (CallbackInRange (length S.methods)) body
around_all S body order allowed = λ k d within. around_range S _ (order.known k d within) (allowed k d within)

sync_range : (S : Scenario) (sync : SyncDecl) → SyncInOrder S sync → SyncAllowed S sync → SyncInRange (length S.methods) sync
sync_range S sync order allowed = record {
  before_commit = λ k d within. before_commit_range S _ (allowed.before_commit k d within);
  before_completion = around_all S sync.before_completion order.before_completion allowed.before_completion;
  after_commit = around_all S sync.after_commit order.after_commit allowed.after_commit;
  after_completion = around_all S sync.after_completion order.after_completion allowed.after_completion;
}

pub accepted_range : (S : Scenario) → PlacesInOrder S → CallbacksAllowed S → InRange S
accepted_range S order allowed = record {
  few = let few = order.few_methods in omega (arith, few);
  methods = λ k d within.
      let method = order.methods k d within in
      λ i e inside. statement_range S _ _ (method.body.known i e inside) (method.body.own i e inside);
  syncs = λ k d within. sync_range S _ (order.syncs k d within) (allowed.syncs k d within);
  listeners = λ k d within.
      let listener = order.listeners k d within in
      let callbacks = allowed.listeners k d within in
      λ i e inside. phase_range S _ _ (listener.body.known i e inside) (callbacks i e inside);
  clients = λ k d within. (order.clients k d within).methods;
}
