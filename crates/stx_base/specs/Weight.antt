-- How methods lead to one another, and what they weigh: rank, size, registrations, weight.
-- A method's number out of range has no statements, and a synchronisation's no bodies.
use Rattle.std.specs.Prelude.{◌≡◌, ◌≤◌, ℕ, zero, suc, ◌+◌, ◌*◌, ◌<◌, Bool, true, ◌==◌, List, [], ◌∷◌, ◌++◌, length, map, max, sum, Option, Some, None, slice_get}
use Rattle.std.specs.List.{All, filter, flat_map, list_any}
use Rattle.stx_scenario.specs.declared.numbers.MethodNo.{MethodNo}
use Rattle.stx_scenario.specs.declared.numbers.EventNo.{EventNo}
use Rattle.stx_scenario.specs.declared.numbers.SyncNo.{SyncNo}
use Rattle.stx_scenario.specs.declared.scenario.Scenario.{Scenario}
use Rattle.stx_scenario.specs.declared.scenario.Method.{Method}
use Rattle.stx_scenario.specs.declared.scenario.Listener.{Listener}
use Rattle.stx_scenario.specs.declared.scenario.SyncDecl.{SyncDecl}
use Rattle.stx_scenario.specs.declared.scenario.Stmt.{Stmt}
use Rattle.stx_base.specs.declared.cost.Cost.{Cost}
use Rattle.stx_base.specs.Limits.{number_bound}

-- ---- the parts of a scenario, by number

abbrev pub body_in : Option Method → List Stmt
body_in (Some method) = method.body
body_in None = []

-- the statements of a method
abbrev pub body_of : Scenario → MethodNo → List Stmt
body_of S m = body_in (slice_get S.methods m.0)

-- the statements of a synchronisation's four bodies
abbrev pub callbacks : SyncDecl → List Stmt
callbacks sync = sync.before_commit ++ sync.before_completion ++ sync.after_commit ++ sync.after_completion

abbrev pub callbacks_in : Option SyncDecl → List Stmt
callbacks_in (Some sync) = callbacks sync
callbacks_in None = []

abbrev pub callbacks_of : Scenario → SyncNo → List Stmt
callbacks_of S s = callbacks_in (slice_get S.syncs s.0)

-- the listeners of an event, in the order of the file
abbrev pub listeners_of : Scenario → EventNo → List Listener
listeners_of S e = filter (λ listener. listener.event.0 == e.0) S.listeners

-- ---- leads to

-- the method that a statement of a callback calls
abbrev pub called : Stmt → List MethodNo
called (Stmt.Call m x) = m ∷ []
called _ = []

-- the methods that a callback's body calls
abbrev pub calls : List Stmt → List MethodNo
calls body = flat_map called body

-- the methods to which a statement of a method leads: those that its `call` and `this` name, those that the callbacks
-- of a sync that it registers call, and those that the bodies of the listeners of an event that it publishes call
abbrev pub led : Scenario → Stmt → List MethodNo
led S (Stmt.Call m x) = m ∷ []
led S (Stmt.This m x) = m ∷ []
led S (Stmt.Register s) = calls (callbacks_of S s)
led S (Stmt.Publish e) = flat_map (λ listener. calls listener.body) (listeners_of S e)
led S _ = []

-- the methods to which a method leads
unfoldable pub leads : Scenario → MethodNo → List MethodNo
leads S m = flat_map (led S) (body_of S m)

abbrev pub has_method : List MethodNo → MethodNo → Bool
has_method methods n = list_any (λ m. m.0 == n.0) methods

-- to which methods each method leads
abbrev pub Next : Type 0
Next = MethodNo → List MethodNo

abbrev pub LeadsTo : Next → MethodNo → MethodNo → Type 0
LeadsTo next m n = has_method (next m) n ≡ true

-- a way of this many steps, each from a method to one to which it leads
abbrev pub Way : Next → ℕ → MethodNo → MethodNo → Type 0
Way next zero m n = m ≡ n
Way next (suc steps) m n = (through : MethodNo) × LeadsTo next m through × Way next steps through n

-- a method leads to itself in one or more steps
abbrev pub IsOnCycle : Next → MethodNo → Type 0
IsOnCycle next m = (steps : ℕ) × Way next (suc steps) m m

-- no method whose number is below the bound leads to itself
abbrev pub HasNoCycle : Next → ℕ → Type 0
HasNoCycle next bound = (m : MethodNo) → m.0 < bound → ¬ (IsOnCycle next m)

-- a way of so many steps begins at a method, and none from there has more
pub record IsLongestWay (next : Next) (m : MethodNo) (steps : ℕ) : Type 0 where
  pub is_way : (n : MethodNo) × Way next steps m n
  pub none_longer : (more : ℕ) (n : MethodNo) → Way next more m n → more ≤ steps

-- ---- rank

-- one more than the greatest, and 0 where there is none
abbrev pub above : List ℕ → ℕ
above [] = 0
above (r ∷ rs) = max (r + 1) (above rs)

-- the steps of the longest way from a method, of those with at most this many steps
unfoldable pub longest : Next → ℕ → MethodNo → ℕ
longest next zero m = 0
longest next (suc steps) m = above (map (longest next steps) (next m))

-- 0 where the method leads to none, else one more than the greatest rank to which it leads: a way on which no method
-- stands twice has fewer steps than there are methods
abbrev pub rank : Scenario → MethodNo → ℕ
rank S m = longest (leads S) (length S.methods) m

-- ---- size and registrations

abbrev pub no_cost : Cost
no_cost = record { size = 0; registrations = 0 }

-- what a statement costs by itself: one, and no registration
abbrev pub one : Cost
one = record { size = 1; registrations = 0 }

-- one that makes a registration by itself
abbrev pub one_registered : Cost
one_registered = record { size = 1; registrations = 1 }

abbrev pub plus : Cost → Cost → Cost
plus a b = record { size = a.size + b.size; registrations = a.registrations + b.registrations }

abbrev pub total : List Cost → Cost
total [] = no_cost
total (c ∷ cs) = plus c (total cs)

-- a statement of a callback, given what the methods cost
abbrev pub callback_cost : (MethodNo → Cost) → Stmt → Cost
callback_cost of (Stmt.Call m x) = plus one (of m)
callback_cost of _ = one

abbrev pub callbacks_cost : (MethodNo → Cost) → List Stmt → Cost
callbacks_cost of body = total (map (callback_cost of) body)

-- a listener of an event that is published: one registration more than its body
abbrev pub listener_cost : (MethodNo → Cost) → Listener → Cost
listener_cost of listener = plus one_registered (callbacks_cost of listener.body)

-- a statement of a method
abbrev pub statement_cost : Scenario → (MethodNo → Cost) → Stmt → Cost
statement_cost S of (Stmt.Call m x) = plus one (of m)
statement_cost S of (Stmt.This m x) = plus one (of m)
statement_cost S of (Stmt.Register s) = plus one_registered (callbacks_cost of (callbacks_of S s))
statement_cost S of (Stmt.Publish e) = plus one (total (map (listener_cost of) (listeners_of S e)))
statement_cost S of _ = one

-- a method with this body: one more than its statements
abbrev pub body_cost : Scenario → (MethodNo → Cost) → List Stmt → Cost
body_cost S of body = plus one (total (map (statement_cost S of) body))

-- what a method costs, with calls up to this depth
unfoldable pub cost_within : Scenario → ℕ → MethodNo → Cost
cost_within S zero m = no_cost
cost_within S (suc depth) m = body_cost S (cost_within S depth) (body_of S m)

-- what a method costs; calls are never deeper than there are methods
abbrev pub cost : Scenario → MethodNo → Cost
cost S m = cost_within S (length S.methods) m

abbrev pub size : Scenario → MethodNo → ℕ
size S m = (cost S m).size

abbrev pub registrations : Scenario → MethodNo → ℕ
registrations S m = (cost S m).registrations

-- ---- weight

-- U x (1 + R), where U are the sizes and R the registrations of what a client calls
abbrev pub weight_of : Cost → ℕ
weight_of c = c.size * (1 + c.registrations)

abbrev pub client_weight : (MethodNo → Cost) → List MethodNo → ℕ
client_weight of calls = weight_of (total (map of calls))

abbrev pub weight : Scenario → ℕ
weight S = sum (map (client_weight (cost S)) S.clients)

-- ---- what a call graph is made of

-- a statement of a callback: it calls only methods that there are, and is no `this`, `publish` or `register`
abbrev pub CallbackInRange : ℕ → Stmt → Type 0
CallbackInRange methods (Stmt.Call m x) = m.0 < methods
CallbackInRange methods (Stmt.This m x) = ⊥
CallbackInRange methods (Stmt.Publish e) = ⊥
CallbackInRange methods (Stmt.Register s) = ⊥
CallbackInRange methods _ = Unit {0}

abbrev pub CallbacksInRange : ℕ → List Stmt → Type 0
CallbacksInRange methods body = All (CallbackInRange methods) body

-- a statement of a method: it names only methods, events and syncs that there are
abbrev pub StatementInRange : ℕ → ℕ → ℕ → Stmt → Type 0
StatementInRange methods events syncs (Stmt.Call m x) = m.0 < methods
StatementInRange methods events syncs (Stmt.This m x) = m.0 < methods
StatementInRange methods events syncs (Stmt.Publish e) = e.0 < events
StatementInRange methods events syncs (Stmt.Register s) = s.0 < syncs
StatementInRange methods events syncs _ = Unit {0}

abbrev pub BodyInRange : ℕ → ℕ → ℕ → List Stmt → Type 0
BodyInRange methods events syncs body = All (StatementInRange methods events syncs) body

pub record SyncInRange (methods : ℕ) (sync : SyncDecl) : Type 0 where
  pub before_commit : CallbacksInRange methods sync.before_commit
  pub before_completion : CallbacksInRange methods sync.before_completion
  pub after_commit : CallbacksInRange methods sync.after_commit
  pub after_completion : CallbacksInRange methods sync.after_completion

abbrev pub MethodsInRange : ℕ → List MethodNo → Type 0
MethodsInRange methods named = All (λ m. m.0 < methods) named

-- the methods have numbers, and all methods, events and syncs that bodies and clients name are there; rows
-- and classes don't matter here
pub record InRange (S : Scenario) : Type 0 where
  pub few : length S.methods < number_bound
  pub methods : All (λ method. BodyInRange (length S.methods) (length S.events) (length S.syncs) method.body) S.methods
  pub syncs : All (SyncInRange (length S.methods)) S.syncs
  pub listeners : All (λ listener. CallbacksInRange (length S.methods) listener.body) S.listeners
  pub clients : All (MethodsInRange (length S.methods)) S.clients
