-- What the rows of a call graph hold: lists of methods, each method once, in the order in which they come.
use Rattle.std.specs.Prelude.{◌≡◌, ℕ, ◌<◌, Bool, false, ◌==◌, cond, List, [], ◌∷◌, ◌++◌, length, slice_index_or, fold}
use Rattle.std.specs.List.{All, count_by, flat_map}
use Rattle.stx_scenario.specs.declared.numbers.MethodNo.{MethodNo}
use Rattle.stx_scenario.specs.declared.scenario.Scenario.{Scenario}
use Rattle.stx_scenario.specs.declared.scenario.Listener.{Listener}
use Rattle.stx_scenario.specs.declared.scenario.SyncDecl.{SyncDecl}
use Rattle.stx_scenario.specs.declared.scenario.Stmt.{Stmt}
use Rattle.stx_base.specs.Weight.{has_method, calls, callbacks_of, listeners_of, leads, MethodsInRange, Next}

-- the flags say which methods are in the list; each is in it once
pub record IsMarked (has : List Bool) (order : List MethodNo) : Type 0 where
  pub tells : (m : MethodNo) → m.0 < length has → slice_index_or has m.0 false ≡ has_method order m
  pub within : MethodsInRange (length has) order
  pub few : length order ≡ count_by (λ flag. flag) has

-- the method at the end, unless it is there
abbrev pub with_method : List MethodNo → MethodNo → List MethodNo
with_method methods m = cond (has_method methods m) methods (methods ++ m ∷ [])

-- and what a statement of a callback calls
abbrev pub with_called : List MethodNo → Stmt → List MethodNo
with_called methods (Stmt.Call m x) = with_method methods m
with_called methods _ = methods

-- and what a listener of this event calls
abbrev pub with_listener : ℕ → List MethodNo → Listener → List MethodNo
with_listener event methods listener = cond (listener.event.0 == event) (fold with_called methods listener.body) methods

-- what the callbacks of a sync call
abbrev pub sync_order : SyncDecl → List MethodNo
sync_order sync = fold with_called (fold with_called (fold with_called (fold with_called [] sync.before_commit) sync.before_completion) sync.after_commit) sync.after_completion

-- the row with a number
abbrev pub row_at : List (List MethodNo) → ℕ → List MethodNo
row_at rows n = slice_index_or rows n []

-- and what a statement of a method leads to, given the rows of events and syncs
abbrev pub with_led : List (List MethodNo) → List (List MethodNo) → List MethodNo → Stmt → List MethodNo
with_led events syncs methods (Stmt.Call m x) = with_method methods m
with_led events syncs methods (Stmt.This m x) = with_method methods m
with_led events syncs methods (Stmt.Publish e) = fold with_method methods (row_at events e.0)
with_led events syncs methods (Stmt.Register s) = fold with_method methods (row_at syncs s.0)
with_led events syncs methods _ = methods

-- the same methods are in both lists
pub record Same (xs ys : List MethodNo) : Type 0 where
  pub tells : (m : MethodNo) → has_method xs m ≡ has_method ys m

abbrev pub RowsInRange : ℕ → List (List MethodNo) → Type 0
RowsInRange bound rows = All (MethodsInRange bound) rows

-- so many rows, each with exactly the methods that are asked for
pub record AreRows (count bound : ℕ) (of : ℕ → List MethodNo) (rows : List (List MethodNo)) : Type 0 where
  pub whole : length rows ≡ count
  pub range : RowsInRange bound rows
  pub same : (n : ℕ) → n < count → Same (row_at rows n) (of n)

-- what the listeners of an event call
abbrev pub event_calls : Scenario → ℕ → List MethodNo
event_calls S n = flat_map (λ listener. calls listener.body) (listeners_of S (record { 0 = n }))

-- what the callbacks of a sync call
abbrev pub sync_calls : Scenario → ℕ → List MethodNo
sync_calls S n = calls (callbacks_of S (record { 0 = n }))

abbrev pub EventRows : Scenario → List (List MethodNo) → Type 0
EventRows S rows = AreRows (length S.events) (length S.methods) (event_calls S) rows

abbrev pub SyncRows : Scenario → List (List MethodNo) → Type 0
SyncRows S rows = AreRows (length S.syncs) (length S.methods) (sync_calls S) rows

-- a row for each method: those to which it leads
abbrev pub MethodRows : Scenario → List (List MethodNo) → Type 0
MethodRows S rows = AreRows (length S.methods) (length S.methods) (λ n. leads S (record { 0 = n })) rows

abbrev pub next_in : List (List MethodNo) → Next
next_in rows m = row_at rows m.0
