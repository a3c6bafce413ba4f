-- What lines open and close: brackets, what a call suspends and resumes, and what is registered and completed.
use Rattle.std.specs.Prelude.{◌≡◌, ℕ, ◌≤◌, ◌==◌, Bool, true, false, if◌then◌else◌, List, [], ◌∷◌, ◌++◌, length, Option, Some, None}
use Rattle.std.specs.List.{filter, fold}
use Rattle.stx_scenario.specs.declared.numbers.MethodNo.{MethodNo}
use Rattle.stx_base.specs.declared.line.Line.{Line}
use Rattle.stx_base.specs.declared.line.Label.{Label}

-- ---- brackets

-- what a line does to what is open: it opens or closes the bracket of a number, or finds all of them closed
pub data Bracket : Type 0 where
  Opens : ℕ → Bracket
  Closes : ℕ → Bracket
  AllClosed : Bracket
  Neither : Bracket

-- what is open after a bracket, the innermost first; none once a bracket was wrong
abbrev pub open_after : Option (List ℕ) → Bracket → Option (List ℕ)
open_after (Some inner) (Opens n) = Some (n ∷ inner)
open_after (Some (m ∷ outer)) (Closes n) = if m == n then Some outer else None
open_after (Some []) (Closes n) = None
open_after (Some []) AllClosed = Some []
open_after (Some (_ ∷ _)) AllClosed = None
open_after (Some inner) Neither = Some inner
open_after None _ = None

-- each bracket is closed, the innermost first
abbrev pub IsBalanced : List Bracket → Type 0
IsBalanced brackets = fold open_after (Some []) brackets ≡ Some []

-- a connection is taken and given; a top-level call begins with nothing taken
abbrev pub connection_bracket : Line → Bracket
connection_bracket (Line.Take (Some c)) = Opens c
connection_bracket (Line.Give c) = Closes c
connection_bracket (Line.Top k) = AllClosed
connection_bracket _ = Neither

-- a transaction begins, and commits or rolls back; a top-level call begins with none open
abbrev pub transaction_bracket : Line → Bracket
transaction_bracket (Line.Begin t) = Opens t
transaction_bracket (Line.Commit t n) = Closes t
transaction_bracket (Line.Rollback t) = Closes t
transaction_bracket (Line.Top k) = AllClosed
transaction_bracket _ = Neither

-- a connection is unbound, and bound again; a top-level call begins with none unbound
abbrev pub binding_bracket : Line → Bracket
binding_bracket (Line.Unbind c) = Opens c
binding_bracket (Line.Bind c) = Closes c
binding_bracket (Line.Top k) = AllClosed
binding_bracket _ = Neither

-- ---- suspension and resumption

abbrev pub same_label : Label → Label → Bool
same_label (Label.Sync s) (Label.Sync r) = s.0 == r.0
same_label (Label.Listener l) (Label.Listener k) = l.0 == k.0
same_label _ _ = false

-- a call that hasn't left, with the labels that it suspended and hasn't resumed yet, in their order
pub record OpenCall : Type 0 where
  pub method : MethodNo
  pub suspended : List Label

-- the first of the labels is resumed, and is this one
abbrev pub resumed_by : MethodNo → List OpenCall → Label → List Label → Option (List OpenCall)
resumed_by m outer l [] = None
resumed_by m outer l (first ∷ labels) = if same_label first l then Some (record { method = m; suspended = labels } ∷ outer) else None

-- a call leaves with no label to resume
abbrev pub left_by : Bool → List OpenCall → List Label → Option (List OpenCall)
left_by true outer [] = Some outer
left_by _ outer _ = None

-- the calls that are open after a line, the innermost first: a call suspends labels, resumes them in the same order, and
-- leaves when it has resumed them all; none once one did otherwise, and a top-level call begins with none open
abbrev pub calls_after : Option (List OpenCall) → Line → Option (List OpenCall)
calls_after None line = None
calls_after (Some calls) (Line.Call m propagation read_only) = Some (record { method = m; suspended = [] } ∷ calls)
calls_after (Some calls) (Line.Plain m) = Some (record { method = m; suspended = [] } ∷ calls)
calls_after (Some calls) (Line.This m) = Some (record { method = m; suspended = [] } ∷ calls)
calls_after (Some (call ∷ outer)) (Line.Suspend l) = Some (record { method = call.method; suspended = call.suspended ++ l ∷ [] } ∷ outer)
calls_after (Some (call ∷ outer)) (Line.Resume l) = resumed_by call.method outer l call.suspended
calls_after (Some (call ∷ outer)) (Line.Leave m x) = left_by (call.method.0 == m.0) outer call.suspended
calls_after (Some (call ∷ outer)) (Line.Top k) = None
calls_after (Some []) (Line.Suspend l) = None
calls_after (Some []) (Line.Resume l) = None
calls_after (Some []) (Line.Leave m x) = None
calls_after (Some calls) _ = Some calls

-- each label that a call suspended is resumed before the call leaves, in the same order, and innermost calls resume first
abbrev pub IsResumedInOrder : List Line → Type 0
IsResumedInOrder lines = fold calls_after (Some []) lines ≡ Some []

-- ---- registrations and completions

-- how many of them pass a test
abbrev pub count : {X : Type 0} → (X → Bool) → List X → ℕ
count passes xs = length (filter passes xs)

abbrev pub is_registering : Label → Line → Bool
is_registering l (Line.Register k) = same_label k l
is_registering l _ = false

abbrev pub is_completing : Label → Line → Bool
is_completing l (Line.AfterCompletion k committed) = same_label k l
is_completing l _ = false

-- the label is completed as often as it was registered, and at no time more often
pub record IsCompletedOnce (l : Label) (lines : List Line) : Type 0 where
  pub all : count (is_completing l) lines ≡ count (is_registering l) lines
  pub never_more : (first rest : List Line) → lines ≡ first ++ rest → count (is_completing l) first ≤ count (is_registering l) first

-- the lines of each top-level call, from its Top line on
abbrev pub calls_from : List Line → List Line → List (List Line)
calls_from call [] = call ∷ []
calls_from call (Line.Top k ∷ lines) = call ∷ calls_from (Line.Top k ∷ []) lines
calls_from call (line ∷ lines) = calls_from (call ++ line ∷ []) lines

abbrev pub top_calls : List Line → List (List Line)
top_calls [] = []
top_calls (line ∷ lines) = calls_from (line ∷ []) lines

-- ---- rollbacks

abbrev pub is_rollback : ℕ → Line → Bool
is_rollback t (Line.Rollback u) = u == t
is_rollback t _ = false
