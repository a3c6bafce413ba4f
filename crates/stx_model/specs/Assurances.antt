-- What a Spring developer wants to be sure of, as laws of the script.
use Rattle.std.specs.Prelude.{◌≡◌, ℕ, true, false, List, [], ◌∷◌, ◌++◌, Option, Some, None, ⊤, slice_get}
use Rattle.stx_scenario.specs.declared.numbers.ClassNo.{ClassNo}
use Rattle.stx_scenario.specs.declared.numbers.MethodNo.{MethodNo}
use Rattle.stx_scenario.specs.declared.scenario.Scenario.{Scenario}
use Rattle.stx_scenario.specs.declared.scenario.Propagation.{Propagation}
use Rattle.stx_scenario.specs.declared.scenario.TxAttr.{TxAttr}
use Rattle.stx_base.specs.declared.manager.Action.{Action}
use Rattle.stx_base.specs.declared.history.StoreNote.{StoreNote}
use Rattle.stx_base.specs.declared.line.Line.{Line}
use Rattle.stx_base.specs.declared.manager.Kind.{Kind}
use Rattle.stx_base.specs.declared.manager.Opening.{Opening}
use Rattle.stx_base.specs.declared.manager.Ending.{Ending}
use Rattle.stx_base.specs.declared.manager.Round.{Round}
use Rattle.stx_model.specs.Contexts.{Context, Live, Registration, with_global_mark}
use Rattle.stx_base.specs.declared.history.Note.{Note}
use Rattle.stx_model.specs.Meanings.{State, Result, Over, Meaning, state_of, finally, hear}
use Rattle.stx_model.specs.Reads.{StartsWith}
use Rattle.stx_model.specs.Rounds.{Calls, round_of, last_round, stopping_round, swallowing_round}
use Rattle.stx_base.specs.Weight.{body_of}
use Rattle.stx_model.specs.Opening.{opening}
use Rattle.stx_model.specs.Scopes.{Scope, acts, completes, intercepted}
use Rattle.stx_model.specs.Script.{body, calls_below}

-- so it is where a piece of a script ends, normally or with an exception
abbrev pub AtEnd : Result → (Option ClassNo → State → Type 0) → Type 0
AtEnd (Over x st) So = So x st
AtEnd _ So = ⊤

-- ---- a joined scope

abbrev pub joined_lines : Ending → List Line
joined_lines Ending.Commit = []
joined_lines _ = Line.MarkGlobal ∷ []

-- the transaction is marked where the ending isn't commit, and nothing else is changed
abbrev pub joined_context : Ending → Context → Context
joined_context Ending.Commit context = context
joined_context _ context = with_global_mark true context

-- what the completion of a joined scope leaves: these lines more, the mark, the local mark of the scope round it, and no
-- note read
pub record OnlyMarks (scope : Scope) (e : Ending) (x : Option ClassNo) (st after : State) : Type 0 where
  pub lines : after.lines ≡ st.lines ++ (joined_lines e ++ Line.Leave scope.method x ∷ [])
  pub context : after.context ≡ joined_context e st.context
  pub local : after.local ≡ scope.outer
  pub pool : after.pool ≡ st.pool
  pub store : after.store ≡ st.store

-- the completion of a joined scope is always over, with what its body threw: between its End line and its Leave line it
-- says nothing but that it marks the transaction, and it marks it only where its ending isn't commit
abbrev pub JoinedScopesOnlyMark : Type 0
JoinedScopesOnlyMark =
    (S : Scenario) (calls : Calls) (scope : Scope) (e : Ending) (x : Option ClassNo) (st : State) → scope.kind ≡ Kind.Join
    → (after : State) × (completes S calls scope e x st ≡ Over x after) × OnlyMarks scope e x st after

-- ---- requires_new

-- a call of a method with propagation requires_new leaves the transaction round it as it was, with its mark and its
-- registrations, and the local mark of the scope round it, whatever happens inside
abbrev pub RequiresNewStandsApart : Type 0
RequiresNewStandsApart =
    (S : Scenario) (calls : Calls) (m : MethodNo) (a : TxAttr) (run : Meaning) (st : State) → a.propagation ≡ Propagation.RequiresNew
    → AtEnd (intercepted S calls m a run st) (λ x after. (after.context ≡ st.context) × (after.local ≡ st.local))

-- ---- after_commit

-- an exception of an after_commit callback comes too late to undo anything: where the rounds before the store's commit
-- ended, the store committed and a callback of the after_commit round throws y, what is left of the scope is the
-- after_completion round, which is told committed, the give and the resumption
abbrev pub AfterCommitComesTooLate : Type 0
AfterCommitComesTooLate =
    (S : Scenario) (calls : Calls) (scope : Scope) (x z : Option ClassNo) (y : ClassNo) (live : Live) (number : ℕ) (st before completed after : State)
    → scope.kind ≡ Kind.Fresh
    → round_of scope.owns (stopping_round S calls Round.BeforeCommit) st ≡ Over None before
    → round_of scope.owns (swallowing_round S calls Round.BeforeCompletion false) before ≡ Over z completed
    → completed.context.tx ≡ Some live
    → slice_get completed.store 0 ≡ Some (StoreNote.Commit live.transaction number)
    → round_of scope.owns (stopping_round S calls Round.AfterCommit) (hear (Note.Store (StoreNote.Commit live.transaction number)) completed) ≡ Over (Some y) after
    → completes S calls scope Ending.Commit x st
    ≡ finally (last_round S calls scope.owns true after) (λ _. acts S calls scope (Action.GiveBack ∷ Action.Resumption ∷ []) (Some y))

-- and the call leaves with that class
abbrev pub AfterCommitThrowsToTheCaller : Type 0
AfterCommitThrowsToTheCaller =
    (S : Scenario) (calls : Calls) (scope : Scope) (y : ClassNo) (after : State)
    → AtEnd (finally (last_round S calls scope.owns true after) (λ _. acts S calls scope (Action.GiveBack ∷ Action.Resumption ∷ []) (Some y))) (λ x end. x ≡ Some y)

-- a commit stays said: where the rounds before the store's commit ended and the store committed, the lines of the
-- completion, whatever its end, begin with those before the commit and the line of the commit
abbrev pub CommittedStaysSaid : Type 0
CommittedStaysSaid =
    (S : Scenario) (bound : ℕ) (scope : Scope) (x z : Option ClassNo) (live : Live) (number : ℕ) (st before completed : State)
    → scope.kind ≡ Kind.Fresh
    → round_of scope.owns (stopping_round S (calls_below S bound) Round.BeforeCommit) st ≡ Over None before
    → round_of scope.owns (swallowing_round S (calls_below S bound) Round.BeforeCompletion false) before ≡ Over z completed
    → completed.context.tx ≡ Some live
    → slice_get completed.store 0 ≡ Some (StoreNote.Commit live.transaction number)
    → StartsWith (state_of (completes S (calls_below S bound) scope Ending.Commit x st)).lines (completed.lines ++ Line.Commit live.transaction number ∷ [])

-- ---- contexts

-- registrations may have been added at the end
abbrev pub IsExtended : Option (List Registration) → Option (List Registration) → Type 0
IsExtended (Some before) after = (more : List Registration) × (after ≡ Some (before ++ more))
IsExtended None after = after ≡ None

-- the same connection and transaction, and a mark that was set is still set
pub record IsSameTransaction (before after : Live) : Type 0 where
  pub connection : after.connection ≡ before.connection
  pub transaction : after.transaction ≡ before.transaction
  pub read_only : after.read_only ≡ before.read_only
  pub mark : before.mark ≡ true → after.mark ≡ true

abbrev pub MayBeMarked : Option Live → Option Live → Type 0
MayBeMarked (Some before) after = (live : Live) × (after ≡ Some live) × IsSameTransaction before live
MayBeMarked None after = after ≡ None

-- what a body may have done to its context
pub record IsKept (before after : Context) : Type 0 where
  pub tx : MayBeMarked before.tx after.tx
  pub syncs : IsExtended before.syncs after.syncs

-- the transaction as it was, and perhaps registrations at the end
pub record IsOnlyExtended (before after : Context) : Type 0 where
  pub tx : after.tx ≡ before.tx
  pub syncs : IsExtended before.syncs after.syncs

-- how a call that opened so leaves the context: a joined scope may have marked the transaction, and a joined scope, a
-- point and an empty scope that owns no synchronisation and suspended nothing may have added registrations
abbrev pub LeavesContext : Opening → Context → Context → Type 0
LeavesContext Opening.Join before after = IsKept before after
LeavesContext Opening.Point before after = IsOnlyExtended before after
LeavesContext (Opening.Empty false false) before after = IsOnlyExtended before after
LeavesContext _ before after = after ≡ before

-- after a call of a method with an attribute, however it ends, the context is the one before it, but for that, and the
-- scope round it has the local mark that it had
abbrev pub CallsLeaveTheContext : Type 0
CallsLeaveTheContext =
    (S : Scenario) (bound : ℕ) (m : MethodNo) (a : TxAttr) (st : State)
    → AtEnd (intercepted S (calls_below S bound) m a (body S (calls_below S bound) (body_of S m)) st)
    (λ x after. LeavesContext (opening S.settings a st.context) st.context after.context × (after.local ≡ st.local))
