-- Intercepted calls: suspension and resumption, the opening of a scope, its end and its completion.
-- (Spring: TransactionAspectSupport.invokeWithinTransaction, AbstractPlatformTransactionManager.)
use Rattle.std.specs.Prelude.{ℕ, Bool, true, false, List, [], ◌∷◌, Option, Some, None}
use Rattle.stx_scenario.specs.declared.numbers.ClassNo.{ClassNo}
use Rattle.stx_scenario.specs.declared.numbers.MethodNo.{MethodNo}
use Rattle.stx_scenario.specs.declared.classes.TheConstants.{CANNOT_CREATE_TRANSACTION_EXCEPTION, UNEXPECTED_ROLLBACK_EXCEPTION}
use Rattle.stx_scenario.specs.declared.scenario.Scenario.{Scenario}
use Rattle.stx_scenario.specs.declared.scenario.Rule.{Rule}
use Rattle.stx_scenario.specs.declared.scenario.TxAttr.{TxAttr}
use Rattle.stx_base.specs.declared.manager.Action.{Action}
use Rattle.stx_base.specs.declared.call.Want.{Want}
use Rattle.stx_base.specs.declared.line.Line.{Line}
use Rattle.stx_base.specs.declared.line.Label.{Label}
use Rattle.stx_base.specs.declared.manager.Kind.{Kind}
use Rattle.stx_base.specs.declared.manager.Opening.{Opening}
use Rattle.stx_base.specs.declared.manager.Ending.{Ending}
use Rattle.stx_base.specs.declared.manager.Round.{Round}
use Rattle.stx_base.specs.Rules.{winner, rolls_back}
use Rattle.stx_model.specs.Contexts.{Context, Live, Registration, bare, ordered_labels, with_global_mark}
use Rattle.stx_model.specs.Opening.{opening}
use Rattle.stx_model.specs.Ending.{ending, has_before_commit, completion, completion_after}
use Rattle.stx_model.specs.Meanings.{State, Over, Breaks, Meaning, finally, say, with_context, with_local, ask, on_take, on_begin}
use Rattle.stx_model.specs.Rounds.{Calls, stopping_round, swallowing_round, round_of, last_round}

-- ---- suspension and resumption (AbstractPlatformTransactionManager.suspend, resume)

-- each of the labels in order
abbrev pub say_each : (Label → Line) → List Label → State → State
say_each line [] st = st
say_each line (l ∷ ls) st = say_each line ls (say (line l) st)

abbrev pub say_unbind : Option Live → State → State
say_unbind (Some live) st = say (Line.Unbind live.connection) st
say_unbind None st = st

abbrev pub say_bind : Option Live → State → State
say_bind (Some live) st = say (Line.Bind live.connection) st
say_bind None st = st

-- each registration is told, and then the connection is unbound; the context is bare
abbrev pub suspend : State → State
suspend st = with_context bare (say_unbind st.context.tx (say_each Line.Suspend (ordered_labels st.context.syncs) st))

-- the context is the older one again: its connection is bound, and each of its registrations is told
abbrev pub resume : Context → State → State
resume older st = say_each Line.Resume (ordered_labels older.syncs) (say_bind older.tx (with_context older st))

-- where there is an older context, it is there again
abbrev pub resumed : Option Context → State → State
resumed (Some older) st = resume older st
resumed None st = st

abbrev pub suspended : Bool → State → State
suspended true st = suspend st
suspended false st = st

abbrev pub older_if : Bool → Context → Option Context
older_if true context = Some context
older_if false context = None

-- ---- scopes

-- what one intercepted call has at the manager (TransactionStatus): whose call it is, of which kind, whether it owns
-- synchronisation, the context that it gives back at its end, if it suspended one or began its own transaction, and the
-- local mark of the scope round it
pub record Scope : Type 0 where
  pub method : MethodNo
  pub kind : Kind
  pub owns : Bool
  pub older : Option Context
  pub outer : Option Bool

-- how a call ends: normally, or with what was thrown
abbrev pub leaves : MethodNo → Option ClassNo → Meaning
leaves m x st = Over x (say (Line.Leave m x) st)

-- with the live transaction
abbrev pub live_in : Option Live → (Live → Meaning) → Meaning
live_in (Some live) next st = next live st
live_in None next st = Breaks st

-- the later exception, if there is one, else the earlier
abbrev pub later_or : Option ClassNo → Option ClassNo → Option ClassNo
later_or (Some y) x = Some y
later_or None x = x

-- an owner starts with an empty list of registrations; any other scope leaves what is there
abbrev pub started_syncs : Bool → Option (List Registration) → Option (List Registration)
started_syncs true syncs = Some []
started_syncs false syncs = syncs

abbrev pub fresh_context : ℕ → ℕ → Bool → Bool → Context
fresh_context connection transaction read_only owns =
    record {
      tx = Some (record { connection = connection; transaction = transaction; read_only = read_only; mark = false });
      syncs = started_syncs owns None;
    }

-- ---- rules

-- whether the rules say rollback, where the body threw
abbrev pub rolls : Scenario → List Rule → Option ClassNo → Bool
rolls S rules None = false
rolls S rules (Some x) = rolls_back S.classes rules x.0

-- where the body threw, what the rules decide, and which of them won (RuleBasedTransactionAttribute.rollbackOn)
abbrev pub ruled : Scenario → List Rule → Option ClassNo → State → State
ruled S rules None st = st
ruled S rules (Some x) st = say (Line.Rules (rolls_back S.classes rules x.0) (winner S.classes rules x.0)) st

abbrev pub is_set : Option Bool → Bool
is_set (Some local) = local
is_set None = false

module _ (S : Scenario) (calls : Calls) where
  -- ---- completion

  -- the actions of a completion, with the exception that the call leaves with so far
  unfoldable pub acts : Scope → List Action → Option ClassNo → Meaning
  acts scope [] x st = leaves scope.method x (with_local scope.outer st)
  acts scope (Action.RoundBeforeCompletion ∷ rest) x st =
      finally (round_of scope.owns (swallowing_round S calls Round.BeforeCompletion false) st) (λ _. acts scope rest x)
  acts scope (Action.RoundAfterCommit ∷ rest) x st =
      finally (round_of scope.owns (stopping_round S calls Round.AfterCommit) st) (λ y. acts scope rest (later_or y x))
  acts scope (Action.RoundAfterCompletion committed ∷ rest) x st = finally (last_round S calls scope.owns committed st) (λ _. acts scope rest x)
  acts scope (Action.CommitStore ∷ rest) x st =
      live_in st.context.tx (λ live. ask (Want.Commit live.transaction) (λ _. acts scope rest x)) st
  acts scope (Action.RollbackStore ∷ rest) x st =
      live_in st.context.tx (λ live. ask (Want.Rollback live.transaction) (λ _. acts scope rest x)) st
  acts scope (Action.BackToPoint ∷ rest) x st =
      live_in st.context.tx (λ live. ask (Want.BackTo live.transaction) (λ _ back. acts scope rest x (with_context (with_global_mark false back.context) back))) st
  acts scope (Action.ReleasePoint ∷ rest) x st =
      live_in st.context.tx (λ live. ask (Want.Release live.transaction) (λ _. acts scope rest x)) st
  acts scope (Action.MarkGlobally ∷ rest) x st = acts scope rest x (say Line.MarkGlobal (with_context (with_global_mark true st.context) st))
  acts scope (Action.ThrowUnexpected ∷ rest) x st =
      acts scope rest (Some UNEXPECTED_ROLLBACK_EXCEPTION) (say (Line.Throw UNEXPECTED_ROLLBACK_EXCEPTION) st)
  acts scope (Action.GiveBack ∷ rest) x st = live_in st.context.tx (λ live. ask (Want.Give live.connection) (λ _. acts scope rest x)) st
  acts scope (Action.Resumption ∷ rest) x st = acts scope rest x (resumed scope.older st)

  -- the before_commit round, where there is one, and then the actions; an exception of the round is the call's
  unfoldable pub completes : Scope → Ending → Option ClassNo → Meaning
  completes scope e x st =
      elim (has_before_commit scope.kind e) [
        | true ↦ finally (round_of scope.owns (stopping_round S calls Round.BeforeCommit) st)
            (λ y. acts scope (completion_after scope.kind e y) (later_or y x))
        | false ↦ acts scope (completion scope.kind e) x st
      ]

  -- the end of a scope whose body threw this or nothing
  unfoldable pub ends : Scope → TxAttr → Option ClassNo → Meaning
  ends scope a x st =
      let e = ending scope.kind (rolls S a.rules x) (is_set st.local) st.context in
      completes scope e x (say (Line.End e) (ruled S a.rules x st))

  -- ---- intercepted calls

  -- an open scope: its body, and then its end
  unfoldable pub in_scope : Scope → TxAttr → Meaning → Meaning
  in_scope scope a run st = finally (run (with_local (Some false) (say (Line.Opened scope.kind scope.owns) st))) (ends scope a)

  -- a scope that has suspended nothing, in the context that is there
  abbrev pub within : MethodNo → Kind → TxAttr → Meaning → Meaning
  within m kind a run st = in_scope (record { method = m; kind = kind; owns = false; older = None; outer = st.local }) a run st

  -- begins a transaction on the connection (DataSourceTransactionManager.doBegin); where the pool was empty what was
  -- suspended is resumed, and the call is refused (CannotCreateTransactionException)
  unfoldable pub begins : MethodNo → TxAttr → Meaning → Bool → Context → Option ℕ → Meaning
  begins m a run owns older (Some c) st =
      ask Want.Begin (on_begin (λ t begun. in_scope (record { method = m; kind = Kind.Fresh; owns = owns; older = Some older; outer = begun.local })
      a run (with_context (fresh_context c t a.read_only owns) begun))) st
  begins m a run owns older None st =
      leaves m (Some CANNOT_CREATE_TRANSACTION_EXCEPTION) (say (Line.Throw CANNOT_CREATE_TRANSACTION_EXCEPTION) (resume older st))

  -- an empty scope, which may own synchronisation
  abbrev pub empty : MethodNo → TxAttr → Meaning → Bool → Option Context → Meaning
  empty m a run owns older st =
      in_scope (record { method = m; kind = Kind.Empty; owns = owns; older = older; outer = st.local }) a run
      (with_context (record { tx = st.context.tx; syncs = started_syncs owns st.context.syncs }) st)

  -- what an opening does
  unfoldable pub opens : MethodNo → TxAttr → Meaning → Opening → Meaning
  opens m a run (Opening.Refuse x) st = leaves m (Some x) (say (Line.Throw x) st)
  opens m a run (Opening.Fresh suspends owns) st = ask Want.Take (on_take (begins m a run owns st.context)) (suspended suspends st)
  opens m a run Opening.Join st = within m Kind.Join a run st
  opens m a run Opening.Point st = live_in st.context.tx (λ live. ask (Want.Point live.transaction) (λ _. within m Kind.Point a run)) st
  opens m a run (Opening.Empty suspends owns) st = empty m a run owns (older_if suspends st.context) (suspended suspends st)

  -- a call of a method with this attribute, whose body means `run` (TransactionAspectSupport.invokeWithinTransaction)
  unfoldable pub intercepted : MethodNo → TxAttr → Meaning → Meaning
  intercepted m a run st = opens m a run (opening S.settings a st.context) (say (Line.Call m a.propagation a.read_only) st)
