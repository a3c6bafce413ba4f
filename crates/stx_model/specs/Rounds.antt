-- Callbacks: what their bodies hold, and the four rounds in which the registrations are called back.
-- How a method is called is a parameter.
-- (Spring: TransactionSynchronizationUtils, TransactionalApplicationListenerSynchronization.)
use Rattle.std.specs.Prelude.{Bool, true, false, List, [], ◌∷◌, Option, Some, None, slice_get}
use Rattle.stx_scenario.specs.declared.numbers.ClassNo.{ClassNo}
use Rattle.stx_scenario.specs.declared.numbers.MethodNo.{MethodNo}
use Rattle.stx_scenario.specs.declared.numbers.ListenerNo.{ListenerNo}
use Rattle.stx_scenario.specs.declared.scenario.Scenario.{Scenario}
use Rattle.stx_scenario.specs.declared.scenario.Listener.{Listener}
use Rattle.stx_scenario.specs.declared.scenario.Stmt.{Stmt}
use Rattle.stx_scenario.specs.declared.scenario.SyncDecl.{SyncDecl}
use Rattle.stx_base.specs.declared.line.Line.{Line}
use Rattle.stx_base.specs.declared.line.Label.{Label}
use Rattle.stx_base.specs.declared.manager.Round.{Round}
use Rattle.stx_model.specs.Contexts.{Registration, registered, ordered, without_syncs}
use Rattle.stx_model.specs.Listeners.{runs_in}
use Rattle.stx_model.specs.Meanings.{State, Over, Breaks, Meaning, and_then, finally, say, with_context}
use Rattle.stx_model.specs.Statements.{throws, caught, row_statement}

-- ---- how methods are called

-- a call through the proxy, or one of the same bean
pub data Way : Type 0 where
  Proxied : Way
  Direct : Way

-- how a method is called
abbrev pub Calls : Type 0
Calls = Way → MethodNo → Meaning

-- ---- what a registration does in a round

-- the body of a synchronisation for a round
abbrev pub sync_body : Round → Option SyncDecl → List Stmt
sync_body Round.BeforeCommit (Some sync) = sync.before_commit
sync_body Round.BeforeCompletion (Some sync) = sync.before_completion
sync_body Round.AfterCommit (Some sync) = sync.after_commit
sync_body Round.AfterCompletion (Some sync) = sync.after_completion
sync_body _ None = []

-- the line of a callback; the status is told in the after_completion round
abbrev pub callback_line : Round → Bool → Label → Line
callback_line Round.BeforeCommit committed l = Line.BeforeCommit l
callback_line Round.BeforeCompletion committed l = Line.BeforeCompletion l
callback_line Round.AfterCommit committed l = Line.AfterCommit l
callback_line Round.AfterCompletion committed l = Line.AfterCompletion l committed

-- the exception of a callback goes no further
abbrev pub swallows : Option ClassNo → State → State
swallows None st = st
swallows (Some x) st = say (Line.Swallow x) st

-- a round is over a snapshot of the registrations by order value, and only where the scope owns synchronisation
abbrev pub round_of : Bool → (List Registration → Meaning) → Meaning
round_of owns round st = elim owns [ true ↦ round (ordered (registered st.context.syncs)) st | false ↦ Over None st ]

module _ (S : Scenario) (calls : Calls) where
  -- ---- callbacks

  -- a statement that a callback may hold: on rows, `throw` and `call`
  unfoldable pub callback_statement : Stmt → Meaning
  callback_statement (Stmt.Read k) st = row_statement st.context.tx (Stmt.Read k) st
  callback_statement (Stmt.Write k v) st = row_statement st.context.tx (Stmt.Write k v) st
  callback_statement (Stmt.Erase k) st = row_statement st.context.tx (Stmt.Erase k) st
  callback_statement (Stmt.Add k n) st = row_statement st.context.tx (Stmt.Add k n) st
  callback_statement (Stmt.Need k n) st = row_statement st.context.tx (Stmt.Need k n) st
  callback_statement (Stmt.Throw x) st = throws x st
  callback_statement (Stmt.Call m catch) st = finally (calls Proxied m st) (caught S catch)
  callback_statement _ st = Breaks st

  -- the statements in order, up to the first that throws
  unfoldable pub callback : List Stmt → Meaning
  callback [] st = Over None st
  callback (s ∷ body) st = and_then (callback_statement s st) (callback body)

  -- a listener's body, in the context as it is
  abbrev pub listens : ListenerNo → Option Listener → Meaning
  listens l (Some listener) st = callback listener.body (say (Line.Listen l) st)
  listens l None st = Over None st

  -- ---- rounds (TransactionSynchronizationUtils)

  -- a registered listener runs in the round of its phase, and does nothing in the others
  abbrev pub listens_in : Round → Bool → ListenerNo → Option Listener → Meaning
  listens_in round committed l (Some listener) st =
      elim (runs_in listener.phase round committed) [ true ↦ listens l (Some listener) st | false ↦ Over None st ]
  listens_in round committed l None st = Over None st

  abbrev pub called_back : Round → Bool → Label → Meaning
  called_back round committed (Label.Sync s) st = callback (sync_body round (slice_get S.syncs s.0)) st
  called_back round committed (Label.Listener l) st = listens_in round committed l (slice_get S.listeners l.0) st

  -- one registration's callback
  unfoldable pub told : Round → Bool → Registration → Meaning
  told round committed r st = called_back round committed r.label (say (callback_line round committed r.label) st)

  -- before_commit and after_commit: the first exception ends the round
  unfoldable pub stopping_round : Round → List Registration → Meaning
  stopping_round round [] st = Over None st
  stopping_round round (r ∷ later) st = and_then (told round true r st) (stopping_round round later)

  -- before_completion and after_completion: each exception is swallowed, and the round goes on
  unfoldable pub swallowing_round : Round → Bool → List Registration → Meaning
  swallowing_round round committed [] st = Over None st
  swallowing_round round committed (r ∷ later) st =
      finally (told round committed r st) (λ x after. swallowing_round round committed later (swallows x after))

  -- before the after_completion round the registrations are taken out of the context, and the round tells those that
  -- were there
  abbrev pub last_round : Bool → Bool → Meaning
  last_round owns committed st =
      elim owns [
        | true ↦ swallowing_round Round.AfterCompletion committed (ordered (registered st.context.syncs)) (with_context (without_syncs st.context) st)
        | false ↦ Over None st
      ]
