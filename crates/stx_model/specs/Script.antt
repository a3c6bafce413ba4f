-- The script: what a client's calls denote, given what its own shared calls were answered.
-- How a method is called inside another is a parameter, `calls`, and is closed once, by the ranks of methods, at the end.
-- (Spring: the reference's 'Declarative Transaction Management'; TransactionalApplicationListenerMethodAdapter.)
use Rattle.std.specs.Prelude.{ℕ, zero, suc, ◌+◌, true, false, ◌==◌, List, [], ◌∷◌, Option, Some, None, slice_get, unwrap_or}
use Rattle.stx_scenario.specs.declared.numbers.MethodNo.{MethodNo}
use Rattle.stx_scenario.specs.declared.numbers.EventNo.{EventNo}
use Rattle.stx_scenario.specs.declared.scenario.Scenario.{Scenario}
use Rattle.stx_scenario.specs.declared.scenario.Stmt.{Stmt}
use Rattle.stx_scenario.specs.declared.scenario.TxAttr.{TxAttr}
use Rattle.stx_base.specs.declared.call.Want.{Want}
use Rattle.stx_base.specs.declared.history.PoolNote.{PoolNote}
use Rattle.stx_base.specs.declared.history.StoreNote.{StoreNote}
use Rattle.stx_base.specs.declared.line.Line.{Line}
use Rattle.stx_base.specs.Attributes.{attribute}
use Rattle.stx_base.specs.Weight.{body_of, rank}
use Rattle.stx_model.specs.Contexts.{is_active, is_live}
use Rattle.stx_model.specs.Listeners.{Deed, Register, RunNow, Skip, deeds}
use Rattle.stx_model.specs.Meanings.{at_first, Result, Over, Stops, Breaks, Meaning, and_then, finally, say}
use Rattle.stx_model.specs.Statements.{caught, marks, register_sync, register_listener}
use Rattle.stx_model.specs.Rounds.{Calls, callback_statement, listens, Proxied, Direct}
use Rattle.stx_model.specs.Scopes.{leaves, intercepted}

module _ (S : Scenario) (calls : Calls) where
  -- ---- bodies

  -- the listeners of a publication, one after the other, up to the first that throws
  unfoldable pub deals : List Deed → Meaning
  deals [] st = Over None st
  deals (Register l ∷ later) st = and_then (register_listener S l st) (deals later)
  deals (RunNow l ∷ later) st = and_then (listens S calls l (slice_get S.listeners l.0) st) (deals later)
  deals (Skip l ∷ later) st = deals later (say (Line.Skip l) st)

  abbrev pub publishes : EventNo → Meaning
  publishes e st = deals (deeds S e (is_active st.context) (is_live st.context)) (say (Line.Publish e) st)

  -- a statement of a method
  unfoldable pub statement : Stmt → Meaning
  statement Stmt.Mark st = marks st.local st
  statement (Stmt.Register s) st = register_sync S s st
  statement (Stmt.Publish e) st = publishes e st
  statement (Stmt.This m catch) st = finally (calls Direct m st) (caught S catch)
  statement s st = callback_statement S calls s st

  -- the statements in order, up to the first that throws
  unfoldable pub body : List Stmt → Meaning
  body [] st = Over None st
  body (s ∷ statements) st = and_then (statement s st) (body statements)

  -- ---- calls

  -- a call that opens no scope: its first line, the body in its caller's context, and its end
  abbrev pub unscoped : Line → MethodNo → Meaning
  unscoped line m st = finally (body (body_of S m) (say line st)) (leaves m)

  -- through the proxy a method with an attribute is intercepted
  abbrev pub proxied : MethodNo → Option TxAttr → Meaning
  proxied m (Some a) st = intercepted S calls m a (body (body_of S m)) st
  proxied m None st = unscoped (Line.Plain m) m st

  -- a call of a method of the same bean never is
  unfoldable pub invoked : Calls
  invoked Proxied m st = proxied m (attribute S m) st
  invoked Direct m st = unscoped (Line.This m) m st

-- ---- the whole

-- calls of methods whose rank is below a bound; inside a method only those below its own rank are called
unfoldable pub calls_below : Scenario → ℕ → Calls
calls_below S zero way m st = Breaks st
calls_below S (suc bound) way m st =
    elim (rank S m == bound) [ true ↦ invoked S (calls_below S bound) way m st | false ↦ calls_below S bound way m st ]

-- a client may call every method: ranks are at most 64
abbrev pub invoke : Scenario → MethodNo → Meaning
invoke S m st = calls_below S 65 Proxied m st

-- a client's calls from place k on; what one of them throws goes no further
unfoldable pub tops : Scenario → ℕ → List MethodNo → Meaning
tops S k [] st = Stops Want.Done st
tops S k (m ∷ calls) st = finally (invoke S m (say (Line.Top k) st)) (λ _. tops S (k + 1) calls)

-- the calls of a client
abbrev pub calls_of : Scenario → ℕ → List MethodNo
calls_of S c = unwrap_or (slice_get S.clients c) []

-- the script of client c over its notes of the pool and of the store
unfoldable pub script : Scenario → ℕ → List PoolNote → List StoreNote → Result
script S c pool store = tops S 0 (calls_of S c) (at_first pool store)
