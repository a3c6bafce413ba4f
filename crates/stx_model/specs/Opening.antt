-- The opening of a scope: what the manager does first, by the attribute's propagation and the context that it meets.
-- (Spring: AbstractPlatformTransactionManager.getTransaction without a transaction, handleExistingTransaction within one;
-- the reference's 'Transaction Propagation'.)
use Rattle.std.specs.Prelude.{Bool, true, false, not, Option, Some, None}
use Rattle.stx_scenario.specs.declared.classes.TheConstants.{CANNOT_CREATE_TRANSACTION_EXCEPTION, ILLEGAL_TRANSACTION_STATE_EXCEPTION, NESTED_TRANSACTION_NOT_SUPPORTED_EXCEPTION}
use Rattle.stx_scenario.specs.declared.scenario.Propagation.{Propagation}
use Rattle.stx_scenario.specs.declared.scenario.Settings.{Settings}
use Rattle.stx_scenario.specs.declared.scenario.SyncMode.{SyncMode}
use Rattle.stx_scenario.specs.declared.scenario.TxAttr.{TxAttr}
use Rattle.stx_base.specs.declared.manager.Opening.{Opening}
use Rattle.stx_model.specs.Contexts.{Context, Live, is_active}

-- ---- who owns synchronisation (newTransactionStatus, prepareSynchronization)

-- a fresh scope owns it where the mode isn't never
abbrev pub owns_fresh : SyncMode → Bool
owns_fresh SyncMode.Never = false
owns_fresh _ = true

-- an empty scope owns it in the mode always alone, where none is active yet
abbrev pub owns_empty : SyncMode → Bool → Bool
owns_empty SyncMode.Always active = not active
owns_empty _ active = false

-- ---- the cells of the table

abbrev pub opens_fresh : Settings → Bool → Opening
opens_fresh settings suspends = Opening.Fresh suspends (owns_fresh settings.mode)

-- an empty scope that suspends nothing leaves active synchronisation as it is
abbrev pub opens_empty : Settings → Context → Opening
opens_empty settings context = Opening.Empty false (owns_empty settings.mode (is_active context))

-- after its suspension no synchronisation is active
abbrev pub opens_empty_apart : Settings → Opening
opens_empty_apart settings = Opening.Empty true (owns_empty settings.mode false)

-- a savepoint, where the manager allows nested transactions and the transaction isn't marked for rollback
abbrev pub opens_point : Settings → Live → Opening
opens_point settings live =
    elim settings.nested [
      | false ↦ Opening.Refuse NESTED_TRANSACTION_NOT_SUPPORTED_EXCEPTION
      | true ↦ elim live.mark [ true ↦ Opening.Refuse CANNOT_CREATE_TRANSACTION_EXCEPTION | false ↦ Opening.Point ]
    ]

-- ---- the table

-- no transaction is live: a fresh scope suspends active synchronisation, if there is any
abbrev pub opening_without : Settings → Context → Propagation → Opening
opening_without settings context Propagation.Required = opens_fresh settings (is_active context)
opening_without settings context Propagation.Supports = opens_empty settings context
opening_without settings context Propagation.Mandatory = Opening.Refuse ILLEGAL_TRANSACTION_STATE_EXCEPTION
opening_without settings context Propagation.RequiresNew = opens_fresh settings (is_active context)
opening_without settings context Propagation.NotSupported = opens_empty settings context
opening_without settings context Propagation.Never = opens_empty settings context
opening_without settings context Propagation.Nested = opens_fresh settings (is_active context)

-- a transaction is live
abbrev pub opening_within : Settings → Live → Propagation → Opening
opening_within settings live Propagation.Required = Opening.Join
opening_within settings live Propagation.Supports = Opening.Join
opening_within settings live Propagation.Mandatory = Opening.Join
opening_within settings live Propagation.RequiresNew = opens_fresh settings true
opening_within settings live Propagation.NotSupported = opens_empty_apart settings
opening_within settings live Propagation.Never = Opening.Refuse ILLEGAL_TRANSACTION_STATE_EXCEPTION
opening_within settings live Propagation.Nested = opens_point settings live

abbrev pub opening_in : Settings → TxAttr → Context → Option Live → Opening
opening_in settings attribute context (Some live) = opening_within settings live attribute.propagation
opening_in settings attribute context None = opening_without settings context attribute.propagation

unfoldable pub opening : Settings → TxAttr → Context → Opening
opening settings attribute context = opening_in settings attribute context context.tx
