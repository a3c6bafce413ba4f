-- What a client carries from call to call: the bound connection with its transaction, and the registrations.
-- (Spring: TransactionSynchronizationManager.)
use Rattle.std.specs.Prelude.{ℕ, ℤ, Bool, List, [], ◌∷◌, ◌++◌, map, Option, Some, None}
use Rattle.std.specs.Option.{is_some}
use Rattle.stx_base.specs.declared.line.Label.{Label}
use Rattle.stx_model.specs.Orders.{by_order}

-- a bound connection with its transaction; `mark` is the global rollback-only mark. It stays until the connection
-- is given back, also in the rounds that follow the store's commit or rollback
pub record Live : Type 0 where
  pub connection : ℕ
  pub transaction : ℕ
  pub read_only : Bool
  pub mark : Bool

-- a synchronisation object that was registered, with its order value
pub record Registration : Type 0 where
  pub label : Label
  pub order : ℤ

-- `syncs` is none where no synchronisation is active, else the registrations in the order of their registering
pub record Context : Type 0 where
  pub tx : Option Live
  pub syncs : Option (List Registration)

-- no transaction, and no active synchronisation
abbrev pub bare : Context
bare = record { tx = None; syncs = None }

-- a transaction is live until its connection is given back (isActualTransactionActive)
abbrev pub is_live : Context → Bool
is_live context = is_some context.tx

-- registrations are taken (isSynchronizationActive)
abbrev pub is_active : Context → Bool
is_active context = is_some context.syncs

-- the registrations, none where no synchronisation is active
abbrev pub registered : Option (List Registration) → List Registration
registered (Some list) = list
registered None = []

-- the registrations by ascending order value, ties in the order of their registering
abbrev pub ordered : List Registration → List Registration
ordered list = by_order (λ r. r.order) list

-- the labels in the order in which they are told
abbrev pub ordered_labels : Option (List Registration) → List Label
ordered_labels syncs = map (λ r. r.label) (ordered (registered syncs))

-- ---- changes

abbrev pub with_mark : Bool → Live → Live
with_mark mark live = record { connection = live.connection; transaction = live.transaction; read_only = live.read_only; mark = mark }

-- the global rollback-only mark is set or cleared (ConnectionHolder.setRollbackOnly, resetRollbackOnly)
abbrev pub marked_globally : Bool → Option Live → Option Live
marked_globally mark (Some live) = Some (with_mark mark live)
marked_globally mark None = None

abbrev pub with_global_mark : Bool → Context → Context
with_global_mark mark context = record { tx = marked_globally mark context.tx; syncs = context.syncs }

-- one registration more, at the end
abbrev pub with_registration : Registration → List Registration → Context → Context
with_registration r list context = record { tx = context.tx; syncs = Some (list ++ r ∷ []) }

-- the registrations are taken out (TransactionSynchronizationManager.clearSynchronization)
abbrev pub without_syncs : Context → Context
without_syncs context = record { tx = context.tx; syncs = None }
