-- What a context is once a part of it that was lent comes back.
use Rattle.std.specs.Prelude.{Option, Some}
use Rattle.std.specs.Borrow.{LendsIf, MutBor, Fml}
use Rattle.stx_conn.specs.Bindings.{Binding}
use Rattle.stx_conn.specs.contracts.holder.Holder.{the_row as holder_row}
use Rattle.stx_sync.specs.Registries.{Registrations}
use Rattle.stx_sync.specs.contracts.registry.Registry.{the_row as registry_row}
use Rattle.stx_context.specs.Carrying.{Carried}
use Rattle.stx_context.specs.contracts.context.Context.{the_row}

abbrev pub with_tx : Carried → Binding → Carried
with_tx carried binding = record { tx = Some binding; syncs = carried.syncs }

abbrev pub with_syncs : Carried → Registrations → Carried
with_syncs carried registrations = record { tx = carried.tx; syncs = Some registrations }

-- the context ends with the last value of the holder that was lent
abbrev pub LendsHolder : MutBor Carried → Option (MutBor Binding) → Fml
LendsHolder context holder = LendsIf the_row holder_row context holder (with_tx context.now) context.now

-- the context ends with the last value of the registrations that were lent
abbrev pub LendsRegistry : MutBor Carried → Option (MutBor Registrations) → Fml
LendsRegistry context registry = LendsIf the_row registry_row context registry (with_syncs context.now) context.now
