-- Registrations as contracts see them.
use Rattle.std.specs.Prelude.{ℕ, List, []}
use Rattle.stx_sync.specs.declared.registered.Registered.{Registered}
use Rattle.stx_model.specs.Contexts.{Registration}

-- a registration of the context
abbrev pub registration : Registered → Registration
registration r = record { label = r.label; order = r.order }

-- the registrations in the order of their registering, with room for `spare` more
pub record Registrations : Type 0 where
  pub list : List Registration
  pub spare : ℕ

-- no registrations, and no room
abbrev pub new_registry : Registrations
new_registry = record { list = []; spare = 0 }
