-- What a client carries as contracts see it, and the context of the script that it stands for.
use Rattle.std.specs.Prelude.{Option, None, option_map}
use Rattle.stx_conn.specs.Bindings.{Binding, live}
use Rattle.stx_sync.specs.Registries.{Registrations}
use Rattle.stx_model.specs.Contexts.{Context}

-- the bound connection with its transaction, and the registrations where synchronisation is active
pub record Carried : Type 0 where
  pub tx : Option Binding
  pub syncs : Option Registrations

abbrev pub bare : Carried
bare = record { tx = None; syncs = None }

-- the context of the script: a session that was handed out, savepoints and room are no part of it
abbrev pub context_of : Carried → Context
context_of carried = record { tx = option_map live carried.tx; syncs = option_map (λ r. r.list) carried.syncs }
