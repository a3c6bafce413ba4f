-- A scope as contracts see it.
use Rattle.std.specs.Prelude.{Bool, false, Option}
use Rattle.stx_base.specs.declared.manager.Kind.{Kind}
use Rattle.stx_context.specs.Carrying.{Carried}

-- `owns` says that it owns the active synchronisation, and `suspended` is what was suspended for it
pub record OpenScope : Type 0 where
  pub kind : Kind
  pub owns : Bool
  pub local_mark : Bool
  pub suspended : Option Carried

-- a scope that was just opened
abbrev pub new_scope : Kind → Bool → Option Carried → OpenScope
new_scope kind owns suspended = record { kind = kind; owns = owns; local_mark = false; suspended = suspended }
