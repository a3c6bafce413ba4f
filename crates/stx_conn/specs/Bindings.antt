-- A bound connection with its transaction as contracts see it, and what of it a context knows.
use Rattle.std.specs.Prelude.{ℕ, Bool, true, false}
use Rattle.stx_model.specs.Contexts.{Live}

-- `running` says that the session is still there, `mark` is the global rollback-only mark, and `points` counts the
-- savepoints that are open
pub record Binding : Type 0 where
  pub connection : ℕ
  pub transaction : ℕ
  pub running : Bool
  pub read_only : Bool
  pub mark : Bool
  pub points : ℕ

-- a transaction that just began on its connection
abbrev pub new_binding : ℕ → ℕ → Bool → Binding
new_binding connection transaction read_only =
    record { connection = connection; transaction = transaction; running = true; read_only = read_only; mark = false; points = 0 }

-- the live transaction of the context in which it is bound
abbrev pub live : Binding → Live
live binding =
    record { connection = binding.connection; transaction = binding.transaction; read_only = binding.read_only; mark = binding.mark }
