-- A list with room for items to come.
use Rattle.std.specs.Prelude.{ℕ, List}

pub record Room (T : Type 0) : Type 0 where
  pub items : List T
  pub spare : ℕ
