-- A text that grows line by line.
use Rattle.std.specs.Prelude.{ℕ, List}

-- the text before the line that is being written, and what stands of that line
pub record Growing : Type 0 where
  pub before : List ℕ
  pub line : List ℕ
