-- Which method comes first.
use Rattle.std.specs.Prelude.{◌<◌}
use Rattle.stx_scenario.specs.declared.numbers.MethodNo.{MethodNo}

-- P holds of this method, and of none with a lesser number
pub record IsFirst (P : MethodNo → Type 0) (m : MethodNo) : Type 0 where
  pub here : P m
  pub first : (n : MethodNo) → n.0 < m.0 → ¬ (P n)
