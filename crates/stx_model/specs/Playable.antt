-- What the players rely on in a scenario: that it is valid.
use Rattle.stx_scenario.specs.declared.scenario.Scenario.{Scenario}
use Rattle.stx_base.specs.Valid.{IsShaped, IsInOrder}

pub record IsPlayable (S : Scenario) : Type 0 where
  pub shaped : IsShaped S
  pub order : IsInOrder S
