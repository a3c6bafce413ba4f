-- What is valid is all that the players ask for.
use Rattle.stx_scenario.specs.declared.scenario.Scenario.{Scenario}
use Rattle.stx_model.specs.Playable.{IsPlayable}
use Rattle.stx_judge.specs.Judge.{IsValid}
use Rattle.stx_judge.proofs.JudgeLaws.{valid_is_in_order}

pub playable : (S : Scenario) → IsValid S → IsPlayable S
playable S valid = record { shaped = valid.shaped; order = valid_is_in_order S valid }
