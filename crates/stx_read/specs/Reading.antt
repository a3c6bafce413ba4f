-- The scenario that the bytes of a file state, or the first refusal: by stage, and within a stage by walk order.
use Rattle.std.specs.Prelude.{ℕ, List, [], ◌∷◌, Option, Some, None, Result, Ok, Err}
use Rattle.toml.specs.Data.{Members}
use Rattle.stx_scenario.specs.declared.scenario.Scenario.{Scenario}
use Rattle.stx_refusals.specs.declared.fault.ReadFault.{ReadFault}
use Rattle.stx_refusals.specs.declared.fault.Stage.{Stage}
use Rattle.stx_refusals.specs.Faults.{first_at, first_some}
use Rattle.stx_draft.specs.Document.{document_of, refused_in}
use Rattle.stx_draft.specs.Draft.{drafted}
use Rattle.stx_judge.specs.Judge.{scenario_faults, judged}

-- a scenario that is refused, or not
abbrev pub answer : Option ReadFault → Scenario → Result Scenario ReadFault
answer (Some fault) S = Err fault
answer None S = Ok S

-- the stages that remain look at the scenario, and the look-up of names is the first of them; where all that is named is
-- there, the stages before it refuse nothing in a scenario whose document they accepted
abbrev pub remaining : Scenario → Option ReadFault
remaining S = first_some (first_at Stage.UnknownRef (scenario_faults S) ∷ judged S ∷ [])

abbrev pub judged_scenario : Option ReadFault → Members → Result Scenario ReadFault
judged_scenario (Some fault) root = Err fault
judged_scenario None root = answer (remaining (drafted root)) (drafted root)

abbrev pub scenario_in : Option Members → Result Scenario ReadFault
scenario_in None = Err ReadFault.NotToml
scenario_in (Some root) = judged_scenario (refused_in root) root

unfoldable pub scenario_of : List ℕ → Result Scenario ReadFault
scenario_of bytes = scenario_in (document_of bytes)
