-- What the groups of stages refuse, as they are judged.
use Rattle.std.specs.Prelude.{◌≡◌, ◌∷◌, Option, None}
use Rattle.stx_scenario.specs.declared.scenario.Scenario.{Scenario}
use Rattle.stx_refusals.specs.declared.fault.ReadFault.{ReadFault}
use Rattle.stx_refusals.specs.declared.fault.Stage.{Stage}
use Rattle.stx_refusals.specs.Faults.{first_at, first_some}
use Rattle.stx_judge.specs.Judge.{scenario_faults, callback_faults, place_stages, class_stages, call_stages, linked_stages}

abbrev pub place_refusal : Scenario → Option ReadFault
place_refusal S = first_some (place_stages S)

abbrev pub class_refusal : Scenario → Option ReadFault
class_refusal S = first_some (class_stages S)

abbrev pub callback_refusal : Scenario → Option ReadFault
callback_refusal S = first_at Stage.CallbackBody (callback_faults S)

abbrev pub call_refusal : Scenario → Option ReadFault
call_refusal S = first_some (call_stages S)

abbrev pub linked_refusal : Scenario → Option ReadFault
linked_refusal S = first_some (linked_stages S)

-- the stages from the look-up of names on
unfoldable pub looked_up : Scenario → Option ReadFault
looked_up S = first_some (first_at Stage.UnknownRef (scenario_faults S) ∷ linked_stages S)

-- the stages that look at names, numbers, counts and words at single places refuse nothing
pub record PlacesQuiet (S : Scenario) : Type 0 where
  pub names : first_at Stage.BadName (scenario_faults S) ≡ None
  pub ranges : first_at Stage.OutOfRange (scenario_faults S) ≡ None
  pub counts : first_at Stage.TooMany (scenario_faults S) ≡ None
  pub words : first_at Stage.BadWord (scenario_faults S) ≡ None
