-- What the bytes of an input are read as, and why they are refused.
use Rattle.std.specs.Prelude.{◌≡◌, ℕ, List, Option, Some, None, Result, Ok, Err}
use Rattle.stx_scenario.specs.declared.scenario.Scenario.{Scenario}
use Rattle.stx_refusals.specs.declared.fault.ReadFault.{ReadFault}
use Rattle.stx_refusals.specs.Refusals.{refusal_text}
use Rattle.stx_judge.specs.Judge.{IsValid}
use Rattle.stx_read.specs.Reading.{scenario_of}
use Rattle.stx_tool.specs.declared.reading.Reading.{Reading}

-- the refusal of what was read: it is no valid scenario
abbrev pub refusal_in : Result Scenario ReadFault → Option (List ℕ)
refusal_in (Err fault) = Some (refusal_text fault)
refusal_in (Ok S) = None

abbrev pub refusal : List ℕ → Option (List ℕ)
refusal bytes = refusal_in (scenario_of bytes)

-- the bytes are read as this
abbrev pub IsReading : List ℕ → Reading → Type 0
IsReading bytes (Reading.Accepted S) = (scenario_of bytes ≡ Ok S) × IsValid S
IsReading bytes (Reading.Refused text) = refusal bytes ≡ Some text.items
