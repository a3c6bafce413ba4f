-- What a top call comes to before it writes, and what it writes. `J` is the type of a program's jobs: `Fulfils` says what a job
-- that is done reports and tells of the bytes of its input, and `refusal` why it isn't done with them.
use Rattle.std.specs.Prelude.{◌≡◌, ◌≢◌, ◌⊎◌, ℕ, Bool, true, false, List, Option, None, IsNone, Result, Ok, Err, IfOk}
use Rattle.stx_scenario.specs.declared.limits.TheConstants.{MOST_INPUT_BYTES}
use Rattle.stx_scenario.specs.Memory.{no_memory}
use Rattle.stx_base.specs.declared.outcome.Report.{Report}
use Rattle.stx_base.specs.declared.outcome.ToolEnd.{ToolEnd}
use Rattle.stx_outside.specs.Streams.{Rose, GainsEnd, GainsPrefix, LosesMore, LosesWithin}
use Rattle.stx_outside.specs.declared.whole.ReadEnd.{ReadEnd}
use Rattle.stx_tool.specs.declared.early.Early.{Early}
use Rattle.stx_tool.specs.declared.response.Response.{Response}
use Rattle.stx_tool.specs.Early.{status_of}
use Rattle.stx_tool.specs.Ends.{IsAnswered, IsResponse, is_input_needed}

-- what the words state, what was read of the source, and what is responded to it: a response, or an early end
pub record IsResponded {J : Type 0} (needs_input : J → Bool) (Fulfils : J → List ℕ → Option Report → List ℕ → Type 0) (refusal : J → List ℕ → Option (List ℕ)) (stated : Option J)
    (Untouched : Type 0) (left_before left_now : Option (List ℕ)) (faults_before faults_now : ℕ) (responded : Result Response Early) : Type 0 where
  pub usage : responded ≡ Err Early.Usage → IsNone stated
  pub unstated : IsNone stated → (responded ≡ Err Early.Usage) ⊎ (responded ≡ Err (Early.NoMemory no_memory))
  pub unread : is_input_needed needs_input stated ≡ false → Untouched
  pub read_fault : responded ≡ Err Early.ReadFault → Rose faults_before faults_now
  pub read_well : responded ≢ Err Early.ReadFault → faults_now ≡ faults_before
  pub needed : responded ≡ Err Early.TooLong → is_input_needed needs_input stated ≡ true
  pub too_long : responded ≡ Err Early.TooLong → LosesMore MOST_INPUT_BYTES left_before left_now
  pub no_longer : responded ≢ Err Early.TooLong → LosesWithin MOST_INPUT_BYTES left_before left_now
  pub answered : IfOk responded (λ response. IsAnswered needs_input stated left_before left_now (λ job bytes. IsResponse Fulfils refusal job bytes response))

-- what became of the source, where this was read of it; `needed` says whether input is
pub record IsRead {V : Type 0} (needed : Bool) (Untouched : Type 0) (left_before left_now : Option (List ℕ)) (faults_before faults_now : ℕ) (input : Result V ReadEnd) : Type 0 where
  pub unread : needed ≡ false → Untouched
  pub wanted : input ≡ Err ReadEnd.TooLong → needed ≡ true
  pub too_long : input ≡ Err ReadEnd.TooLong → LosesMore MOST_INPUT_BYTES left_before left_now
  pub no_longer : input ≢ Err ReadEnd.TooLong → LosesWithin MOST_INPUT_BYTES left_before left_now
  pub fault : input ≡ Err ReadEnd.Fault → Rose faults_before faults_now
  pub kept : input ≢ Err ReadEnd.Fault → faults_now ≡ faults_before

-- a text was written whole, with this status, or a prefix of it, with status 5
pub record IsTold (status : ℕ) (report : Option Report) (text : List ℕ) (taken_before taken_now : Option (List ℕ)) (faults_before faults_now : ℕ) (end : ToolEnd) : Type 0 where
  pub reported : end.report ≡ report
  pub whole : end.status ≡ status → GainsEnd taken_before taken_now text
  pub other : end.status ≢ status → end.status ≡ 5
  pub fault : end.status ≡ 5 → Rose faults_before faults_now
  pub prefix : end.status ≡ 5 → GainsPrefix taken_before taken_now text

-- a response's text was written; at an early end nothing was
abbrev pub IsWritten : Option (List ℕ) → Option (List ℕ) → ℕ → ℕ → Result Response Early → ToolEnd → Type 0
IsWritten taken_before taken_now faults_before faults_now (Ok (Response.Done report text)) end = IsTold 0 report text.items taken_before taken_now faults_before faults_now end
IsWritten taken_before taken_now faults_before faults_now (Ok (Response.Refused text)) end = IsTold 4 None text.items taken_before taken_now faults_before faults_now end
IsWritten taken_before taken_now faults_before faults_now (Err early) end = (end ≡ record { status = status_of early; report = None }) × (taken_now ≡ taken_before)
