-- How a top call ends: its statuses, and what it read, answered and wrote. `J` is the type of a program's jobs.
use Rattle.std.specs.Prelude.{◌≡◌, ◌≢◌, ◌⊎◌, ◌==◌, ℕ, ◌≤◌, Bool, true, false, IsTrue, List, [], ◌∷◌, length, Option, Some, None, IsNone}
use Rattle.std.specs.List.{list_any}
use Rattle.std.specs.Option.{option_map_or}
use Rattle.stx_scenario.specs.declared.limits.TheConstants.{MOST_INPUT_BYTES}
use Rattle.stx_scenario.specs.declared.scenario.Scenario.{Scenario}
use Rattle.stx_base.specs.declared.outcome.Report.{Report}
use Rattle.stx_base.specs.declared.outcome.ToolEnd.{ToolEnd}
use Rattle.stx_outside.specs.Streams.{Rose, GainsEnd, GainsPrefix, LosesAll, LosesMore, LosesWithin}
use Rattle.stx_tool.specs.declared.response.Response.{Response}

-- each end has one of these statuses
abbrev pub is_status : ℕ → Bool
is_status status = list_any (λ s. s == status) (0 ∷ 2 ∷ 3 ∷ 4 ∷ 5 ∷ 6 ∷ 7 ∷ [])

-- the ends before anything is written
abbrev pub is_early : ℕ → Bool
is_early status = list_any (λ s. s == status) (2 ∷ 3 ∷ 6 ∷ 7 ∷ [])

-- ---- what was read

-- where input is needed, all bytes that the source had, and no more than a scenario may have; else nothing
abbrev pub HasInput : Bool → Option (List ℕ) → Option (List ℕ) → List ℕ → Type 0
HasInput true before now bytes = LosesAll before now bytes × (length bytes ≤ MOST_INPUT_BYTES)
HasInput false before now bytes = (now ≡ before) × (bytes ≡ [])

-- ---- what is responded to it

-- a job is done with these bytes: it has a scenario, and this is what it reports and tells of it
pub record Fulfils {J : Type 0} (IsScenarioOf : J → List ℕ → Scenario → Type 0) (Tells : J → Scenario → Option Report → List ℕ → Type 0) (job : J) (bytes : List ℕ) (report : Option Report) (text : List ℕ) : Type 0 where
  pub scenario : Scenario
  pub its_own : IsScenarioOf job bytes scenario
  pub told : Tells job scenario report text

-- the text and the report of a response. `Fulfils` says what a job that is done reports and tells of these bytes, and `refusal`
-- why it isn't done with them
abbrev pub IsResponse : {J : Type 0} → (J → List ℕ → Option Report → List ℕ → Type 0) → (J → List ℕ → Option (List ℕ)) → J → List ℕ → Response → Type 0
IsResponse Fulfils refusal job bytes (Response.Done report text) = Fulfils job bytes report text.items
IsResponse Fulfils refusal job bytes (Response.Refused text) = refusal job bytes ≡ Some text.items

-- ---- what became of it; `Wrote` says what became of a text

-- the job was done
pub record IsDone {J : Type 0} (Fulfils : J → List ℕ → Option Report → List ℕ → Type 0) (Wrote : List ℕ → Type 0) (report : Option Report) (job : J) (bytes : List ℕ) : Type 0 where
  pub text : List ℕ
  pub done : Fulfils job bytes report text
  pub written : Wrote text

-- the job was refused
pub record IsRefused {J : Type 0} (refusal : J → List ℕ → Option (List ℕ)) (Wrote : List ℕ → Type 0) (report : Option Report) (job : J) (bytes : List ℕ) : Type 0 where
  pub text : List ℕ
  pub refused : refusal job bytes ≡ Some text
  pub unreported : report ≡ None
  pub written : Wrote text

-- done or refused, and written in part
abbrev pub IsCutShort : {J : Type 0} → (J → List ℕ → Option Report → List ℕ → Type 0) → (J → List ℕ → Option (List ℕ)) → (List ℕ → Type 0) → Option Report → J → List ℕ → Type 0
IsCutShort Fulfils refusal Wrote report job bytes = IsDone Fulfils Wrote report job bytes ⊎ IsRefused refusal Wrote report job bytes

-- the words state this job, the input that it needs was read, and this became of both
pub record IsAnswered {J : Type 0} (needs_input : J → Bool) (stated : Option J) (left_before left_now : Option (List ℕ)) (Answered : J → List ℕ → Type 0) : Type 0 where
  pub job : J
  pub stated_so : stated ≡ Some job
  pub bytes : List ℕ
  pub read : HasInput (needs_input job) left_before left_now bytes
  pub answered : Answered job bytes

-- ---- what a job is done with

-- whether the words state a job that needs input
abbrev pub is_input_needed : {J : Type 0} → (J → Bool) → Option J → Bool
is_input_needed needs_input stated = option_map_or needs_input stated false

-- where input is needed, all bytes that the source has, and no more than a scenario may have; else nothing
abbrev pub IsInput : Bool → Option (List ℕ) → List ℕ → Type 0
IsInput true left input = (left ≡ Some input) × (length input ≤ MOST_INPUT_BYTES)
IsInput false left input = input ≡ []

-- the words state a job, and it isn't refused for the input that the source has; where it needs none it may have any
pub record IsAccepted {J : Type 0} (needs_input : J → Bool) (stated : Option J) (refusal : J → List ℕ → Option (List ℕ)) (left : Option (List ℕ)) : Type 0 where
  pub job : J
  pub stated_so : stated ≡ Some job
  pub input : List ℕ
  pub there : IsInput (needs_input job) left input
  pub accepted : refusal job input ≡ None

-- ---- the end of a top call

-- What every top call promises of its end, beside what it is to have done at status 0. `stated` is the job that the words state,
-- and `Untouched` says that the source is as it was; then the bytes that the source had left and has left, and its counts of
-- faults before and now, and of the sink the bytes that it had taken and has taken, and its counts.
pub record IsEnd {J : Type 0} (needs_input : J → Bool) (Fulfils : J → List ℕ → Option Report → List ℕ → Type 0) (refusal : J → List ℕ → Option (List ℕ)) (stated : Option J)
    (Untouched : Type 0) (left_before left_now : Option (List ℕ)) (source_before source_now : ℕ) (taken_before taken_now : Option (List ℕ)) (sink_before sink_now : ℕ) (end : ToolEnd) : Type 0 where
  pub status : IsTrue (is_status end.status)
  -- 2: the words state no job
  pub usage : end.status ≡ 2 → IsNone stated
  pub unstated : IsNone stated → (end.status ≡ 2) ⊎ (end.status ≡ 6)
  -- no input is read where the words state no job, or one that needs none
  pub unread : is_input_needed needs_input stated ≡ false → Untouched
  -- 3: a read failed, and at every other end none did
  pub read_fault : end.status ≡ 3 → Rose source_before source_now
  pub read_well : end.status ≢ 3 → source_now ≡ source_before
  -- 4: the bytes state no valid scenario
  pub refused : end.status ≡ 4 → IsAnswered needs_input stated left_before left_now (IsRefused refusal (GainsEnd taken_before taken_now) end.report)
  -- 5: a write failed; a prefix of the text was written
  pub write_fault : end.status ≡ 5 → Rose sink_before sink_now
  pub cut_short : end.status ≡ 5 → IsAnswered needs_input stated left_before left_now (IsCutShort Fulfils refusal (GainsPrefix taken_before taken_now) end.report)
  -- 7: exactly where more bytes came than a scenario may have
  pub too_long : end.status ≡ 7 → LosesMore MOST_INPUT_BYTES left_before left_now
  pub no_longer : end.status ≢ 7 → LosesWithin MOST_INPUT_BYTES left_before left_now
  pub needed : end.status ≡ 7 → is_input_needed needs_input stated ≡ true
  -- 2, 3, 6 for want of memory, and 7 come before anything is written
  pub nothing : IsTrue (is_early end.status) → taken_now ≡ taken_before
  pub unreported : IsTrue (is_early end.status) → end.report ≡ None
  -- what is accepted is done, unless a read or a write failed or memory ran out
  pub complete : IsAccepted needs_input stated refusal left_before → ¬ (Rose source_before source_now) → ¬ (Rose sink_before sink_now) → (end.status ≡ 0) ⊎ (end.status ≡ 6)
