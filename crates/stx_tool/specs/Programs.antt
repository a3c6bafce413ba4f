-- The jobs of a program: where a job's scenario comes from, and what a top call promises. A program says what its jobs are by one
-- record.
use Rattle.std.specs.Prelude.{◌≡◌, ℕ, Bool, true, false, List, Option, Some, None, Result, Ok, String}
use Rattle.std.specs.declared.alloc.Global.{Global}
use Rattle.stx_scenario.specs.declared.scenario.Scenario.{Scenario}
use Rattle.stx_base.specs.declared.outcome.Report.{Report}
use Rattle.stx_base.specs.declared.outcome.ToolEnd.{ToolEnd}
use Rattle.stx_outside.specs.Streams.{GainsEnd}
use Rattle.stx_judge.specs.Judge.{IsValid}
use Rattle.stx_read.specs.Reading.{scenario_of}
use Rattle.stx_load.specs.Generated.{generated}
use Rattle.stx_words.specs.declared.load.Load.{Load}
use Rattle.stx_tool.specs.declared.early.Early.{Early}
use Rattle.stx_tool.specs.declared.reading.Reading.{Reading}
use Rattle.stx_tool.specs.declared.response.Response.{Response}
use Rattle.stx_tool.specs.Ends as ends
use Rattle.stx_tool.specs.Responses as responses
use Rattle.stx_tool.specs.Readings.{refusal}

-- ---- where a scenario comes from: it is generated from a load, or read where there is none

-- what is generated reads nothing
abbrev pub needs_input : Option Load → Bool
needs_input None = true
needs_input (Some load) = false

-- why a job isn't done with what was read; what is generated is never refused
abbrev pub refusal_of : Option Load → List ℕ → Option (List ℕ)
refusal_of None bytes = refusal bytes
refusal_of (Some load) bytes = None

-- the scenario that a job is done with: the one that the bytes state, or that the seed gives for so many clients
abbrev pub IsScenarioOf : Option Load → List ℕ → Scenario → Type 0
IsScenarioOf None bytes S = scenario_of bytes ≡ Ok S
IsScenarioOf (Some load) bytes S = S ≡ generated load.seed load.clients

-- what is read or generated: the scenario, which is valid, or why the job isn't done
abbrev pub IsReadingFor : Option Load → List ℕ → Reading → Type 0
IsReadingFor load bytes (Reading.Accepted S) = IsScenarioOf load bytes S × IsValid S
IsReadingFor load bytes (Reading.Refused text) = refusal_of load bytes ≡ Some text.items

-- ---- the jobs of a program

pub record Jobs (J : Type 0) : Type 1 where
  -- the job that the words state, if they state one
  pub stated : List (String Global) → Option J
  -- what a job's scenario is generated from; none where it is read
  pub load_of : J → Option Load
  -- what a job reports and tells of its scenario
  pub Tells : J → Scenario → Option Report → List ℕ → Type 0

module _ {J : Type 0} (jobs : Jobs J) where
  -- whether a job reads its scenario
  abbrev pub reads : J → Bool
  reads job = needs_input (jobs.load_of job)

  -- the job is done with these bytes
  abbrev pub Fulfils : J → List ℕ → Option Report → List ℕ → Type 0
  Fulfils = ends.Fulfils (λ job. IsScenarioOf (jobs.load_of job)) jobs.Tells

  -- why it isn't done with them
  abbrev pub refused : J → List ℕ → Option (List ℕ)
  refused job = refusal_of (jobs.load_of job)

  -- the text and the report of a response
  abbrev pub IsResponse : J → List ℕ → Response → Type 0
  IsResponse = ends.IsResponse Fulfils refused

  -- ---- the top call

  -- at status 0: the words state a job, the input that it needs was read, the job was done, and just its text was written
  abbrev pub IsDone : List (String Global) → Option (List ℕ) → Option (List ℕ) → Option (List ℕ) → Option (List ℕ) → Option Report → Type 0
  IsDone words left_before left_now taken_before taken_now report =
      ends.IsAnswered reads (jobs.stated words) left_before left_now (ends.IsDone Fulfils (GainsEnd taken_before taken_now) report)

  -- and the rest, at any status
  abbrev pub IsEnd : List (String Global) → Type 0 → Option (List ℕ) → Option (List ℕ) → ℕ → ℕ → Option (List ℕ) → Option (List ℕ) → ℕ → ℕ → ToolEnd → Type 0
  IsEnd words = ends.IsEnd reads Fulfils refused (jobs.stated words)

  -- before anything is written
  abbrev pub IsResponded : List (String Global) → Type 0 → Option (List ℕ) → Option (List ℕ) → ℕ → ℕ → Result Response Early → Type 0
  IsResponded words = responses.IsResponded reads Fulfils refused (jobs.stated words)
