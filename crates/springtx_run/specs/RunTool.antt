-- The jobs of the program: what each reports and tells of its scenario.
use Rattle.std.specs.Prelude.{◌≡◌, ℕ, List, Option, Some}
use Rattle.stx_scenario.specs.declared.scenario.Scenario.{Scenario}
use Rattle.stx_base.specs.declared.outcome.Outcome.{Outcome}
use Rattle.stx_base.specs.declared.outcome.Report.{Report}
use Rattle.stx_model.specs.Faithful.{Faithful}
use Rattle.stx_base.specs.Report.{printed}
use Rattle.stx_report.specs.SummaryText.{summary}
use Rattle.stx_tool.specs.Programs.{Jobs}
use Rattle.stx_words.specs.declared.run_job.RunJob.{RunJob}
use Rattle.stx_words.specs.Jobs.{run_job_of, run_load_of}

-- The report tells of a faithful run of a scenario: for each client the lines are exactly the script that its calls denote given
-- what its own pool and store calls answered; those answers are a one-thread pool's and store's in one kept order each; the
-- committed transactions, replayed alone in journal order, find what they found and give the rows that are told; and every
-- connection is back. This is the text of it.
pub record IsRun (text_of : Scenario → Outcome → List ℕ) (S : Scenario) (report : Option Report) (text : List ℕ) : Type 0 where
  pub outcome : Outcome
  pub reported : report ≡ Some (record { scenario = S; outcome = outcome })
  pub faithful : Faithful S outcome
  pub told : text ≡ text_of S outcome

-- the text of a run, by the job: its report, or the summary of a load
abbrev pub text_of : RunJob → Scenario → Outcome → List ℕ
text_of RunJob.Run = printed
text_of (RunJob.Load seed clients) = summary seed

-- what a job reports and tells of its scenario
abbrev pub Tells : RunJob → Scenario → Option Report → List ℕ → Type 0
Tells job = IsRun (text_of job)

-- the jobs of the program
abbrev pub jobs : Jobs RunJob
jobs = record { stated = run_job_of; load_of = run_load_of; Tells = Tells }
