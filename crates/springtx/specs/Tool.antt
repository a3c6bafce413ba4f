-- The jobs of the program: what each reports and tells of its scenario.
use Rattle.std.specs.Prelude.{◌≡◌, ℕ, List, Option, Some, None}
use Rattle.stx_scenario.specs.declared.scenario.Scenario.{Scenario}
use Rattle.stx_base.specs.declared.outcome.Outcome.{Outcome}
use Rattle.stx_base.specs.declared.outcome.Report.{Report}
use Rattle.stx_model.specs.Faithful.{Faithful}
use Rattle.stx_model.specs.Played.{played}
use Rattle.stx_base.specs.Report.{printed}
use Rattle.stx_base.specs.CheckText.{check_words}
use Rattle.stx_base.specs.RulesText.{rules_text}
use Rattle.stx_base.specs.Weight.{weight}
use Rattle.stx_report.specs.SummaryText.{summary}
use Rattle.stx_tool.specs.Programs.{Jobs}
use Rattle.stx_words.specs.declared.job.Job.{Job}
use Rattle.stx_words.specs.Jobs.{job_of, load_of}

-- what is played of a scenario: the play of its own schedule
abbrev pub own_play : Scenario → Outcome
own_play S = played S S.schedule

-- a scenario was played; it is reported, and this is told of it and of what was played
pub record IsPlayed (text_of : Scenario → Outcome → List ℕ) (S : Scenario) (report : Option Report) (text : List ℕ) : Type 0 where
  pub reported : report ≡ Some (record { scenario = S; outcome = own_play S })
  pub faithful : Faithful S (own_play S)
  pub told : text ≡ text_of S (own_play S)

-- this is told of a scenario, and nothing is reported
pub record IsTold (text_of : Scenario → List ℕ) (S : Scenario) (report : Option Report) (text : List ℕ) : Type 0 where
  pub unreported : report ≡ None
  pub told : text ≡ text_of S

-- what a check tells of a scenario
abbrev pub check_text : Scenario → List ℕ
check_text S = check_words (weight S)

-- the text of a play: its report, or the summary of a load of this seed
abbrev pub text_of : Option ℕ → Scenario → Outcome → List ℕ
text_of None = printed
text_of (Some seed) = summary seed

-- what a job reports and tells of its scenario
abbrev pub Tells : Job → Scenario → Option Report → List ℕ → Type 0
Tells Job.Play = IsPlayed (text_of None)
Tells Job.Check = IsTold check_text
Tells Job.Rules = IsTold rules_text
Tells (Job.Load seed clients) = IsPlayed (text_of (Some seed))

-- the jobs of the program
abbrev pub jobs : Jobs Job
jobs = record { stated = job_of; load_of = load_of; Tells = Tells }
