-- What each job tells of its scenario.
use Rattle.std.proofs.Common.{◌≡◌, ℕ, List, Some, refl, subst}
use Rattle.stx_scenario.specs.declared.scenario.Scenario.{Scenario}
use Rattle.stx_base.specs.declared.outcome.Outcome.{Outcome}
use Rattle.stx_base.specs.declared.outcome.Report.{Report}
use Rattle.stx_model.specs.Faithful.{Faithful}
use Rattle.springtx_run.specs.RunTool.{IsRun}

pub is_run : (text_of : Scenario → Outcome → List ℕ) (S : Scenario) (report : Report) (text : List ℕ) → report.scenario ≡ S → Faithful report.scenario report.outcome
    → text ≡ text_of report.scenario report.outcome → IsRun text_of S (Some report) text
is_run text_of S report text same faithful told =
    subst (λ T. IsRun text_of T (Some report) text) same (record { outcome = report.outcome; reported = refl; faithful = faithful; told = told })
