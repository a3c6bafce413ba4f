-- What each job tells of its scenario.
use Rattle.std.proofs.Common.{◌≡◌, ℕ, List, Some, ap, ◌∙◌}
use Rattle.stx_scenario.specs.declared.scenario.Scenario.{Scenario}
use Rattle.stx_base.specs.declared.outcome.Outcome.{Outcome}
use Rattle.stx_base.specs.declared.outcome.Report.{Report}
use Rattle.stx_model.specs.Faithful.{Faithful}
use Rattle.springtx.specs.Tool.{IsPlayed, own_play}

pub is_played : (text_of : Scenario → Outcome → List ℕ) (S : Scenario) (report : Report) (text : List ℕ) → report ≡ record { scenario = S; outcome = own_play S } → Faithful S (own_play S)
    → text ≡ text_of report.scenario report.outcome → IsPlayed text_of S (Some report) text
is_played text_of S report text own faithful told = record {
  reported = ap (λ (r : Report). Some r) own;
  faithful = faithful;
  told = told ∙ ap (λ (r : Report). text_of r.scenario r.outcome) own;
}
