use Rattle.std.proofs.Common.{ℕ, List, ◌++◌, ◌∙◌, codes, ap}
use Rattle.stx_scenario.specs.declared.scenario.Scenario.{Scenario}
use Rattle.stx_refusals.specs.declared.fault.Fault.{Fault}
use Rattle.stx_refusals.specs.Faults.{under}
use Rattle.stx_judge.specs.Judge.{name_faults, callback_body_faults}
use Rattle.stx_refusals.proofs.FaultLaws.{both}
use Rattle.stx_judge.proofs.parts.PartsChecksSyncDecl.check.Goals as goal

pub returns : goal.returns
returns c =
    let start = c.args.faults.now in
    let sync = c.args.sync.now in
    let found : Scenario → List ℕ → List Fault = λ S path.
    start ++ (
    name_faults path sync.name
    ++ callback_body_faults S (under path (codes "before_commit")) sync.before_commit
    ++ callback_body_faults S (under path (codes "before_completion")) sync.before_completion
    ++ callback_body_faults S (under path (codes "after_commit")) sync.after_commit
    ++ callback_body_faults S (under path (codes "after_completion")) sync.after_completion) in
    let name = c.in_ok-check_name.ensures in
    let before_commit = both _ _ _ _ _ name c.in_ok-check_callback.ensures in
    let before_completion = both _ _ _ _ _ before_commit c.in_ok-check_callback-2.ensures in
    let after_commit = both _ _ _ _ _ before_completion c.in_ok-check_callback-3.ensures in
    both _ _ _ _ _ after_commit c.in_ok-check_callback-4.ensures
    ∙ ap (λ S. found S c.in_ok-table.table.path) c.in_ok-table.ensures.scenario
    ∙ ap (found c.args.self.now.scenario.now) c.in_ok-table.ensures.path
