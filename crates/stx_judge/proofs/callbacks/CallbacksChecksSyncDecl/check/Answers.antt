use Rattle.std.proofs.Common.{ℕ, List, ◌++◌, ◌∙◌, codes, ap}
use Rattle.stx_refusals.specs.Faults.{under}
use Rattle.stx_judge.specs.Judge.{disallowed}
use Rattle.stx_base.specs.Valid.{allowed_before_commit, allowed_around}
use Rattle.stx_refusals.proofs.FaultLaws.{both}
use Rattle.stx_judge.proofs.callbacks.CallbacksChecksSyncDecl.check.Goals as goal

pub returns : goal.returns
returns c =
    let S = c.args.self.now.scenario.now in
    let sync = c.args.sync.now in
    let before_completion = both _ _ _ _ _ c.in_ok-check_body.ensures c.in_ok-check_body-2.ensures in
    let after_commit = both _ _ _ _ _ before_completion c.in_ok-check_body-3.ensures in
    both _ _ _ _ _ after_commit c.in_ok-check_body-4.ensures
    ∙ ap (λ (path : List ℕ). c.args.faults.now ++ (
    disallowed (allowed_before_commit S) (under path (codes "before_commit")) sync.before_commit
    ++ disallowed (allowed_around S) (under path (codes "before_completion")) sync.before_completion
    ++ disallowed (allowed_around S) (under path (codes "after_commit")) sync.after_commit
    ++ disallowed (allowed_around S) (under path (codes "after_completion")) sync.after_completion))
    c.in_ok-path.ensures
