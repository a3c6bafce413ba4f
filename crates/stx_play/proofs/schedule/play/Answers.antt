-- One client more runs out, and then all have.
use Rattle.std.proofs.Common.{rules, ◌≡◌, ◌∙◌, length, sym, ap, subst}
use Rattle.std.specs.Prelude.{IfOk}
use Rattle.std.specs.List.{fold, range_with_len}
use Rattle.stx_model.specs.Played.{turn, run_out, no_turns, played, outcome_of}
use Rattle.stx_play.specs.Play.{with_turns, unplayed, IsClientDone}
use Rattle.stx_play.proofs.ScheduleLaws.{one_runs_out, done_below}
use Rattle.stx_play.proofs.schedule.play.Goals as goal

pub loop-client-2-preserved : goal.loop-client-2-preserved
loop-client-2-preserved c =
    let S = c.args.setup.now.scenario in
    let n = c.loop-client-2.client in
    let start = fold (turn S) no_turns c.args.schedule.now in
    let old = c.loop-client-2.play in
    let new = c.run_out.new.self in
    let is = c.loop-client-2.invariant.0 in
    let made = c.in_ok-run_out.ensures.turns ∙ (λ i. with_turns (is i) (run_out (is i).scenario (is i).so_far n)) in
    let same : new.so_far ≡ run_out S old.so_far n = ap (λ v. v.so_far) c.in_ok-run_out.ensures.turns ∙ ap (λ v. run_out v.scenario old.so_far n) is in
    let here : IsClientDone S new.so_far n = subst (λ v. IsClientDone v.scenario new.so_far n) made c.in_ok-run_out.ensures.done in (
      made ∙ ap (with_turns (unplayed S)) (sym (one_runs_out S start n)),
      done_below S old.so_far new.so_far n same c.loop-client-2.invariant.1 here,
    )

pub returns-clause-played : goal.returns-clause-played
unfolding played
returns-clause-played c =
    let S = c.args.setup.now.scenario in
    let start = fold (turn S) no_turns c.args.schedule.now in
    let end : c.loop-client-2.client ≡ length S.clients = search rules in
    let is = c.loop-client-2.invariant.0 in
    subst (λ o. IfOk c.finish.result (λ outcome. outcome ≡ o))
    (ap (λ v. outcome_of v.scenario v.so_far) is ∙ ap (λ n. outcome_of S (fold (run_out S) start (range_with_len 0 n))) end)
    c.finish.ensures.outcome
