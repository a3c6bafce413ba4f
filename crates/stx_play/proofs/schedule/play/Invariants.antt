-- The turns of the schedule so far, and then the clients that have run out.
use Rattle.std.proofs.Common.{◌≡◌, ℕ, ◌<◌, take}
use Rattle.std.specs.List.{fold, range_with_len}
use Rattle.stx_model.specs.Played.{turn, run_out, no_turns}
use Rattle.stx_play.specs.Play.{with_turns, unplayed, IsClientDone}
use Rattle.stx_play.proofs.schedule.play.Given as goal

abbrev pub invariant-loop-client : goal.invariant-loop-client
invariant-loop-client l =
    let S = l.setup.scenario in
    l.play ≡ with_turns (unplayed S) (fold (turn S) no_turns (take l.client-index l.schedule))

abbrev pub invariant-loop-client-2 : goal.invariant-loop-client-2
invariant-loop-client-2 l =
    let S = l.setup.scenario in
    (l.play ≡ with_turns (unplayed S) (fold (run_out S) (fold (turn S) no_turns l.schedule) (range_with_len 0 l.client)))
    × ((c : ℕ) → c < l.client → IsClientDone S l.play.so_far c)
