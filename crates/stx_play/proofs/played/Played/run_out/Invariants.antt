-- So many turns were made.
use Rattle.std.proofs.Common.{◌≡◌, ℕ, ◌+◌, ◌-◌, ◌≤◌, false}
use Rattle.stx_model.specs.Played.{turns, most_calls}
use Rattle.stx_play.specs.inner.Turning.{count_entries}
use Rattle.stx_play.proofs.played.Played.run_out.Given as goal

abbrev pub invariant-loop-alloc : goal.invariant-loop-alloc
invariant-loop-alloc l =
    (l.self.failed ≡ false)
    × (l.self.scenario ≡ l.fn.self.scenario)
    × (made : ℕ) × (turns l.fn.self.scenario l.client made l.fn.self.so_far ≡ l.self.so_far)
    × (made ≤ most_calls l.fn.self.scenario)
    × (made + count_entries l.fn.self.so_far ≡ count_entries l.self.so_far)

abbrev pub decreases-loop-alloc : goal.decreases-loop-alloc
decreases-loop-alloc l = most_calls l.self.scenario - count_entries l.self.so_far
