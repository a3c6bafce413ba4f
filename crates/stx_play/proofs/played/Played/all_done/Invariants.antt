-- The clients so far are done.
use Rattle.std.proofs.Common.{ℕ, ◌<◌}
use Rattle.stx_play.specs.Play.{IsClientDone}
use Rattle.stx_play.proofs.played.Played.all_done.Given as goal

abbrev pub invariant-loop-client : goal.invariant-loop-client
invariant-loop-client l = (c : ℕ) → c < l.client → IsClientDone l.self.scenario l.self.so_far c
