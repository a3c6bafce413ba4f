-- None of the frames that were passed has a scope.
use Rattle.std.proofs.Common.{◌≡◌, drop, None}
use Rattle.stx_frames.specs.Stacks.{innermost}
use Rattle.stx_frames.proofs.frames.innermost_place.Given as goal

abbrev pub invariant-loop-place : goal.invariant-loop-place
invariant-loop-place g l = innermost (drop l.place l.frames) ≡ None
