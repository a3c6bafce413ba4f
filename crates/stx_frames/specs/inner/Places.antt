-- Where the innermost scope stands.
use Rattle.std.specs.Prelude.{◌≡◌, ℕ, ◌+◌, ◌<◌, true, List, length, drop, None, slice_index_or}
use Rattle.std.specs.Option.{is_some}
use Rattle.stx_frames.specs.declared.frame.Frame.{Frame}
use Rattle.stx_frames.specs.Stacks.{scope_of, innermost}

-- the frame at this place has a scope, and none further in
pub record IsInnermost {S : Type 0} (fs : List (Frame S)) (place : ℕ) : Type 0 where
  pub within : place < length fs
  pub scoped : (d : Frame S) → is_some (scope_of (slice_index_or fs place d)) ≡ true
  pub last : innermost (drop (place + 1) fs) ≡ None
