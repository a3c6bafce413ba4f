-- What the frames end as, once the borrow of a frame or of a scope is over.
use Rattle.std.specs.Prelude.{Option}
use Rattle.std.specs.Borrow.{LendsIf, MutBor, Fml, RattleType}
use Rattle.stx_scenario.specs.Rooms.{Room}
use Rattle.stx_frames.specs.declared.frame.Frame.{Frame}
use Rattle.stx_frames.specs.contracts.frame.Frame.{the_row as frame_row}
use Rattle.stx_frames.specs.contracts.frames.Frames.{the_row as frames_row}
use Rattle.stx_frames.specs.Stacks.{with_last, with_scope, with_innermost}

module _ (S : RattleType) where
  -- the frame's scope is the last value behind the result
  abbrev pub lends_scope : MutBor (Frame S.Denot) → Option (MutBor S.Denot) → Fml
  lends_scope f r = LendsIf (frame_row S) S f r (with_scope f.now) f.now

  -- the innermost frame is the last value behind the result
  abbrev pub lends_top : MutBor (Room (Frame S.Denot)) → Option (MutBor (Frame S.Denot)) → Fml
  lends_top s r = LendsIf (frames_row S) (frame_row S) s r (λ f. record s.now { items = with_last s.now.items f }) s.now

  -- the innermost scope is the last value behind the result
  abbrev pub lends_innermost : MutBor (Room (Frame S.Denot)) → Option (MutBor S.Denot) → Fml
  lends_innermost s r = LendsIf (frames_row S) S s r (λ scope. record s.now { items = with_innermost s.now.items scope }) s.now
