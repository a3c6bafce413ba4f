-- Frames one inside the other, as a list with the innermost last.
use Rattle.std.specs.Prelude.{◌-◌, true, false, List, [], ◌∷◌, length, slice_set, Option, Some, None, slice_get}
use Rattle.std.specs.Option.{is_some, option_or}
use Rattle.stx_frames.specs.declared.frame.Frame.{Frame}

module _ {S : Type 0} where
  -- the innermost frame
  abbrev pub last_of : List (Frame S) → Option (Frame S)
  last_of fs = slice_get fs (length fs - 1)

  -- the list with this in place of the innermost frame
  abbrev pub with_last : List (Frame S) → Frame S → List (Frame S)
  with_last fs f = slice_set fs (length fs - 1) f

  -- the scope of a frame: that of the call whose body it is, where the call opened one
  abbrev pub scope_of : Frame S → Option S
  scope_of (Frame.Body method place catch scope) = scope
  scope_of _ = None

  -- the frame with this in place of its scope
  abbrev pub with_scope : Frame S → S → Frame S
  with_scope (Frame.Body method place catch (Some old)) scope = Frame.Body method place catch (Some scope)
  with_scope frame scope = frame

  -- the innermost scope
  abbrev pub innermost : List (Frame S) → Option S
  innermost [] = None
  innermost (f ∷ fs) = option_or (innermost fs) (scope_of f)

  -- the frames with this in place of the innermost scope
  abbrev pub with_innermost : List (Frame S) → S → List (Frame S)
  with_innermost [] scope = []
  with_innermost (f ∷ fs) scope =
      elim (is_some (innermost fs)) [ true ↦ f ∷ with_innermost fs scope | false ↦ with_scope f scope ∷ fs ]
