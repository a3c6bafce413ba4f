-- What keeps a class from standing in a tree.
use Rattle.std.specs.Prelude.{ℕ, Bool}
use Rattle.stx_base.specs.Classes.{Parents, has_unknown_parent, is_own_ancestor, is_too_deep}
use Rattle.stx_classes.specs.declared.steps.Flaw.{Flaw}

abbrev pub has_flaw : Flaw → Parents → ℕ → Bool
has_flaw Flaw.UnknownParent = has_unknown_parent
has_flaw Flaw.OwnAncestor = is_own_ancestor
has_flaw Flaw.TooDeep = is_too_deep
