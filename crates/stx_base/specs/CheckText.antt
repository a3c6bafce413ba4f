-- The text that answers a check.
use Rattle.std.specs.Prelude.{ℕ, List, ◌++◌, codes}
use Rattle.std.specs.Fmt.{decimal}
use Rattle.stx_base.specs.Lines.{line_feed}

-- a scenario that is accepted, with its weight
abbrev pub check_words : ℕ → List ℕ
check_words weight = codes "accepted weight " ++ decimal weight ++ line_feed
