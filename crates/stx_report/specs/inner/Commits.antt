-- The words of who made a commit.
use Rattle.std.specs.Prelude.{ℕ, List, ◌++◌, codes}
use Rattle.std.specs.Fmt.{decimal}
use Rattle.stx_report.specs.declared.journal.Made.{Made}

abbrev pub made_words : Made → List ℕ
made_words (Made.Transaction t) = codes "tx " ++ decimal t
made_words Made.OwnStatement = codes "auto"
