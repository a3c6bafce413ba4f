-- The text so far, and then that of the entries that are left, is the whole text; and each commit is an entry.
use Rattle.std.proofs.Common.{◌≡◌, ◌+◌, ◌≤◌, ◌++◌, drop}
use Rattle.stx_base.specs.Report.{journal_text}
use Rattle.stx_report.proofs.journal.push_journal.Given as goal

abbrev pub invariant-loop-index : goal.invariant-loop-index
invariant-loop-index l =
    (l.out.items ++ journal_text (l.commits + 1) (l.index + 1) (drop l.index l.entries)
    ≡ l.initial.out.items ++ journal_text 1 1 l.entries)
    × (l.commits ≤ l.index)
