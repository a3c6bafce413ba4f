-- The text so far, and then that of the lines that are left, is the whole text.
use Rattle.std.proofs.Common.{◌≡◌, ◌++◌, drop}
use Rattle.stx_base.specs.Report.{lines_text}
use Rattle.stx_report.proofs.clients.push_lines.Given as goal

abbrev pub invariant-loop-line : goal.invariant-loop-line
invariant-loop-line l =
    l.out.items ++ lines_text l.scenario l.pool_rest l.store_rest (drop l.line-index l.lines)
    ≡ l.initial.out.items ++ lines_text l.scenario l.pool l.store l.lines
