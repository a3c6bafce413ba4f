-- The text so far, and then that of the clients that are left, is the whole text.
use Rattle.std.proofs.Common.{◌≡◌, ◌++◌, drop}
use Rattle.stx_base.specs.Report.{clients_text}
use Rattle.stx_report.proofs.clients.push_clients.Given as goal

abbrev pub invariant-loop-client : goal.invariant-loop-client
invariant-loop-client l =
    l.out.items ++ clients_text l.scenario l.outcome l.client (drop l.client l.lines-items)
    ≡ l.initial.out.items ++ clients_text l.scenario l.outcome 0 l.lines-items
