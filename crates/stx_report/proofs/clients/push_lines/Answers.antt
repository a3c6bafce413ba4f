-- One line more, and none left.
use Rattle.std.proofs.Common.{refl}
use Rattle.stx_report.proofs.TextLaws.{lines_step, lines_end}
use Rattle.stx_report.proofs.clients.push_lines.Goals as goal

pub loop-line-preserved : goal.loop-line-preserved
loop-line-preserved c =
    lines_step c.args.scenario.now c.loop-line.pool_rest.now c.loop-line.store_rest.now _ _ c.args.lines.now c.loop-line.line-index _ _ _ _ _ _ _
    c.loop-line-test.true refl c.of-history.ensures c.next_place.ensures c.pool_left-pool_rest.ensures c.store_left-store_rest.ensures
    c.in_ok-push_line.ensures.ok c.loop-line.invariant

pub returns : goal.returns
returns c =
    lines_end c.args.scenario.now c.loop-line.pool_rest.now c.loop-line.store_rest.now c.args.lines.now c.loop-line.line-index _ _
    c.loop-line-test.false c.loop-line.invariant
