use Rattle.std.proofs.Common.{length, sym, ◌∙◌}
use Rattle.stx_classes.specs.inner.Flaws.{has_flaw}
use Rattle.stx_classes.proofs.SearchLaws.{not_here}
use Rattle.stx_classes.proofs.steps.first_with.Goals as goal

pub loop-number-preserved : goal.loop-number-preserved
loop-number-preserved c =
    let P = c.args.parents.now in
    c.loop-number.invariant ∙ not_here (has_flaw c.args.flaw P) c.loop-number.number (length P) c.loop-number-test.true (sym c.if-has_flaw.ensures)
