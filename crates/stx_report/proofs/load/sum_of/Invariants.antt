-- The sum so far, and that of the values that are left, is the whole; each value adds at most 2^63 to what it may be.
use Rattle.std.proofs.Common.{◌≡◌, ◌*◌, ◌≤◌, ◌^◌, drop}
use Rattle.std.specs.Prelude.{◌+ℤ◌, unsigned_abs}
use Rattle.stx_report.specs.SummaryText.{sum_of}
use Rattle.stx_report.proofs.load.sum_of.Given as goal

abbrev pub invariant-loop-value : goal.invariant-loop-value
invariant-loop-value l =
    (l.sum +ℤ sum_of (drop l.value-index l.values) ≡ sum_of l.values)
    × (unsigned_abs l.sum ≤ 2 ^ 63 * l.value-index)
