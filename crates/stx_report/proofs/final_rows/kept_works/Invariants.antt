-- What is kept of each transaction's work so far.
use Rattle.std.proofs.Common.{◌≡◌, ℕ, take}
use Rattle.stx_base.specs.Histories.{store_notes}
use Rattle.stx_base.specs.Stores.{work}
use Rattle.stx_report.specs.inner.Kept.{kept_of}
use Rattle.stx_report.specs.inner.KeptWorks.{kept_by}
use Rattle.stx_report.proofs.final_rows.kept_works.Given as goal

abbrev pub invariant-loop-entry : goal.invariant-loop-entry
invariant-loop-entry l = (t : ℕ) → kept_by l.works t ≡ kept_of (work (store_notes (take l.entry-index l.entries)) t)
