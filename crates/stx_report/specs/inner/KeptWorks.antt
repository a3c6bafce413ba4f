-- What is kept of the work of each transaction of a map.
use Rattle.std.specs.Prelude.{ℕ, unwrap_or}
use Rattle.std.specs.Ordering.{nat_cmp}
use Rattle.std.specs.BTreeMap as tree
use Rattle.stx_report.specs.inner.Kept.{Kept, nothing}

-- of a transaction that the map doesn't have, nothing
abbrev pub kept_by : tree.BTreeMap ℕ Kept → ℕ → Kept
kept_by works t = unwrap_or (tree.get nat_cmp works t) nothing
