-- One value more.
use Rattle.std.proofs.Common.{◌∙◌}
use Rattle.std.specs.Bool.{nat_eq}
use Rattle.std.specs.Map.{lookup}
use Rattle.stx_rows.proofs.RowsLaws.{placed-more}
use Rattle.stx_rows.proofs.rows.first_slots.Goals as goal

pub loop-place-preserved : goal.loop-place-preserved
loop-place-preserved c k =
    placed-more c.args.values.now c.loop-place.place k c.copied.result (lookup (nat_eq k) c.loop-place.slots.entries) (lookup (nat_eq k) c.insert.new.self.entries)
    (c.copied.ensures ∙ c.get.ensures) (c.loop-place.invariant k) (c.in_ok-insert.ensures.updates.0 k)
