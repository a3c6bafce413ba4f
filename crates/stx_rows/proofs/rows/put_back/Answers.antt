-- The entry that is popped is put back.
use Rattle.std.proofs.Common.{◌==◌, cond, ◌∷◌, ap, ◌∙◌}
use Rattle.stx_rows.proofs.RowsLaws.{extended-popped, put_one, popped-placed}
use Rattle.stx_rows.proofs.rows.put_back.Goals as goal

pub set-requires : goal.set-requires
set-requires c =
    let (popped, whole, values, stays) = c.loop-row.invariant in
    popped-placed c.loop-row.slots.entries c.loop-row.undo c.pop.new.self c.args.undo.now c.in-Some.row c.in-Some.value popped c.in-Some.ensures whole (λ k h. stays k (c.requires k h))

pub loop-row-preserved : goal.loop-row-preserved
loop-row-preserved c =
    let (popped, whole, values, stays) = c.loop-row.invariant in (
      (c.in-Some.row, c.in-Some.value) ∷ popped,
      whole ∙ extended-popped c.loop-row.undo c.pop.new.self (c.in-Some.row, c.in-Some.value) popped c.in-Some.ensures,
      (λ k. put_one k c.in-Some.row c.in-Some.value _ _ popped (c.set.ensures.value k ∙ ap (cond (k == c.in-Some.row) c.in-Some.value) (values k))),
      (λ k h. c.set.ensures.stays k (stays k h)),
    )
