-- One row more, and none left.
use Rattle.std.proofs.Common.{FitsSigned, w64, rules}
use Rattle.std.proofs.lemmas.Int.{to_z-of_z}
use Rattle.std.proofs.lemmas.Slice.Zip.{either_empty_from_Zip}
use Rattle.stx_report.proofs.TextLaws.{row_step, rows_end}
use Rattle.stx_report.proofs.rows.sorted_rows.Goals as goal

pub loop-name-preserved-in_ok-insert : goal.loop-name-preserved-in_ok-insert
loop-name-preserved-in_ok-insert c =
    let fits : FitsSigned w64 c.in-Some-value.value = search rules in
    row_step c.loop-name.rows.entries _ c.as_str.result c.in-Some-value.value _ _ _ _ _ _ _
    c.in-Some.ensures.steps.0 c.in-Some.ensures.steps.1 c.in-Some-value.is c.as_str.ensures
    (simp to_z-of_z at c.in_ok-insert.ensures.entries)
    c.loop-name.invariant

pub returns : goal.returns
returns c =
    rows_end _ _ _ _ (either_empty_from_Zip c.loop-name.name-iterator c.next.new.self c.next.result c.in-None.is c.next.ensures.steps)
    c.loop-name.invariant
