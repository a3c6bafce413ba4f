-- The sum is written, or is no value.
use Rattle.std.proofs.Common.{rules, ◌≡◌, ◌∙◌, Some, None, sym, ap, FitsSigned, w64}
use Rattle.std.proofs.Math.Facts.{to_z-of_z}
use Rattle.stx_base.specs.declared.history.Access.{Access}
use Rattle.stx_model.specs.Meanings.{Result}
use Rattle.stx_model.specs.Statements.{value_of, access_row, nothing_more}
use Rattle.stx_machine.specs.Machine.{row_access, state_before, sum_of, onward}
use Rattle.stx_machine.proofs.Sums.{added_some, added_none}
use Rattle.stx_machine.proofs.machine.Machine.add.Goals as goal

pub returns-in-Some-clause-goes : goal.returns-in-Some-clause-goes
returns-in-Some-clause-goes c S n pool store =
    let more : FitsSigned w64 c.args.more = c.ranges.more in
    let value : FitsSigned w64 c.value_of.result = search rules in
    let sum : FitsSigned w64 c.in-Some.sum = search rules in
    let at = row_access c.args.place in
    let st = state_before c.args.self.now pool store in
    let rest : Result → Result = onward S n c.args.self.now in
    let summed : sum_of (value_of c.args.answer) c.args.more ≡ Some c.in-Some.sum =
    sym (c.summed.ensures ∙ (λ i. sum_of ((to_z-of_z value ∙ c.value_of.ensures) i) (to_z-of_z more i))) ∙ c.in-Some.is in
    ap rest (added_some at c.args.row st c.args.more c.in-Some.sum c.args.answer summed)
    ∙ ap (λ v. rest (access_row at (Access.Write c.args.row v) (nothing_more at) st)) (sym (to_z-of_z sum))
    ∙ c.want_write.ensures.goes S n pool store

pub returns-in-None-clause-goes : goal.returns-in-None-clause-goes
returns-in-None-clause-goes c S n pool store =
    let more : FitsSigned w64 c.args.more = c.ranges.more in
    let value : FitsSigned w64 c.value_of.result = search rules in
    let st = state_before c.args.self.now pool store in
    let rest : Result → Result = onward S n c.args.self.now in
    let summed : sum_of (value_of c.args.answer) c.args.more ≡ None =
    sym (c.summed.ensures ∙ (λ i. sum_of ((to_z-of_z value ∙ c.value_of.ensures) i) (to_z-of_z more i))) ∙ c.in-None.is in
    ap rest (added_none (row_access c.args.place) c.args.row st c.args.more c.args.answer summed) ∙ c.end_access.ensures.goes S n pool store

pub returns-in-Some-clause-sound : goal.returns-in-Some-clause-sound
returns-in-Some-clause-sound c S playable within = c.want_write.ensures.sound S within
