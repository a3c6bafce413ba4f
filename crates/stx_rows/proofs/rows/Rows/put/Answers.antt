-- The value that the row had is read, and then exchanged.
use Rattle.std.proofs.Common.{◌==◌, cond, sym, ap, ◌∙◌}
use Rattle.std.specs.FinMap.{get}
use Rattle.stx_rows.specs.Rows.{change_to}
use Rattle.stx_rows.proofs.RowsLaws.{values-at, on_err}
use Rattle.stx_rows.proofs.rows.Rows.put.Goals as goal

pub returns-in_err-exchange-clause-err : goal.returns-in_err-exchange-clause-err
returns-in_err-exchange-clause-err c =
    on_err c.from_residual-in_err-exchange.result
    (λ k. values-at c.exchange.new.slots.entries k ∙ c.in_err-exchange.ensures.err k ∙ sym (values-at c.self.inside.slots.entries k) ∙ ap (λ v. get v.values k) c.self.view_is)

pub returns-clause-changes : goal.returns-clause-changes
returns-clause-changes c =
    c.in_ok-changes.ensures
    ∙ ap (λ before. change_to before c.args.row c.args.value) (c.value_of.ensures ∙ sym (values-at c.self.inside.slots.entries c.args.row.0) ∙ ap (λ v. get v.values c.args.row.0) c.self.view_is)

pub returns-clause-values : goal.returns-clause-values
returns-clause-values c k =
    values-at c.exchange.new.slots.entries k
    ∙ c.in_ok-exchange.ensures.value k
    ∙ ap (cond (k == c.args.row.0) c.args.value) (sym (values-at c.self.inside.slots.entries k) ∙ ap (λ v. get v.values k) c.self.view_is)
