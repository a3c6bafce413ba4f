-- The first values, and nothing to go back to.
use Rattle.std.proofs.Common.{sym, ap, ◌∙◌}
use Rattle.std.specs.Bool.{nat_eq}
use Rattle.std.specs.Map.{lookup}
use Rattle.stx_rows.proofs.RowsLaws.{values-at, older-at, stack_in}
use Rattle.stx_base.proofs.RowLaws.{first_rows-at}
use Rattle.stx_rows.proofs.rows.Rows.new.Goals as goal

pub returns-clause-values : goal.returns-clause-values
returns-clause-values c k = values-at c.in_ok-slots.slots.entries k ∙ c.in_ok-slots.ensures k ∙ sym (first_rows-at c.args.values.now k)

pub returns-clause-older : goal.returns-clause-older
returns-clause-older c t = older-at c.new.result.entries t ∙ ap (λ es. stack_in (lookup (nat_eq t) es)) c.new.ensures.empty
