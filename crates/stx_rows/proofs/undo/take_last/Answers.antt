-- One entry less.
use Rattle.std.proofs.Common.{◌≡◌, ◌==◌, ◌&&◌, None, cond, length, ap, ◌∙◌, subst}
use Rattle.std.specs.Ordering.{nat_cmp}
use Rattle.std.specs.BTreeMap.{get}
use Rattle.stx_rows.specs.inner.Undoing.{FirstsAre, stands_at}
use Rattle.stx_rows.proofs.UndoLaws.{firsts-less}
use Rattle.stx_rows.proofs.undo.take_last.Goals as goal

pub returns-clause-firsts : goal.returns-clause-firsts
returns-clause-firsts c =
    let place : c.len.result ≡ length c.pop.new.self.items = c.len.ensures ∙ c.pop.new.self.ok.0 in
    firsts-less c.args.first.now c.drop_first.new.first c.pop.new.self.items (c.in_ok-row.row, c.in_ok-row.value)
    (subst (FirstsAre c.args.first.now) c.in_ok-row.ensures.items c.requires)
    (λ k. c.drop_first.ensures.gone k ∙ ap (λ n. cond ((k == c.in_ok-row.row) && stands_at (get nat_cmp c.args.first.now k) n) None (get nat_cmp c.args.first.now k)) place)
