-- No call was made.
use Rattle.std.proofs.Common.{sym, ap, ◌∙◌}
use Rattle.std.specs.FinMap.{get}
use Rattle.stx_store.proofs.FitLaws.{new-kept}
use Rattle.stx_store.proofs.CoreLaws.{core-new}
use Rattle.stx_base.specs.Alone.{first_rows}
use Rattle.stx_store.proofs.store.StoreCore.new.Goals as goal

pub invariant_of-result : goal.invariant_of-result
invariant_of-result c =
    core-new _ c.new-2.result.items _ _ c.new-3.result c.in_ok-rows.rows c.new-4.result c.new-2.ensures.items (new-kept _ c.new-2.result.items _ _ c.new-2.ensures.items c.new-2.ensures.len) c.new-3.ensures
    (λ k. c.in_ok-rows.ensures.values k ∙ ap (λ values. get (first_rows values) k) (sym (c.from_vec.ensures ∙ c.in_ok-values.ensures.items ∙ c.as_slice.ensures)))
    c.new-4.ensures
