-- All older values are put back.
use Rattle.std.proofs.Common.{◌≡◌, ◌==◌, cond, None, map, refl, sym, ap, ◌∙◌}
use Rattle.std.specs.Bool.{nat_eq}
use Rattle.std.specs.Option.{unwrap_or, is_some}
use Rattle.std.specs.Ordering.{nat_cmp}
use Rattle.std.specs.Map.{lookup}
use Rattle.std.specs.FinMap.{get, find, from_entries}
use Rattle.stx_rows.specs.Rows.{put_back_all, stack_of}
use Rattle.stx_rows.specs.inner.Undoing.{value_of, slot_map, levels_in, flat, innermost_level}
use Rattle.stx_rows.proofs.RowsLaws.{values-at, stack_of-at, edited-by, edited-stack, put_back_all-at}
use Rattle.stx_rows.proofs.rows.Rows.undo.Goals as goal

pub put_back-requires : goal.put_back-requires
put_back-requires c =
    let all : flat c.forget_all.new.self ≡ flat (levels_in (lookup (nat_eq c.args.tx) c.self.inside.undo.entries)) = ap flat c.forget_all.ensures ∙ ap (λ o. flat (levels_in o)) c.in-Some.ensures.value in
    λ k h. c.self.invariant c.args.tx k (ap (λ es. is_some (find nat_cmp k es)) (sym all) ∙ h)

pub returns-in-Some-clause-values : goal.returns-in-Some-clause-values
returns-in-Some-clause-values c k =
    let slots = c.self.inside.slots.entries in
    let levels = levels_in (lookup (nat_eq c.args.tx) c.self.inside.undo.entries) in
    let all : innermost_level c.forget_all.new.self ≡ flat levels = ap innermost_level c.forget_all.ensures ∙ ap (λ o. flat (levels_in o)) c.in-Some.ensures.value in
    values-at c.put_back.new.slots.entries k
    ∙ c.put_back.ensures.values k
    ∙ ap (λ es. unwrap_or (find nat_cmp k es) (value_of (lookup (nat_eq k) slots))) all
    ∙ ap (unwrap_or (find nat_cmp k (flat levels))) (sym (values-at slots k))
    ∙ sym (put_back_all-at (slot_map slots) levels k)
    ∙ ap (λ s. get (put_back_all (slot_map slots) s) k) (sym (stack_of-at c.self.inside.undo.entries c.args.tx))
    ∙ ap (λ v. get (put_back_all v.values (stack_of v c.args.tx)) k) c.self.view_is

pub returns-in-Some-clause-older : goal.returns-in-Some-clause-older
returns-in-Some-clause-older c t =
    edited-stack c.self.inside.undo.entries c.swap_remove.new.self.entries c.args.tx None None (edited-by c.self.inside.undo.entries c.swap_remove.new.self.entries c.args.tx None (c.in-Some.ensures.updates.0)) refl t
    ∙ ap (λ v. cond (t == c.args.tx) None (get v.older t)) c.self.view_is

pub returns-in_default-clause-values : goal.returns-in_default-clause-values
returns-in_default-clause-values c k =
    let slots = c.self.inside.slots.entries in
    ap (λ o. get (put_back_all (slot_map slots) (map from_entries (levels_in o))) k) c.in_default.ensures.value
    ∙ ap (λ s. get (put_back_all (slot_map slots) s) k) (sym (stack_of-at c.self.inside.undo.entries c.args.tx))
    ∙ ap (λ v. get (put_back_all v.values (stack_of v c.args.tx)) k) c.self.view_is

pub returns-in_default-clause-older : goal.returns-in_default-clause-older
returns-in_default-clause-older c t =
    edited-stack c.self.inside.undo.entries c.swap_remove.new.self.entries c.args.tx None None (edited-by c.self.inside.undo.entries c.swap_remove.new.self.entries c.args.tx None (c.in_default.ensures.updates.0)) refl t
    ∙ ap (λ v. cond (t == c.args.tx) None (get v.older t)) c.self.view_is
