-- The last map's values are put back.
use Rattle.std.proofs.Common.{◌==◌, cond, sym, ap, ◌∙◌}
use Rattle.std.specs.Bool.{nat_eq}
use Rattle.std.specs.Option.{option_map, unwrap_or}
use Rattle.std.specs.Ordering.{nat_cmp}
use Rattle.std.specs.Map.{lookup}
use Rattle.std.specs.FinMap.{get, find}
use Rattle.stx_rows.specs.Rows.{emptied, put_back_last, stack_of}
use Rattle.stx_rows.specs.inner.Undoing.{slot_map, stack_map, levels_in, innermost_level, emptied_level}
use Rattle.stx_rows.proofs.RowsLaws.{values-at, older-at, stack_of-at, edited-stack, edited-places, places-emptied, stack-emptied, put_back_last-at}
use Rattle.stx_rows.proofs.rows.Rows.back_to.Goals as goal

pub invariant_of-self : goal.invariant_of-self
invariant_of-self c =
    let old = c.self.inside.undo.entries in
    let slots = c.self.inside.slots.entries in
    let now = c.put_back_in.new.slots.entries in
    let at = lookup (nat_eq c.args.tx) old in
    edited-places slots now old c.put_back_in.new.undo.entries c.args.tx (option_map emptied_level at) c.self.invariant c.put_back_in.ensures.stays c.put_back_in.ensures.undo
    (places-emptied slots now at (c.self.invariant c.args.tx) c.put_back_in.ensures.stays)

pub returns-clause-values : goal.returns-clause-values
returns-clause-values c k =
    let slots = c.self.inside.slots.entries in
    let levels = levels_in (lookup (nat_eq c.args.tx) c.self.inside.undo.entries) in
    values-at c.put_back_in.new.slots.entries k
    ∙ c.put_back_in.ensures.values k
    ∙ ap (unwrap_or (find nat_cmp k (innermost_level levels))) (sym (values-at slots k))
    ∙ sym (put_back_last-at (slot_map slots) levels k)
    ∙ ap (λ s. get (put_back_last (slot_map slots) s) k) (sym (stack_of-at c.self.inside.undo.entries c.args.tx))
    ∙ ap (λ v. get (put_back_last v.values (stack_of v c.args.tx)) k) c.self.view_is

pub returns-clause-older : goal.returns-clause-older
returns-clause-older c t =
    let old = c.self.inside.undo.entries in
    let at = lookup (nat_eq c.args.tx) old in
    edited-stack old c.put_back_in.new.undo.entries c.args.tx (option_map emptied_level at) (option_map emptied (get (stack_map old) c.args.tx)) c.put_back_in.ensures.undo
    (stack-emptied at ∙ ap (option_map emptied) (sym (older-at old c.args.tx))) t
    ∙ ap (λ v. cond (t == c.args.tx) (option_map emptied (get v.older c.args.tx)) (get v.older t)) c.self.view_is
