-- The last map moves into the one below.
use Rattle.std.proofs.Common.{◌==◌, cond, sym, ap, ◌∙◌}
use Rattle.std.specs.Bool.{nat_eq}
use Rattle.std.specs.Option.{option_map}
use Rattle.std.specs.Map.{lookup}
use Rattle.std.specs.FinMap.{get}
use Rattle.stx_rows.specs.Rows.{dropped}
use Rattle.stx_rows.specs.inner.Undoing.{stack_map, joined}
use Rattle.stx_rows.proofs.RowsLaws.{older-at, edited-stack, edited-places, places-joined, stack-joined}
use Rattle.stx_rows.proofs.rows.Rows.forget.Goals as goal

pub invariant_of-self : goal.invariant_of-self
invariant_of-self c =
    let old = c.self.inside.undo.entries in
    let slots = c.self.inside.slots.entries in
    let at = lookup (nat_eq c.args.tx) old in
    edited-places slots slots old c.forget_in.new.undo.entries c.args.tx (option_map joined at) c.self.invariant (λ k h. h) c.forget_in.ensures (places-joined slots at (c.self.invariant c.args.tx))

pub returns-clause-older : goal.returns-clause-older
returns-clause-older c t =
    let old = c.self.inside.undo.entries in
    let at = lookup (nat_eq c.args.tx) old in
    edited-stack old c.forget_in.new.undo.entries c.args.tx (option_map joined at) (option_map dropped (get (stack_map old) c.args.tx)) c.forget_in.ensures
    (stack-joined at ∙ ap (option_map dropped) (sym (older-at old c.args.tx))) t
    ∙ ap (λ v. cond (t == c.args.tx) (option_map dropped (get v.older c.args.tx)) (get v.older t)) c.self.view_is
