-- One empty level more.
use Rattle.std.proofs.Common.{◌==◌, cond, [], ◌∷◌, sym, ap, ◌∙◌}
use Rattle.std.specs.Bool.{nat_eq}
use Rattle.std.specs.Option.{option_map}
use Rattle.std.specs.Map.{lookup}
use Rattle.std.specs.FinMap.{get, empty}
use Rattle.stx_rows.specs.inner.Undoing.{stack_map}
use Rattle.stx_rows.proofs.RowsLaws.{older-at, edited-stack, edited-places, same-stack, same-places, places-opened, stack-opened, on_err}
use Rattle.stx_rows.proofs.rows.Rows.point.Goals as goal

pub invariant_of-self : goal.invariant_of-self
invariant_of-self c = same-places c.self.inside.slots.entries c.self.inside.slots.entries c.self.inside.undo.entries c.mark_in.new.undo.entries c.self.invariant (λ k h. h) c.in_err-mark_in.ensures.err

pub returns-in_err-mark_in-clause-err : goal.returns-in_err-mark_in-clause-err
returns-in_err-mark_in-clause-err c =
    on_err c.from_residual.result
    (λ t. same-stack c.self.inside.undo.entries c.mark_in.new.undo.entries c.args.tx c.in_err-mark_in.ensures.err t ∙ ap (λ v. cond (t == c.args.tx) (get v.older c.args.tx) (get v.older t)) c.self.view_is)

pub invariant_of-self-2 : goal.invariant_of-self-2
invariant_of-self-2 c =
    let old = c.self.inside.undo.entries in
    let slots = c.self.inside.slots.entries in
    let at = lookup (nat_eq c.args.tx) old in
    edited-places slots slots old c.mark_in.new.undo.entries c.args.tx (option_map (λ levels. [] ∷ levels) at) c.self.invariant (λ k h. h) c.in_ok-mark_in.ensures.ok (places-opened slots at (c.self.invariant c.args.tx))

pub returns-clause-ok : goal.returns-clause-ok
returns-clause-ok c t =
    let old = c.self.inside.undo.entries in
    let at = lookup (nat_eq c.args.tx) old in
    edited-stack old c.mark_in.new.undo.entries c.args.tx (option_map (λ levels. [] ∷ levels) at) (option_map (λ stack. empty ∷ stack) (get (stack_map old) c.args.tx)) c.in_ok-mark_in.ensures.ok
    (stack-opened at ∙ ap (option_map (λ stack. empty ∷ stack)) (sym (older-at old c.args.tx))) t
    ∙ ap (λ v. cond (t == c.args.tx) (option_map (λ stack. empty ∷ stack) (get v.older c.args.tx)) (get v.older t)) c.self.view_is
