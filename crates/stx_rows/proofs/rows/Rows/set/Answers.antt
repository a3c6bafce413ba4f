-- The value is exchanged, and what the row held is noted, or else put back.
use Rattle.std.proofs.Common.{◌≡◌, ℕ, ◌==◌, true, cond, sym, ap, ◌∙◌}
use Rattle.std.specs.Bool.{nat_eq}
use Rattle.std.specs.Option.{option_map, is_some}
use Rattle.std.specs.Map.{lookup}
use Rattle.std.specs.FinMap.{get}
use Rattle.stx_rows.specs.Rows.{kept_last}
use Rattle.stx_rows.specs.inner.Undoing.{value_of, slot_map, stack_map, noted}
use Rattle.stx_rows.proofs.RowsLaws.{values-at, older-at, edited-stack, edited-places, same-stack, places-noted, stack-noted, on_err, exchanged_back}
use Rattle.stx_rows.proofs.rows.Rows.set.Goals as goal

pub returns-in_err-before-clause-err : goal.returns-in_err-before-clause-err
returns-in_err-before-clause-err c =
    on_err c.from_residual.result
    (λ k. values-at c.exchange.new.slots.entries k ∙ c.in_err-before.ensures.err k ∙ sym (values-at c.self.inside.slots.entries k) ∙ ap (λ v. get v.values k) c.self.view_is)

pub returns-in-Err-clause-err : goal.returns-in-Err-clause-err
returns-in-Err-clause-err c k =
    let old = c.self.inside.slots.entries in
    let row = c.args.row.0 in
    let before = c.in_ok-before.before in
    values-at c.set.new.slots.entries k
    ∙ c.set.ensures.value k
    ∙ ap (cond (k == row) before) (c.in_ok-before.ensures.value k)
    ∙ exchanged_back k row (λ j. value_of (lookup (nat_eq j) old)) before c.args.value c.in_ok-before.ensures.before
    ∙ sym (values-at old k)
    ∙ ap (λ v. get v.values k) c.self.view_is

pub returns-in-Err-clause-err_older : goal.returns-in-Err-clause-err_older
returns-in-Err-clause-err_older c t =
    same-stack c.self.inside.undo.entries c.note_in.new.undo.entries c.args.tx c.in-Err.ensures.err t ∙ ap (λ v. cond (t == c.args.tx) (get v.older c.args.tx) (get v.older t)) c.self.view_is

pub invariant_of-self-in-Ok : goal.invariant_of-self-in-Ok
invariant_of-self-in-Ok c =
    let old = c.self.inside.undo.entries in
    let slots = c.self.inside.slots.entries in
    let now = c.exchange.new.slots.entries in
    let at = lookup (nat_eq c.args.tx) old in
    let before = c.in_ok-before.before in
    let stays : (k : ℕ) → is_some (lookup (nat_eq k) slots) ≡ true → is_some (lookup (nat_eq k) now) ≡ true = λ k h. c.in_ok-before.ensures.stays k h in
    edited-places slots now old c.note_in.new.undo.entries c.args.tx (option_map (λ levels. noted levels (c.args.row.0, before)) at) c.self.invariant stays c.in-Ok.ensures.ok
    (places-noted now at c.args.row.0 before (λ k h. stays k (c.self.invariant c.args.tx k h)) c.in_ok-before.ensures.placed)

pub returns-in-Ok-clause-values : goal.returns-in-Ok-clause-values
returns-in-Ok-clause-values c k =
    values-at c.exchange.new.slots.entries k
    ∙ c.in_ok-before.ensures.value k
    ∙ ap (cond (k == c.args.row.0) c.args.value) (sym (values-at c.self.inside.slots.entries k))
    ∙ ap (λ v. cond (k == c.args.row.0) c.args.value (get v.values k)) c.self.view_is

pub returns-in-Ok-clause-older : goal.returns-in-Ok-clause-older
returns-in-Ok-clause-older c t =
    let old = c.self.inside.undo.entries in
    let slots = c.self.inside.slots.entries in
    let at = lookup (nat_eq c.args.tx) old in
    let before = c.in_ok-before.before in
    let was : before ≡ get (slot_map slots) c.args.row.0 = c.in_ok-before.ensures.before ∙ sym (values-at slots c.args.row.0) in
    edited-stack old c.note_in.new.undo.entries c.args.tx (option_map (λ levels. noted levels (c.args.row.0, before)) at) (option_map (kept_last c.args.row.0 before) (get (stack_map old) c.args.tx)) c.in-Ok.ensures.ok
    (stack-noted at c.args.row.0 before ∙ ap (option_map (kept_last c.args.row.0 before)) (sym (older-at old c.args.tx))) t
    ∙ ap (λ b. cond (t == c.args.tx) (option_map (kept_last c.args.row.0 b) (get (stack_map old) c.args.tx)) (get (stack_map old) t)) was
    ∙ ap (λ v. cond (t == c.args.tx) (option_map (kept_last c.args.row.0 (get v.values c.args.row.0)) (get v.older c.args.tx)) (get v.older t)) c.self.view_is
