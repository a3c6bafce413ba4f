-- A live transaction has an undo list, whose changes are net.
use Rattle.std.proofs.Common.{◌≡◌, ◌==◌, cond, None, map, refl, sym, ap, ◌∙◌, subst}
use Rattle.std.specs.Option.{IsSome}
use Rattle.std.specs.FinMap.{get, from_entries}
use Rattle.std.proofs.lemmas.Bool.{false≢true}
use Rattle.stx_base.specs.Alone.{net}
use Rattle.stx_rows.specs.Rows.{put_back_all, stack_of}
use Rattle.stx_rows.specs.inner.Undoing.{slot_map, levels_in}
use Rattle.stx_rows.proofs.RowsLaws.{values-at, older-at, stack_of-at, stack_in, edited-by, edited-stack, put_back_all-at}
use Rattle.stx_rows.proofs.rows.Rows.changes.Goals as goal

pub unreachable-requires : goal.unreachable-requires
unreachable-requires c =
    let none : get c.args.self.now.older c.args.tx ≡ None = sym (ap (λ v. get v.older c.args.tx) c.self.view_is) ∙ older-at c.self.inside.undo.entries c.args.tx ∙ ap stack_in (sym c.in-None.ensures.value) in
    false≢true (subst IsSome none c.requires)

pub returns-clause-changes : goal.returns-clause-changes
returns-clause-changes c =
    let slots = c.self.inside.slots.entries in
    c.changes.ensures (put_back_all (slot_map slots) (map from_entries c.in-Some.undo)) (slot_map slots) (λ k. values-at slots k) (λ k. put_back_all-at (slot_map slots) c.in-Some.undo k)
    ∙ ap (λ s. net (put_back_all (slot_map slots) s) (slot_map slots)) (ap (λ o. map from_entries (levels_in o)) c.in-Some.ensures.value ∙ sym (stack_of-at c.self.inside.undo.entries c.args.tx))
    ∙ ap (λ v. net (put_back_all v.values (stack_of v c.args.tx)) v.values) c.self.view_is

pub returns-clause-older : goal.returns-clause-older
returns-clause-older c t =
    edited-stack c.self.inside.undo.entries c.swap_remove.new.self.entries c.args.tx None None (edited-by c.self.inside.undo.entries c.swap_remove.new.self.entries c.args.tx None (c.in-Some.ensures.updates.0)) refl t
    ∙ ap (λ v. cond (t == c.args.tx) None (get v.older t)) c.self.view_is
