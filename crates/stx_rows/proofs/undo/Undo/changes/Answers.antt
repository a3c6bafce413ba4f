-- The changes are made in order, each row's once.
use Rattle.std.proofs.Common.{rules, ◌≡◌, ◌++◌, ◌∷◌, ℕ, [], List, Option, Some, None, length, map, filter_map, reverse, refl, sym, ap, ◌∙◌, subst, arith, length-append}
use Rattle.std.specs.Option.{option_to_list}
use Rattle.std.specs.List.{cons_option}
use Rattle.std.specs.Map.Iter.{deref_pair}
use Rattle.std.proofs.lemmas.Cmp.{nat_cmp_total}
use Rattle.std.proofs.lemmas.List.{map-append}
use Rattle.std.proofs.lemmas.List.Elements.{filter_map-append}
use Rattle.std.proofs.lemmas.Map.Iter.{iter_end, btree_map_turn}
use Rattle.stx_rows.specs.declared.undo.First.{First}
use Rattle.stx_rows.specs.inner.Undoing.{Older, change_of, change_row, flat, WereValues}
use Rattle.stx_rows.proofs.UndoLaws.{flat-levels}
use Rattle.stx_rows.proofs.ChangeLaws.{change_now, changes_are_net}
use Rattle.stx_rows.proofs.undo.Undo.changes.Goals as goal

kept_one : (f : ℕ × First → Option Older) (x : ℕ × First) → filter_map f (x ∷ []) ≡ option_to_list (f x)
kept_one f x = one (f x)
  where
    one : (o : Option Older) → cons_option o [] ≡ option_to_list o
    one None = refl
    one (Some e) = refl

made_more : (f : ℕ × First → Option Older) (xs : List (ℕ × First)) (x : ℕ × First)
    → map change_row (filter_map f xs) ++ map change_row (option_to_list (f x)) ≡ map change_row (filter_map f (xs ++ x ∷ []))
made_more f xs x =
    sym (map-append change_row (filter_map f xs) (option_to_list (f x)))
    ∙ ap (λ es. map change_row (filter_map f xs ++ es)) (sym (kept_one f x))
    ∙ ap (map change_row) (sym (filter_map-append f xs (x ∷ [])))

nothing : {X : Type 0} (xs : List X) → length xs ≡ 0 → xs ≡ []
nothing [] h = refl
nothing (x ∷ xs) h = absurd (omega arith)

pub loop-row-init : goal.loop-row-init
loop-row-init c = record {
  made = nothing c.self.inside.changes.items (omega (arith, c.self.invariant.none, c.self.inside.changes.ok.0));
  few = omega (arith, c.self.invariant.none);
  room = c.self.invariant.fits;
}

pub push_change-requires : goal.push_change-requires
push_change-requires c =
    let gives = c.into_iter-row-iterator.ensures.into_iter_gives in
    let turn = btree_map_turn deref_pair c.loop-row.yielded c.into_iter-row-iterator.result c.loop-row.row-iterator c.next.new.self c.next.result (c.in-Some.row, c.in-Some.had)
    c.loop-row.yielded_by c.in-Some.is c.next.ensures.steps nat_cmp_total c.self.inside.first gives.0 gives.5 in
    omega (arith, turn.0, c.loop-row.invariant.few, c.loop-row.invariant.room)

pub loop-row-preserved : goal.loop-row-preserved
loop-row-preserved c =
    let f = change_now c.args.slots.now in
    let x : ℕ × First = (c.in-Some.row.now, c.in-Some.had.now) in
    let one : c.push_change.new.changes.items ≡ c.loop-row.changes.items ++ map change_row (option_to_list (f x)) =
    c.push_change.ensures.items ∙ ap (λ now. c.loop-row.changes.items ++ map change_row (option_to_list (change_of c.in-Some.row.now c.in-Some.had.now.value now))) c.value_of.ensures in
    record {
      made =
          one
          ∙ ap (λ es. es ++ map change_row (option_to_list (f x))) c.loop-row.invariant.made
          ∙ made_more f (map deref_pair c.loop-row.yielded) x
          ∙ ap (λ es. map change_row (filter_map f es)) (sym (map-append deref_pair c.loop-row.yielded ((c.in-Some.row, c.in-Some.had) ∷ [])));
      few = omega (arith, c.push_change.ensures.len, c.loop-row.invariant.few, length-append c.loop-row.yielded ((c.in-Some.row, c.in-Some.had) ∷ []));
      room = omega (arith, c.push_change.ensures.capacity, c.loop-row.invariant.room);
    }

pub returns : goal.returns
returns c before now are were =
    let gives = c.into_iter-row-iterator.ensures.into_iter_gives in
    let whole : map deref_pair c.loop-row.yielded ≡ c.self.inside.first.entries = search (rules, iter_end) in
    let all : flat c.args.self ≡ c.self.inside.older.items = sym (ap flat c.self.view_is) ∙ flat-levels c.self.inside.older.items (reverse c.self.inside.marks.items) in
    c.from_vec.ensures
    ∙ c.loop-row.invariant.made
    ∙ ap (λ es. map change_row (filter_map (change_now c.args.slots.now) es)) whole
    ∙ sym (changes_are_net c.args.slots.now c.self.inside.first c.self.inside.older.items before now gives.5 c.self.invariant.firsts are (subst (λ es. WereValues es before now) all were))
