-- The first seat splits off a new one.
use Rattle.std.proofs.Common.{◌≡◌, ◌≢◌, ℕ, ◌<◌, ◌≤◌, ◌+◌, List, [], ◌∷◌, ◌++◌, length, map, set, get_or, Option, Some, None, refl, sym, ap, ◌∙◌, subst, inl, inr, ⊎_elim, arith, le_refl}
use Rattle.std.specs.Prelude.{option_map}
use Rattle.std.proofs.lemmas.List.{map-append}
use mathlib.Core.Option.{some, some-injective}
use lib.ListN.{get_elem?}
use Rattle.atomic_table.specs.Table.{State, Splits}
use Rattle.atomic_table.proofs.Lists.{at_set, set_else, at_longer}
use Rattle.stx_turn.specs.declared.view.View.{View}
use Rattle.stx_turn.specs.inner.Rule.{live_number, Knows, Apart, Kept}
use Rattle.stx_turn.specs.inner.Steps.{counting, newcomer}
use Rattle.stx_turn.proofs.Begins.{at_end}
use Rattle.stx_turn.proofs.Seats.{live_here, view_of, same_numbers, stage_stays}

module _ {V E F : Type 0} (fixed : V → F) (entries : V → List E) (maker : E → ℕ) (legal : F → List E → Type 0) (facts : F) where
  abbrev St : Type 0
  St = State (Option V) (View E F)

  abbrev Rule : St → Type 0
  Rule = Kept fixed entries maker legal facts

  number_within : (s : St) (r : Rule s) (id n : ℕ) → get_elem? (map live_number s.views) id ≡ some (Some n) → n ≤ r.made
  number_within s r id n e = let t = view_of s.views id n e in let k = r.each id t.0 t.1 t.2 t.3 in let within = k.within in let is = t.4 in omega arith

  -- the numbers with one more that is greater than all of them
  still_apart : (numbers : List (Option ℕ)) (made n : ℕ) → made < n → ((id m : ℕ) → get_elem? numbers id ≡ some (Some m) → m ≤ made) → Apart numbers → Apart (numbers ++ Some n ∷ [])
  still_apart numbers made n more within apart i j m at_i at_j =
      ⊎_elim
      (λ (old_i : get_elem? numbers i ≡ some (Some m)). ⊎_elim
      (λ (old_j : get_elem? numbers j ≡ some (Some m)). apart i j m old_i old_j)
      (λ (new_j : (j ≡ length numbers) × (Some n ≡ Some m)). let l = within i m old_i in let is : n ≡ m = let both = new_j.1 in cc in absurd (omega arith))
      (at_end numbers (Some n) (Some m) j at_j))
      (λ (new_i : (i ≡ length numbers) × (Some n ≡ Some m)). ⊎_elim
      (λ (old_j : get_elem? numbers j ≡ some (Some m)). let l = within j m old_j in let is : n ≡ m = let both = new_i.1 in cc in absurd (omega arith))
      (λ (new_j : (j ≡ length numbers) × (Some n ≡ Some m)). new_i.0 ∙ sym new_j.0)
      (at_end numbers (Some n) (Some m) j at_j))
      (at_end numbers (Some n) (Some m) i at_i)

  pub splits : (id : ℕ) (v : View E F) → v.fixed ≡ Some facts → v.number ≡ 0 → v.turn ≡ None → Splits Rule id v (counting v) (newcomer v)
  splits id v live zero_is free s r at =
      let w = counting v in
      let x = newcomer v in
      let k = r.each id v facts at live in
      let first = k.first zero_is in
      let made_is : v.made ≡ r.made = first.0 in
      let here = live_here s.views id v facts at live in
      let numbers : map live_number (set s.views id w ++ x ∷ []) ≡ map live_number s.views ++ Some (v.made + 1) ∷ [] =
      map-append live_number (set s.views id w) (x ∷ []) ∙ (λ i. same_numbers s.views id v w at refl i ++ option_map (λ (f : F). v.made + 1) (live i) ∷ []) in
      let known_w : Knows maker facts r.log (v.made + 1) r.ended w = record { same = live; begins = k.begins; own = k.own; within = omega arith; first = λ _. (refl, first.1, free) } in
      let known_x : Knows maker facts r.log (v.made + 1) r.ended x = record { same = live; begins = k.begins; own = sym (r.no_other (v.made + 1) (inr (omega arith))); within = le_refl (v.made + 1); first = λ z. absurd (omega arith) } in record {
        log = r.log;
        made = v.made + 1;
        ended = r.ended;
        word = r.word;
        one_word = r.one_word;
        is_legal = r.is_legal;
        stage = stage_stays fixed entries maker legal facts s r.log r.word (set s.views id w ++ x ∷ []) r.stage
            (λ j u there. ⊎_elim
            (λ was. ⊎_elim
            (λ (t : (j ≡ id) × (w ≡ u)). inl (ap (λ (y : View E F). y.turn) (sym t.1) ∙ free))
            (λ (t : (j ≢ id) × (get_elem? s.views j ≡ some u)). inr t.1)
            (at_set s.views id j w u was))
            (λ (new : (j ≡ length (set s.views id w)) × (x ≡ u)). inl (ap (λ (y : View E F). y.turn) (sym new.1)))
            (at_end (set s.views id w) x u j there))
            (λ j u was turn.
            let other : j ≢ id = λ e. let is : v ≡ u = some-injective v u (sym at ∙ (ap (get_elem? s.views) (sym e) ∙ was)) in turn (ap (λ (y : View E F). y.turn) (sym is) ∙ free) in
            at_longer (set s.views id w) (x ∷ []) j u (set_else s.views id j w other ∙ was));
        each = λ j u f there live'. ⊎_elim
            (λ was. ⊎_elim
            (λ (t : (j ≡ id) × (w ≡ u)). subst (Knows maker facts r.log (v.made + 1) r.ended) t.1 known_w)
            (λ (t : (j ≢ id) × (get_elem? s.views j ≡ some u)).
            let k' = r.each j u f t.1 live' in
            let within = k'.within in
            record {
              same = k'.same;
              begins = k'.begins;
              own = k'.own;
              within = omega arith;
              first = λ z. absurd (t.0 (r.apart j id v.number (live_here s.views j u f t.1 live' ∙ ap (λ n. some (Some n)) (z ∙ sym zero_is)) here));
            })
            (at_set s.views id j w u was))
            (λ (new : (j ≡ length (set s.views id w)) × (x ≡ u)). subst (Knows maker facts r.log (v.made + 1) r.ended) new.1 known_x)
            (at_end (set s.views id w) x u j there);
        apart = subst Apart (sym numbers) (still_apart (map live_number s.views) r.made (v.made + 1) (omega arith) (number_within s r) r.apart);
        gone = λ n d below.
            let g = r.gone n d below in
            let e = get_or r.ended n d in
            let within = g.within in
            let new_gone : (i : ℕ) → get_elem? (map live_number s.views ++ Some (v.made + 1) ∷ []) i ≢ some (Some e.number) = λ i there. ⊎_elim
            (g.gone i)
            (λ (new : (i ≡ length (map live_number s.views)) × (Some (v.made + 1) ≡ Some e.number)). let is : v.made + 1 ≡ e.number = let both = new.1 in cc in absurd (omega arith))
            (at_end (map live_number s.views) (Some (v.made + 1)) (Some e.number) i there) in
            record {
              after_first = g.after_first;
              within = omega arith;
              own = g.own;
              begins = g.begins;
              gone = subst (λ (ns : List (Option ℕ)). (i : ℕ) → get_elem? ns i ≢ some (Some e.number)) (sym numbers) new_gone;
            };
        once = r.once;
        no_other = λ n out. r.no_other n (⊎_elim (λ (z : n ≡ 0). inl z) (λ (l : v.made + 1 < n). inr (omega arith)) out);
      }
