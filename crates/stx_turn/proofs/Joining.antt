-- The first seat takes another in.
use Rattle.std.proofs.Common.{◌≡◌, ◌≢◌, ℕ, Bool, true, false, cond, List, [], ◌∷◌, ◌++◌, length, map, set, get_or, Option, Some, None, refl, sym, ap, ◌∙◌, subst, inl, inr, ⊎_elim, arith}
use Rattle.std.specs.Prelude.{All, nat_lt}
use Rattle.std.proofs.lemmas.List.{map-set}
use Rattle.std.proofs.lemmas.List.Elements.{All-push}
use mathlib.Core.Option.{some, some-injective}
use lib.ListN.{get_elem?}
use Rattle.atomic_table.specs.Table.{State, Joins}
use Rattle.atomic_table.proofs.Lists.{at_set, set_else}
use Rattle.stx_turn.specs.declared.view.View.{View}
use Rattle.stx_turn.specs.declared.view.Ended.{Ended}
use Rattle.stx_turn.specs.Histories.{StartsWith}
use Rattle.stx_turn.specs.inner.Rule.{spent, live_number, Knows, IsEnded, Apart, OnceEach, Kept}
use Rattle.stx_turn.specs.inner.Steps.{longer, joined}
use Rattle.stx_turn.proofs.Begins.{all_at, at_end}
use Rattle.stx_turn.proofs.Seats.{live_here, same_numbers, stage_stays}

starts_longer : {E : Type 0} (history xs ys : List E) → StartsWith history xs → StartsWith history ys → StartsWith history (longer xs ys)
starts_longer history xs ys x y = by (nat_lt (length xs) (length ys))
  where
    by : (b : Bool) → StartsWith history (cond b ys xs)
    by true = y
    by false = x

-- a number that is left stood there before
left_number : (numbers : List (Option ℕ)) (gone id n : ℕ) → get_elem? (set numbers gone None) id ≡ some (Some n) → (id ≢ gone) × (get_elem? numbers id ≡ some (Some n))
left_number numbers gone id n e =
    ⊎_elim
    (λ (t : (id ≡ gone) × (None ≡ Some n)). let none = t.1 in absurd (cc))
    (λ (t : (id ≢ gone) × (get_elem? numbers id ≡ some (Some n))). t)
    (at_set numbers gone id None (Some n) e)

-- one more that was joined in, whose number is new
once_more : {E : Type 0} (ended : List (Ended E)) (new : Ended E) → OnceEach ended → ((i : ℕ) (d : Ended E) → get_elem? ended i ≡ some d → d.number ≢ new.number) → OnceEach (ended ++ new ∷ [])
once_more {E} ended new once other i j d e at_i at_j same =
    ⊎_elim
    (λ (old_i : get_elem? ended i ≡ some d). ⊎_elim
    (λ (old_j : get_elem? ended j ≡ some e). once i j d e old_i old_j same)
    (λ (new_j : (j ≡ length ended) × (new ≡ e)). absurd (other i d old_i (same ∙ ap (λ (x : Ended E). x.number) (sym new_j.1))))
    (at_end ended new e j at_j))
    (λ (new_i : (i ≡ length ended) × (new ≡ d)). ⊎_elim
    (λ (old_j : get_elem? ended j ≡ some e). absurd (other j e old_j (sym same ∙ ap (λ (x : Ended E). x.number) (sym new_i.1))))
    (λ (new_j : (j ≡ length ended) × (new ≡ e)). new_i.0 ∙ sym new_j.0)
    (at_end ended new e j at_j))
    (at_end ended new d i at_i)

module _ {V E F : Type 0} (fixed : V → F) (entries : V → List E) (maker : E → ℕ) (legal : F → List E → Type 0) (facts : F) where
  abbrev St : Type 0
  St = State (Option V) (View E F)

  abbrev Rule : St → Type 0
  Rule = Kept fixed entries maker legal facts

  pub joins : (id : ℕ) (v : View E F) (other : ℕ) (w : View E F) → v.fixed ≡ Some facts → v.number ≡ 0 → v.turn ≡ None → w.fixed ≡ Some facts → w.number ≢ 0 → w.turn ≡ None
      → Joins Rule id v other w (joined v w) spent
  joins id v other w live zero_is free live_w later free_w s r at apart_is there' =
      let both = joined v w in
      let vs = set s.views id both in
      let there : get_elem? s.views other ≡ some w = sym (set_else s.views id other both apart_is) ∙ there' in
      let k = r.each id v facts at live in
      let k_w = r.each other w facts there live_w in
      let first = k.first zero_is in
      let here = live_here s.views id v facts at live in
      let here_w = live_here s.views other w facts there live_w in
      let numbers : map live_number (set vs other spent) ≡ set (map live_number s.views) other None = map-set live_number vs other spent ∙ ap (λ (ns : List (Option ℕ)). set ns other None) (same_numbers s.views id v both at refl) in
      let e_w : Ended E = record { number = w.number; mine = w.mine; seen = w.seen } in
      let ended : List (Ended E) = v.ended ++ e_w ∷ [] in
      let left = set (map live_number s.views) other None in
      let known : Knows maker facts r.log r.made ended both = record { same = live; begins = starts_longer r.log v.seen w.seen k.begins k_w.begins; own = k.own; within = k.within; first = λ _. (first.0, refl, free) } in
      let still : (e : Ended E) → IsEnded maker r.log r.made (map live_number s.views) e → IsEnded maker r.log r.made left e = λ e g. record {
        after_first = g.after_first;
        within = g.within;
        own = g.own;
        begins = g.begins;
        gone = λ i found. g.gone i (left_number (map live_number s.views) other i e.number found).1;
      } in
      let new : IsEnded maker r.log r.made left e_w = record {
        after_first = omega arith;
        within = k_w.within;
        own = k_w.own;
        begins = k_w.begins;
        gone = λ i found. let t = left_number (map live_number s.views) other i w.number found in t.0 (r.apart i other w.number t.1 here_w);
      } in
      let old : All (IsEnded maker r.log r.made left) v.ended = subst (All (IsEnded maker r.log r.made left)) (sym first.1) (λ n d below. still (get_or r.ended n d) (r.gone n d below)) in record {
        log = r.log;
        made = r.made;
        ended = ended;
        word = r.word;
        one_word = r.one_word;
        is_legal = r.is_legal;
        stage = stage_stays fixed entries maker legal facts s r.log r.word (set vs other spent) r.stage
            (λ j u found. ⊎_elim
            (λ (t : (j ≡ other) × (spent ≡ u)). inl (ap (λ (y : View E F). y.turn) (sym t.1)))
            (λ (t : (j ≢ other) × (get_elem? vs j ≡ some u)). ⊎_elim
            (λ (t' : (j ≡ id) × (both ≡ u)). inl (ap (λ (y : View E F). y.turn) (sym t'.1) ∙ free))
            (λ (t' : (j ≢ id) × (get_elem? s.views j ≡ some u)). inr t'.1)
            (at_set s.views id j both u t.1))
            (at_set vs other j spent u found))
            (λ j u was turn.
            let not_id : j ≢ id = λ e. let is : v ≡ u = some-injective v u (sym at ∙ (ap (get_elem? s.views) (sym e) ∙ was)) in turn (ap (λ (y : View E F). y.turn) (sym is) ∙ free) in
            let not_other : j ≢ other = λ e. let is : w ≡ u = some-injective w u (sym there ∙ (ap (get_elem? s.views) (sym e) ∙ was)) in turn (ap (λ (y : View E F). y.turn) (sym is) ∙ free_w) in
            set_else vs other j spent not_other ∙ (set_else s.views id j both not_id ∙ was));
        each = λ j u f found live'. ⊎_elim
            (λ (t : (j ≡ other) × (spent ≡ u)). let none : u.fixed ≡ None = ap (λ (y : View E F). y.fixed) (sym t.1) in absurd (cc))
            (λ (t : (j ≢ other) × (get_elem? vs j ≡ some u)). ⊎_elim
            (λ (t' : (j ≡ id) × (both ≡ u)). subst (Knows maker facts r.log r.made ended) t'.1 known)
            (λ (t' : (j ≢ id) × (get_elem? s.views j ≡ some u)).
            let k' = r.each j u f t'.1 live' in
            record {
              same = k'.same;
              begins = k'.begins;
              own = k'.own;
              within = k'.within;
              first = λ z. absurd (t'.0 (r.apart j id v.number (live_here s.views j u f t'.1 live' ∙ ap (λ n. some (Some n)) (z ∙ sym zero_is)) here));
            })
            (at_set s.views id j both u t.1))
            (at_set vs other j spent u found);
        apart = subst Apart (sym numbers) (λ i j n found found'. r.apart i j n (left_number (map live_number s.views) other i n found).1 (left_number (map live_number s.views) other j n found').1);
        gone = subst (λ (ns : List (Option ℕ)). All (IsEnded maker r.log r.made ns) ended) (sym numbers) (All-push (IsEnded maker r.log r.made left) v.ended e_w old new);
        once = once_more v.ended e_w (subst OnceEach (sym first.1) r.once) (λ i d found is.
            let in_old = all_at (IsEnded maker r.log r.made (map live_number s.views)) v.ended i d (subst (All (IsEnded maker r.log r.made (map live_number s.views))) (sym first.1) r.gone) found in
            in_old.gone other (here_w ∙ ap (λ n. some (Some n)) (sym is)));
        no_other = r.no_other;
      }
