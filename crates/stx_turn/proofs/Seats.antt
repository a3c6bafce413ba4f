-- The views of a cell's seats under a step of one of them.
use Rattle.std.proofs.Common.{◌≡◌, ◌≢◌, ℕ, ◌<◌, List, map, set, get_or, Option, Some, None, refl, sym, ap, ◌∙◌, subst, inl, inr, ◌⊎◌, ⊎_elim, arith}
use Rattle.std.specs.Prelude.{option_map}
use Rattle.std.proofs.lemmas.List.{map-set, set-get_or}
use mathlib.Core.Option.{some, none, some-injective}
use lib.ListN.{get_elem?}
use Rattle.atomic_table.specs.Table.{State}
use Rattle.atomic_table.proofs.Lists.{at_set, set_again, at_map}
use Rattle.stx_turn.specs.declared.view.View.{View}
use Rattle.stx_turn.specs.Histories.{made_by, StartsWith}
use Rattle.stx_turn.specs.inner.Rule.{live_number, NoTurnBut, IsHome, IsOut, Knows, Apart, Kept}
use Rattle.stx_turn.proofs.Begins.{at_unmap}

-- a live number is that of a view
unnumbered : {F : Type 0} (number : ℕ) (fixed : Option F) (n : ℕ) → option_map (λ facts. number) fixed ≡ Some n → (f : F) × (fixed ≡ Some f) × (number ≡ n)
unnumbered number None n e = absurd (cc)
unnumbered number (Some f) n e = (f, refl, cc)

module _ {E F : Type 0} where
  number_here : (v : View E F) (f : F) → v.fixed ≡ Some f → live_number v ≡ Some v.number
  number_here v f live = ap (option_map (λ (facts : F). v.number)) live

  pub live_here : (vs : List (View E F)) (id : ℕ) (v : View E F) (f : F) → get_elem? vs id ≡ some v → v.fixed ≡ Some f → get_elem? (map live_number vs) id ≡ some (Some v.number)
  live_here vs id v f at live = at_map live_number vs id v at ∙ ap some (number_here v f live)

  pub view_of : (vs : List (View E F)) (id n : ℕ) → get_elem? (map live_number vs) id ≡ some (Some n) → (v : View E F) × (f : F) × (get_elem? vs id ≡ some v) × (v.fixed ≡ Some f) × (v.number ≡ n)
  view_of vs id n e =
      let a = at_unmap live_number vs id (Some n) e in
      let b = unnumbered a.0.number a.0.fixed n a.2 in
      (a.0, b.0, a.1, b.1, b.2)

  pub same_numbers : (vs : List (View E F)) (id : ℕ) (v w : View E F) → get_elem? vs id ≡ some v → live_number w ≡ live_number v → map live_number (set vs id w) ≡ map live_number vs
  same_numbers vs id v w at e = map-set live_number vs id w ∙ (ap (set (map live_number vs) id) e ∙ set_again (map live_number vs) id (live_number v) (at_map live_number vs id v at))

module _ {V E F : Type 0} (fixed : V → F) (entries : V → List E) (maker : E → ℕ) (legal : F → List E → Type 0) (facts : F) where
  abbrev St : Type 0
  St = State (Option V) (View E F)

  abbrev Rule : St → Type 0
  Rule = Kept fixed entries maker legal facts

  abbrev Stage : List E → ℕ → St → Type 0
  Stage log word s = IsHome fixed entries facts log word s ⊎ IsOut facts log word s

  -- a step that changes nothing
  pub unmoved : (s : St) (id : ℕ) (v : View E F) → get_elem? s.views id ≡ some v → Rule s → Rule record { words = set s.words 0 (get_or s.words 0 0); homes = s.homes; views = set s.views id v }
  unmoved s id v at r = subst (λ (z : List ℕ × List (View E F)). Rule record { words = z.0; homes = s.homes; views = z.1 }) (λ i. (sym (set-get_or s.words 0 0) i, sym (set_again s.views id v at) i)) r

  -- a step of a seat other than the first, after which the history is log: it begins as the rule's, and has nothing new of other numbers
  pub moved : (s : St) (r : Rule s) (id : ℕ) (v w : View E F) (log : List E) (word : ℕ) (homes : List (mathlib.Core.Option.Option (Option V)))
      → get_elem? s.views id ≡ some v → v.fixed ≡ Some facts → v.number ≢ 0 → live_number w ≡ live_number v
      → ((seen : List E) → StartsWith r.log seen → StartsWith log seen)
      → ((n : ℕ) → n ≢ v.number → made_by maker n log ≡ made_by maker n r.log)
      → legal facts log → Knows maker facts log r.made r.ended w
      → Stage log word record { words = set s.words 0 word; homes = homes; views = set s.views id w }
      → Rule record { words = set s.words 0 word; homes = homes; views = set s.views id w }
  moved s r id v w log word homes at live later same longer others is_legal known stage =
      let numbers = same_numbers s.views id v w at same in
      let here = live_here s.views id v facts at live in record {
        log = log;
        made = r.made;
        ended = r.ended;
        word = word;
        one_word = ap (λ ws. set ws 0 word) r.one_word;
        is_legal = is_legal;
        stage = stage;
        each = λ j u f at' live'. ⊎_elim
            (λ (t : (j ≡ id) × (w ≡ u)). subst (Knows maker facts log r.made r.ended) t.1 known)
            (λ (t : (j ≢ id) × (get_elem? s.views j ≡ some u)).
            let k = r.each j u f t.1 live' in
            let there = live_here s.views j u f t.1 live' in
            let other : u.number ≢ v.number = λ e. t.0 (r.apart j id v.number (there ∙ ap (λ n. some (Some n)) e) here) in
            record { same = k.same; begins = longer u.seen k.begins; own = k.own ∙ sym (others u.number other); within = k.within; first = k.first })
            (at_set s.views id j w u at');
        apart = subst Apart (sym numbers) r.apart;
        gone = λ k d below.
            let g = r.gone k d below in
            let e = get_or r.ended k d in
            let other : e.number ≢ v.number = λ is. g.gone id (here ∙ ap (λ n. some (Some n)) (sym is)) in
            record {
              after_first = g.after_first;
              within = g.within;
              own = g.own ∙ sym (others e.number other);
              begins = longer e.seen g.begins;
              gone = subst (λ (ns : List (Option ℕ)). (i : ℕ) → get_elem? ns i ≢ some (Some e.number)) (sym numbers) g.gone;
            };
        once = r.once;
        no_other = λ n out.
            let within = (r.each id v facts at live).within in
            let other : n ≢ v.number = λ is. ⊎_elim (λ (z : n ≡ 0). later (sym is ∙ z)) (λ (l : r.made < n). absurd (omega arith)) out in
            others n other ∙ r.no_other n out;
      }

  -- the seat whose view has a turn is the one that has the slot, and knows the whole history
  pub has_turn : (s : St) (r : Rule s) (id : ℕ) (v : View E F) (log : List E) → get_elem? s.views id ≡ some v → v.turn ≡ Some log
      → (out : IsOut facts r.log r.word s) × (r.log ≡ log) × (id ≡ out.holder)
  has_turn s r id v log at turn = by r.stage
    where
      by : Stage r.log r.word s → (out : IsOut facts r.log r.word s) × (r.log ≡ log) × (id ≡ out.holder)
      by (inl home) = let none : v.turn ≡ None = home.free id v (λ e. e) at in absurd (cc)
      by (inr out) =
          elim (native.Mathlib.Decide.ℕ_discrete id out.holder) [
            | yes e ↦ let there = out.there in let is : v ≡ out.view = some-injective v out.view (sym at ∙ (ap (get_elem? s.views) e ∙ there)) in
                let its = out.turn in (out, cc (its, turn, ap (λ (u : View E F). u.turn) is), e)
            | no ne ↦ let none : v.turn ≡ None = out.others id v ne at in absurd (cc)
          ]

  -- once the one with the turn has none, nobody has
  pub all_free : (s : St) (log : List E) (word id : ℕ) (out : IsOut facts log word s) (w : View E F) → id ≡ out.holder → w.turn ≡ None → NoTurnBut (set s.views id w) (λ j. ⊥)
  all_free s log word id out w is free j u _ at =
      ⊎_elim (λ (t : (j ≡ id) × (w ≡ u)). ap (λ (x : View E F). x.turn) (sym t.1) ∙ free)
      (λ (t : (j ≢ id) × (get_elem? s.views j ≡ some u)). out.others j u (λ e. t.0 (e ∙ sym is)) t.1)
      (at_set s.views id j w u at)

  -- the slot stays, where the views with a turn stay and no other has one
  pub stage_stays : (s : St) (log : List E) (word : ℕ) (vs : List (View E F)) → Stage log word s
      → ((j : ℕ) (u : View E F) → get_elem? vs j ≡ some u → (u.turn ≡ None) ⊎ (get_elem? s.views j ≡ some u))
      → ((j : ℕ) (u : View E F) → get_elem? s.views j ≡ some u → u.turn ≢ None → get_elem? vs j ≡ some u)
      → Stage log word record { words = s.words; homes = s.homes; views = vs }
  stage_stays s log word vs (inl home) back forth = inl record {
    word_is = home.word_is;
    value = home.value;
    slot = home.slot;
    has = home.has;
    logs = home.logs;
    free = λ j u not there. ⊎_elim (λ e. e) (home.free j u not) (back j u there);
  }
  stage_stays s log word vs (inr out) back forth = inr record {
    word_is = out.word_is;
    slot = out.slot;
    holder = out.holder;
    view = out.view;
    there = forth out.holder out.view out.there (λ none. let turn = out.turn in cc);
    turn = out.turn;
    live = out.live;
    others = λ j u not there. ⊎_elim (λ e. e) (out.others j u not) (back j u there);
  }
