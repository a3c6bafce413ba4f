-- The step that tries to win a turn keeps the rule.
use Rattle.std.proofs.Common.{◌≡◌, ◌≢◌, ℕ, ◌<◌, ◌+◌, ◌*◌, ◌%◌, ◌^◌, eqb, List, ◌∷◌, length, set, get_or, Option, Some, eq-eqb, ne_eqb, refl, sym, ap, ◌∙◌, subst, inr, ⊎_elim, arith}
use mathlib.Core.Logic.{dite}
use mathlib.Core.Option.{some, none}
use native.Mathlib.Decide.{ℕ_discrete}
use lib.ListN.{get_elem?}
use prog.Atomic.{either}
use Rattle.atomic_table.specs.Table.{State, Me, step, keeps, takes, stepped, Allows}
use Rattle.atomic_table.proofs.Lists.{at_set}
use Rattle.stx_turn.specs.declared.view.View.{View}
use Rattle.stx_turn.specs.Histories.{made_by, StartsWith}
use Rattle.stx_turn.specs.inner.Rule.{IsHome, IsOut, Knows, Kept}
use Rattle.stx_turn.specs.inner.Steps.{winning, IsWon, Wins}
use Rattle.stx_turn.proofs.Begins.{starts_whole, here_set}
use Rattle.stx_turn.proofs.Seats.{unmoved, moved}

module _ {V E F : Type 0} (fixed : V → F) (entries : V → List E) (maker : E → ℕ) (legal : F → List E → Type 0) (facts : F) (short : (f : F) (history : List E) → legal f history → length history < 2 ^ 62) where
  abbrev St : Type 0
  St = State (Option V) (View E F)

  abbrev Rule : St → Type 0
  Rule = Kept fixed entries maker legal facts

  small : (s : St) (r : Rule s) → get_or s.words 0 0 < 2 ^ 63
  small s r =
      let now : get_or s.words 0 0 ≡ r.word = ap (λ ws. get_or ws 0 0) r.one_word in
      let most : length r.log < 2 ^ 62 = short facts r.log r.is_legal in
      ⊎_elim (λ (home : IsHome fixed entries facts r.log r.word s). let is = home.word_is in omega arith) (λ (out : IsOut facts r.log r.word s). let is = out.word_is in omega arith) r.stage

  takes_turn : (s : St) (r : Rule s) (home : IsHome fixed entries facts r.log r.word s) (id : ℕ) (me : Me (Option V) (View E F)) (new : ℕ)
      → get_elem? s.views id ≡ some me.0 → me.0.fixed ≡ Some facts → me.0.number ≢ 0 → new ≡ r.word + 1
      → Rule (stepped s 0 new id me.1 (winning (entries home.value) me.0) (takes 0 (Some home.value)))
  takes_turn s r home id me new at live later up =
      let v = me.0 in
      let w = winning (entries home.value) v in
      let k = r.each id v facts at live in
      let known : Knows maker facts r.log r.made r.ended w = record { same = live; begins = starts_whole r.log (entries home.value) home.logs; own = k.own; within = k.within; first = λ z. absurd (later z) } in
      let word_is = home.word_is in
      let out : IsOut facts r.log new record { words = set s.words 0 new; homes = set s.homes 0 none; views = set s.views id w } = record {
        word_is = omega arith;
        slot = ap (λ hs. set hs 0 none) home.slot;
        holder = id;
        view = w;
        there = here_set s.views id w v at;
        turn = ap Some home.logs;
        live = live;
        others = λ j u not at'. ⊎_elim (λ (t : (j ≡ id) × (w ≡ u)). absurd (not t.0)) (λ (t : (j ≢ id) × (get_elem? s.views j ≡ some u)). home.free j u (λ e. e) t.1) (at_set s.views id j w u at');
      } in
      moved fixed entries maker legal facts s r id v w r.log new (set s.homes 0 none) at live later refl (λ seen b. b) (λ n other. refl) r.is_legal known (inr out)

  won : (s : St) (r : Rule s) (home : IsHome fixed entries facts r.log r.word s) (id : ℕ) (me : Me (Option V) (View E F))
      → get_elem? s.views id ≡ some me.0 → me.0.fixed ≡ Some facts
      → IsWon fixed entries maker legal me (get_or s.words 0 0) (winning (entries home.value) me.0, (0, Some home.value) ∷ me.1)
  won s r home id me at live =
      let k = r.each id me.0 facts at live in
      let now : get_or s.words 0 0 ≡ r.word = ap (λ ws. get_or ws 0 0) r.one_word in
      let back = sym home.logs in record {
        value = home.value;
        seat = refl;
        count = now ∙ (home.word_is ∙ ap (λ l. 2 * length l) back);
        has = live ∙ ap Some (sym home.has);
        is_legal = subst (λ (z : F × List E). legal z.0 z.1) (λ i. (sym home.has i, back i)) r.is_legal;
        begins = subst (λ l. StartsWith l me.0.seen) back k.begins;
        own = k.own ∙ ap (made_by maker me.0.number) back;
      }

  pub wins : (slots id : ℕ) (me : Me (Option V) (View E F)) (old new : ℕ) → old % 2 ≡ 0 → new ≡ old + 1 → me.0.fixed ≡ Some facts → me.0.number ≢ 0
      → Allows Rule slots id me 0 (λ n. either (eqb n old) new n) (Wins fixed entries maker legal (step slots 0 old new none) me)
  wins slots id me old new even up live later s r _ at _ =
      let x : ℕ = get_or s.words 0 0 in
      let now : x ≡ r.word = ap (λ ws. get_or ws 0 0) r.one_word in
      dite (ℕ_discrete x old)
      (λ hit. ⊎_elim
      (λ (home : IsHome fixed entries facts r.log r.word s). (
        winning (entries home.value) me.0,
        takes 0 (Some home.value),
        ap (λ hs. get_elem? hs 0) home.slot,
        subst (λ b. Rule (stepped s 0 (either b new x) id me.1 (winning (entries home.value) me.0) (takes 0 (Some home.value)))) (sym (eq-eqb x old hit)) (takes_turn s r home id me new at live later (omega arith)),
        (small s r, (λ _. won s r home id me at live), (λ miss. absurd (miss hit))),
      ))
      (λ (out : IsOut facts r.log r.word s). let is = out.word_is in absurd (omega arith))
      r.stage)
      (λ miss. (
        me.0,
        keeps,
        tt,
        subst (λ b. Rule (stepped s 0 (either b new x) id me.1 me.0 keeps)) (sym (ne_eqb x old miss)) (unmoved fixed entries maker legal facts s id me.0 at r),
        (small s r, (λ hit. absurd (miss hit)), (λ _. refl)),
      ))
