-- The two steps that end a turn keep the rule: with the new entry, and with nothing done.
use Rattle.std.proofs.Common.{◌≡◌, ◌≢◌, ℕ, ◌<◌, ◌+◌, ◌-◌, ◌*◌, ◌%◌, ◌^◌, List, [], ◌∷◌, ◌++◌, length, length-append, set, get_or, Option, Some, None, refl, sym, ap, ◌∙◌, subst, inl, arith}
use mathlib.Core.Option.{none}
use Rattle.atomic_table.specs.Table.{State, Me, step, gives, put_back, rest, Allows}
use Rattle.stx_turn.specs.declared.view.View.{View}
use Rattle.stx_turn.specs.Histories.{made_by}
use Rattle.stx_turn.specs.inner.Rule.{IsHome, IsOut, Knows, Kept}
use Rattle.stx_turn.specs.inner.Steps.{published, leaving, Publishes, Leaves}
use Rattle.stx_turn.proofs.Begins.{starts_whole, starts_more, made_by-other}
use Rattle.stx_turn.proofs.Seats.{moved, has_turn, all_free}

module _ {V E F : Type 0} (fixed : V → F) (entries : V → List E) (maker : E → ℕ) (legal : F → List E → Type 0) (facts : F) (short : (f : F) (history : List E) → legal f history → length history < 2 ^ 62) where
  abbrev St : Type 0
  St = State (Option V) (View E F)

  abbrev Rule : St → Type 0
  Rule = Kept fixed entries maker legal facts

  -- the value comes home, and nobody has a turn
  comes_home : (s : St) (log new : List E) (word up id : ℕ) (carried : List (ℕ × Option V)) (value : V) (w : View E F) (out : IsOut facts log word s) → id ≡ out.holder → w.turn ≡ None
      → carried ≡ (0, Some value) ∷ [] → fixed value ≡ facts → entries value ≡ new → up ≡ 2 * length new
      → IsHome fixed entries facts new up record { words = set s.words 0 up; homes = put_back s.homes carried; views = set s.views id w }
  comes_home s log new word up id carried value w out is free slot has logs count = record {
    word_is = count;
    value = value;
    slot = λ i. put_back (out.slot i) (slot i);
    has = has;
    logs = logs;
    free = all_free fixed entries maker legal facts s log word id out w is free;
  }

  pub publishes : (slots id : ℕ) (me : Me (Option V) (View E F)) (value : V) (log : List E) (e : E)
      → me.0.fixed ≡ Some facts → me.0.number ≢ 0 → me.0.turn ≡ Some log → me.1 ≡ (0, Some value) ∷ []
      → fixed value ≡ facts → entries value ≡ log ++ e ∷ [] → maker e ≡ me.0.number → legal facts (entries value)
      → Allows Rule slots id me 0 (λ n. (n + 1) % 2 ^ 64) (Publishes entries maker (step slots 0 1 0 none) me)
  publishes slots id me value log e live later turn slot has logs by is_legal s r _ at _ =
      let v = me.0 in
      let x : ℕ = get_or s.words 0 0 in
      let now : x ≡ r.word = ap (λ ws. get_or ws 0 0) r.one_word in
      let held = has_turn fixed entries maker legal facts s r id v log at turn in
      let out = held.0 in
      let word_is = out.word_is in
      let new : List E = r.log ++ e ∷ [] in
      let grown : entries value ≡ new = logs ∙ ap (λ l. l ++ e ∷ []) (sym held.1) in
      let k = r.each id v facts at live in
      let w = published maker (entries value) v in
      let known : Knows maker facts new r.made r.ended w = record { same = live; begins = starts_whole new (entries value) grown; own = ap (made_by maker v.number) grown; within = k.within; first = λ z. absurd (later z) } in
      let fits : length r.log < 2 ^ 62 = short facts r.log r.is_legal in
      let up : ℕ = (x + 1) % 2 ^ 64 in
      let count : up ≡ 2 * length new = let l : length new ≡ length r.log + 1 = length-append r.log (e ∷ []) in omega arith in
      let home = comes_home s r.log new r.word up id me.1 value w out held.2 refl slot has grown count in (
        w,
        gives,
        tt,
        moved fixed entries maker legal facts s r id v w new up (put_back s.homes me.1) at live later refl
            (λ seen b. starts_more r.log seen (e ∷ []) b)
            (λ n other. made_by-other maker n r.log e (λ is. other (sym is ∙ by)))
            (subst (legal facts) grown is_legal) known (inl home),
        λ y is. let both : Some value ≡ Some y = ap (λ (l : List (ℕ × Option V)). (get_or l 0 (0, None)).1) (sym slot ∙ is) in let same : value ≡ y = cc in λ i. (published maker (entries (same i)) v, ap rest slot i),
      )

  pub leaves : (slots id : ℕ) (me : Me (Option V) (View E F)) (value : V)
      → me.0.fixed ≡ Some facts → me.0.number ≢ 0 → me.0.turn ≡ Some (entries value) → me.1 ≡ (0, Some value) ∷ [] → fixed value ≡ facts
      → Allows Rule slots id me 0 (λ n. (n + (2 ^ 64 - 1)) % 2 ^ 64) (Leaves (step slots 0 1 0 none) me)
  leaves slots id me value live later turn slot has s r _ at _ =
      let v = me.0 in
      let x : ℕ = get_or s.words 0 0 in
      let now : x ≡ r.word = ap (λ ws. get_or ws 0 0) r.one_word in
      let held = has_turn fixed entries maker legal facts s r id v (entries value) at turn in
      let out = held.0 in
      let word_is = out.word_is in
      let k = r.each id v facts at live in
      let w = leaving v in
      let known : Knows maker facts r.log r.made r.ended w = record { same = live; begins = k.begins; own = k.own; within = k.within; first = λ z. absurd (later z) } in
      let fits : length r.log < 2 ^ 62 = short facts r.log r.is_legal in
      let down : ℕ = (x + (2 ^ 64 - 1)) % 2 ^ 64 in
      let count : down ≡ 2 * length r.log = omega arith in
      let home = comes_home s r.log r.log r.word down id me.1 value w out held.2 refl slot has (sym held.1) count in (
        w,
        gives,
        tt,
        moved fixed entries maker legal facts s r id v w r.log down (put_back s.homes me.1) at live later refl (λ seen b. b) (λ n other. refl) r.is_legal known (inl home),
        refl,
      )
