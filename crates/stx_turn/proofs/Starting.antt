-- A new cell meets the rule.
use Rattle.std.proofs.Common.{◌≡◌, ℕ, zero, suc, List, [], ◌∷◌, map, Option, Some, refl, sym, ap, ◌∙◌, subst, inl, arith}
use Rattle.std.proofs.lemmas.List.Elements.{All-nil}
use mathlib.Core.Option.{some, some-injective, some-ne-none}
use lib.ListN.{get_elem?}
use Rattle.atomic_table.specs.Table.{opening}
use Rattle.stx_turn.specs.declared.view.View.{View}
use Rattle.stx_turn.specs.inner.Rule.{first_view, live_number, Knows, Kept}
use Rattle.stx_turn.proofs.Begins.{starts_whole}

module _ {V E F : Type 0} (fixed : V → F) (entries : V → List E) (maker : E → ℕ) (legal : F → List E → Type 0) (facts : F) where
  the_first : (id : ℕ) (v : View E F) → get_elem? (first_view facts ∷ []) id ≡ some v → (id ≡ 0) × (first_view facts ≡ v)
  the_first zero v e = (refl, some-injective _ _ e)
  the_first (suc id) v e = absurd (some-ne-none v (sym e))

  one_number : (id n : ℕ) → get_elem? (map live_number (first_view {E = E} facts ∷ [])) id ≡ some (Some n) → id ≡ 0
  one_number zero n e = refl
  one_number (suc id) n e = absurd (some-ne-none (Some n) (sym e))

  pub starts : (value : V) (slots : List (Option V)) → slots ≡ Some value ∷ [] → fixed value ≡ facts → entries value ≡ [] → legal facts []
      → Kept fixed entries maker legal facts (opening (0 ∷ []) slots (first_view facts))
  starts value slots filled has empty none_legal = record {
    log = [];
    made = 0;
    ended = [];
    word = 0;
    one_word = refl;
    is_legal = none_legal;
    stage = inl record { word_is = refl; value = value; slot = ap (map some) filled; has = has; logs = empty; free = λ id v _ e. ap (λ (u : View E F). u.turn) (sym (the_first id v e).1) };
    each = λ id v f e live. subst (Knows maker facts [] 0 []) (the_first id v e).1 record { same = refl; begins = starts_whole [] [] refl; own = refl; within = omega arith; first = λ _. (refl, refl, refl) };
    apart = λ i j n e e'. one_number i n e ∙ sym (one_number j n e');
    gone = All-nil _;
    once = λ i j d e found found'. absurd (some-ne-none d (sym found));
    no_other = λ n _. refl;
  }
