-- A text has a part exactly where it is something before the part, the part, and something after.
use Rattle.std.proofs.Common.{◌≡◌, ◌↔◌, ℕ, Bool, true, false, nat_eq, List, [], ◌∷◌, ◌++◌, refl, sym, ap, ◌∙◌, inl, inr, eqb-true, eq-eqb}
use Rattle.std.specs.List.{starts_with}
use Rattle.std.specs.Str.Iter.{HasSubslice}
use Rattle.std.proofs.lemmas.Bool.{false≢true, and_parts, and_from, or_cases, or_left, or_right}
use Rattle.stx_base.specs.Rules.{has_part}

begins : (part text : List ℕ) → starts_with nat_eq text part ≡ true → (rest : List ℕ) × (text ≡ part ++ rest)
begins [] text is = (text, refl)
begins (p ∷ part) [] is = absurd (false≢true is)
begins (p ∷ part) (x ∷ text) is =
    let both = and_parts (nat_eq p x) (starts_with nat_eq text part) is in
    let rest = begins part text both.1 in
    (rest.0, ap (λ y. y ∷ text) (sym (eqb-true p x both.0)) ∙ ap (λ xs. p ∷ xs) rest.1)

begun : (part rest : List ℕ) → starts_with nat_eq (part ++ rest) part ≡ true
begun [] rest = refl
begun (p ∷ part) rest = and_from (nat_eq p p) (starts_with nat_eq (part ++ rest) part) (eq-eqb p p refl) (begun part rest)

at_front : (part text : List ℕ) → starts_with nat_eq text part ≡ true → has_part part text ≡ true
at_front part [] is = is
at_front part (x ∷ text) is = or_left _ _ is

stands : (part before after : List ℕ) → has_part part (before ++ (part ++ after)) ≡ true
stands part [] after = at_front part (part ++ after) (begun part after)
stands part (x ∷ before) after = or_right _ _ (stands part before after)

found : (part text : List ℕ) → has_part part text ≡ true → HasSubslice text part
found part [] is = let rest = begins part [] is in ([], rest.0, rest.1)
found part (x ∷ text) is = elim (or_cases (starts_with nat_eq (x ∷ text) part) (has_part part text) is) [
  | inl here ↦ let rest = begins part (x ∷ text) here in ([], rest.0, rest.1)
  | inr later ↦ let rest = found part text later in (x ∷ rest.0, rest.1, ap (λ xs. x ∷ xs) rest.2)
]

same_answer : (r s : Bool) → (r ≡ true → s ≡ true) → (s ≡ true → r ≡ true) → r ≡ s
same_answer true s forth back = sym (forth refl)
same_answer false true forth back = back refl
same_answer false false forth back = refl

-- an answer that is yes exactly where the part stands in the text
pub is_has_part : (r : Bool) (part text : List ℕ) → (r ≡ true) ↔ HasSubslice text part → r ≡ has_part part text
is_has_part r part text iff =
    same_answer r (has_part part text)
    (λ is. let at = iff.0 is in rw at.2 (stands part at.0 at.1))
    (λ is. iff.1 (found part text is))
