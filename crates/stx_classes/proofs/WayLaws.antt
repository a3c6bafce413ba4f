-- Ways up the tree: they join and split, and one that meets no class twice has fewer steps than there are classes.
use Rattle.std.proofs.Common.{◌≡◌, ◌⊎◌, ℕ, zero, suc, ◌+◌, ◌-◌, ◌<◌, ◌≤◌, true, false, List, [], ◌∷◌, length, Option, Some, None, refl, sym, ap, subst, ◌∙◌, inl, inr, arith, eqb-true}
use Rattle.std.proofs.Math.Dec.{eqb}
use Rattle.std.specs.List.{list_any, AllByRecursion, IsDistinct}
use Rattle.std.proofs.lemmas.Bool.{false≢true, cases_Bool, or_cases}
use Rattle.std.proofs.lemmas.Option.{option_and_then_some, same_Some, slice_get_within}
use Rattle.std.proofs.lemmas.Map.Steps.{length-le_from_distinct_below}
use Rattle.stx_base.proofs.HistoryLaws.{or-false, or_none}
use Rattle.stx_base.specs.Classes.{Parents, number_above, parent_in, above_in}

-- ---- one step, and ways one after the other

pub way_on : (P : Parents) (n a b c : ℕ) → parent_in P a ≡ Some b → above_in n P b ≡ Some c → above_in (suc n) P a ≡ Some c
way_on P n a b c up rest = rw up rest

pub way_back : (P : Parents) (n a c : ℕ) → above_in (suc n) P a ≡ Some c → (b : ℕ) × (parent_in P a ≡ Some b) × (above_in n P b ≡ Some c)
way_back P n a c way = option_and_then_some (above_in n P) (parent_in P a) c way (λ b up rest. (b, up, rest))

pub ways_join : (P : Parents) (m n a b c : ℕ) → above_in m P a ≡ Some b → above_in n P b ≡ Some c → above_in (m + n) P a ≡ Some c
ways_join P zero n a b c first second =
    let same : 0 + n ≡ n = omega arith in
    rw same (rw (same_Some a b first) second)
ways_join P (suc m) n a b c first second =
    let step = way_back P m a b first in
    let more : suc m + n ≡ suc (m + n) = omega arith in
    rw more (way_on P (m + n) a step.0 c step.1 (ways_join P m n step.0 b c step.2 second))

pub ways_split : (P : Parents) (m n a c : ℕ) → above_in (m + n) P a ≡ Some c → (b : ℕ) × (above_in m P a ≡ Some b) × (above_in n P b ≡ Some c)
ways_split P zero n a c way =
    let same : 0 + n ≡ n = omega arith in
    (a, refl, subst (λ k. above_in k P a ≡ Some c) same way)
ways_split P (suc m) n a c way =
    let more : suc m + n ≡ suc (m + n) = omega arith in
    let step = way_back P (m + n) a c (subst (λ k. above_in k P a ≡ Some c) more way) in
    let rest = ways_split P m n step.0 c step.2 in
    (rest.0, way_on P m a step.0 rest.0 step.1 rest.1, rest.2)

-- only a class that is there has one above it
pub has_parent : (P : Parents) (a b : ℕ) → parent_in P a ≡ Some b → a < length P
has_parent P a b up = option_and_then_some number_above _ b up (λ x is above. slice_get_within P a x is)

pub way_within : (P : Parents) (n a b : ℕ) → above_in n P a ≡ Some b → b < length P → a < length P
way_within P zero a b way within = subst (λ k. k < length P) (sym (same_Some a b way)) within
way_within P (suc n) a b way within = let step = way_back P n a b way in has_parent P a step.0 step.1

-- ---- the classes on a way

abbrev onward : (ℕ → List ℕ) → Option ℕ → List ℕ
onward rest None = []
onward rest (Some b) = rest b

-- the class itself and those above it, on so many steps
abbrev pub classes_on : ℕ → Parents → ℕ → List ℕ
classes_on zero P a = a ∷ []
classes_on (suc n) P a = a ∷ onward (classes_on n P) (parent_in P a)

length_way : (P : Parents) (n a b : ℕ) → above_in n P a ≡ Some b → length (classes_on n P a) ≡ n + 1
length_way P zero a b way = refl
length_way P (suc n) a b way =
    let step = way_back P n a b way in
    let rest : length (onward (classes_on n P) (parent_in P a)) ≡ n + 1 = rw step.1 (length_way P n step.0 b step.2) in
    omega (arith, rest)

parent_cases : (o : Option ℕ) → (o ≡ None) ⊎ ((b : ℕ) × (o ≡ Some b))
parent_cases None = inl refl
parent_cases (Some b) = inr (b, refl)

on_way : (P : Parents) (n a q : ℕ) → list_any (eqb q) (classes_on n P a) ≡ true → (i : ℕ) × (i ≤ n) × (above_in i P a ≡ Some q)
on_way P zero a q there = (0, omega arith, ap Some (sym (eqb-true q a (subst (λ b. b ≡ true) (or-false (eqb q a)) there))))
on_way P (suc n) a q there = elim (or_cases (eqb q a) (list_any (eqb q) (onward (classes_on n P) (parent_in P a))) there) [
  | inl here ↦ (0, omega arith, ap Some (sym (eqb-true q a here)))
  | inr later ↦ elim (parent_cases (parent_in P a)) [
    | inl none ↦ absurd (false≢true (subst (λ o. list_any (eqb q) (onward (classes_on n P) o) ≡ true) none later))
    | inr some ↦
        let rest = on_way P n some.0 q (subst (λ o. list_any (eqb q) (onward (classes_on n P) o) ≡ true) some.1 later) in
        (suc rest.0, omega (arith, rest.1), way_on P rest.0 a some.0 q some.1 rest.2)
  ]
]

-- ---- a way that meets no class twice

-- no class on the way of n steps comes back to itself before its end
abbrev pub NoReturn : Parents → ℕ → ℕ → Type 0
NoReturn P n a = (i j c : ℕ) → i + j < n → above_in i P a ≡ Some c → above_in (suc j) P c ≡ Some c → ⊥

all_apart : (a : ℕ) (ns : List ℕ) → list_any (eqb a) ns ≡ false → AllByRecursion (λ n. eqb a n ≡ false) ns
all_apart a [] none = tt
all_apart a (n ∷ ns) none = let parts = or_none _ _ none in (parts.0, all_apart a ns parts.1)

fresh : (P : Parents) (n a b : ℕ) → parent_in P a ≡ Some b → NoReturn P (suc n) a → list_any (eqb a) (classes_on n P b) ≡ false
fresh P n a b up never = elim (cases_Bool (list_any (eqb a) (classes_on n P b))) [
  | inl there ↦ let again = on_way P n b a there in absurd (never 0 again.0 a (omega (arith, again.1)) refl (way_on P again.0 a b a up again.2))
  | inr absent ↦ absent
]

distinct_way : (P : Parents) (n a b : ℕ) → above_in n P a ≡ Some b → NoReturn P n a → IsDistinct eqb (classes_on n P a)
unfolding IsDistinct
distinct_way P zero a b way never = (tt, tt)
distinct_way P (suc n) a b way never =
    let step = way_back P n a b way in
    let rest : NoReturn P n step.0 = λ i j c few first back. never (suc i) j c (omega arith) (way_on P i a step.0 c step.1 first) back in
    subst (λ o. IsDistinct eqb (a ∷ onward (classes_on n P) o)) (sym step.1)
    (all_apart a (classes_on n P step.0) (fresh P n a step.0 step.1 never), distinct_way P n step.0 b step.2 rest)

within_way : (P : Parents) (n a b : ℕ) → above_in n P a ≡ Some b → b < length P → (q : ℕ) → list_any (eqb q) (classes_on n P a) ≡ true → q < length P
within_way P n a b way within q there =
    let at = on_way P n a q there in
    let whole : n ≡ at.0 + (n - at.0) = omega (arith, at.1) in
    let parts = ways_split P at.0 (n - at.0) a b (subst (λ k. above_in k P a ≡ Some b) whole way) in
    let same : parts.0 ≡ q = same_Some _ _ (sym parts.1 ∙ at.2) in
    way_within P (n - at.0) q b (subst (λ k. above_in (n - at.0) P k ≡ Some b) same parts.2) within

pub way_short : (P : Parents) (n a b : ℕ) → above_in n P a ≡ Some b → b < length P → NoReturn P n a → n < length P
way_short P n a b way within never =
    let few : length (classes_on n P a) ≤ length P =
    length-le_from_distinct_below (classes_on n P a) (length P) (distinct_way P n a b way never) (within_way P n a b way within) in
    omega (arith, few, length_way P n a b way)
