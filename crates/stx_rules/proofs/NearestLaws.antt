-- The winner is the first of the least deep: what the definition's search finds, by induction over the depths.
use Rattle.std.proofs.Common.{◌≡◌, ℕ, zero, suc, ◌+◌, ◌<◌, ◌≤◌, List, [], ◌∷◌, Option, Some, None, map, refl, sym, ap, subst, ◌∙◌, arith, ◌⊎◌, inl, inr}
use Rattle.std.specs.Prelude.{slice_get}
use Rattle.std.specs.Option.{option_map, option_and_then}
use Rattle.std.proofs.lemmas.Option.{slice_get-map}
use Rattle.stx_scenario.specs.declared.scenario.ClassDecl.{ClassDecl}
use Rattle.stx_scenario.specs.declared.scenario.Rule.{Rule}
use Rattle.stx_base.specs.Rules.{lesser, least, rule_depth, first_least_from, winner}
use Rattle.stx_rules.specs.Laws.{depth_at, IsNearest, WinnerIsNearest}
use Rattle.stx_rules.proofs.WinnerLaws.{least_here, least_later, first_here, first_later}

-- ---- among depths

abbrev at : List (Option ℕ) → ℕ → Option ℕ
at depths k = option_and_then (λ depth. depth) (slice_get depths k)

record IsNone (n : ℕ) (depths : List (Option ℕ)) : Type 0 where
  least_is : least depths ≡ None
  first_is : first_least_from n depths ≡ None
  none : (k : ℕ) → at depths k ≡ None

record IsFirst (n : ℕ) (depths : List (Option ℕ)) : Type 0 where
  depth : ℕ
  place : ℕ
  least_is : least depths ≡ Some depth
  first_is : first_least_from n depths ≡ Some (n + place)
  here : at depths place ≡ Some depth
  earlier : (k d : ℕ) → k < place → at depths k ≡ Some d → depth < d
  each : (k d : ℕ) → at depths k ≡ Some d → depth ≤ d

some_is : {d e : ℕ} → Some d ≡ Some e → d ≡ e
some_is is = cc

never : {X : Type 0} {d : ℕ} (o : Option ℕ) → o ≡ None → o ≡ Some d → X
never o none some = cc

-- ---- one depth more in front

without : (n : ℕ) (depths : List (Option ℕ)) → IsNone (n + 1) depths ⊎ IsFirst (n + 1) depths → IsNone n (None ∷ depths) ⊎ IsFirst n (None ∷ depths)
without n depths (inl rest) = inl (record { least_is = rest.least_is; first_is = rest.first_is; none = none })
  where
    none : (k : ℕ) → at (None ∷ depths) k ≡ None
    none zero = refl
    none (suc k) = rest.none k
without n depths (inr rest) =
    let next : n + 1 + rest.place ≡ n + suc rest.place = omega arith in
    inr (record {
      depth = rest.depth;
      place = suc rest.place;
      least_is = rest.least_is;
      first_is = rest.first_is ∙ ap Some next;
      here = rest.here;
      earlier = earlier;
      each = each;
    })
  where
    earlier : (k d : ℕ) → k < suc rest.place → at (None ∷ depths) k ≡ Some d → rest.depth < d
    earlier zero d before is = never None refl is
    earlier (suc k) d before is = rest.earlier k d (omega (arith, before)) is

    each : (k d : ℕ) → at (None ∷ depths) k ≡ Some d → rest.depth ≤ d
    each zero d is = never None refl is
    each (suc k) d is = rest.each k d is

first_of : (n e : ℕ) (depths : List (Option ℕ)) → least (Some e ∷ depths) ≡ Some e → ((k d : ℕ) → at depths k ≡ Some d → e ≤ d) → IsFirst n (Some e ∷ depths)
first_of n e depths least_is rest =
    let same : n ≡ n + 0 = omega arith in
    record {
      depth = e;
      place = 0;
      least_is = least_is;
      first_is = first_here n e depths least_is ∙ ap Some same;
      here = refl;
      earlier = λ k d before is. absurd (omega (arith, before));
      each = each;
    }
  where
    each : (k d : ℕ) → at (Some e ∷ depths) k ≡ Some d → e ≤ d
    each zero d is = let same = some_is is in omega (arith, same)
    each (suc k) d is = rest k d is

later_first : (n e : ℕ) (depths : List (Option ℕ)) (rest : IsFirst (n + 1) depths) → rest.depth < e → IsFirst n (Some e ∷ depths)
later_first n e depths rest nearer =
    let next : n + 1 + rest.place ≡ n + suc rest.place = omega arith in
    record {
      depth = rest.depth;
      place = suc rest.place;
      least_is = least_later e rest.depth depths rest.least_is nearer;
      first_is = first_later n e rest.depth depths rest.least_is nearer ∙ rest.first_is ∙ ap Some next;
      here = rest.here;
      earlier = earlier;
      each = each;
    }
  where
    earlier : (k d : ℕ) → k < suc rest.place → at (Some e ∷ depths) k ≡ Some d → rest.depth < d
    earlier zero d before is = subst (λ x. rest.depth < x) (some_is is) nearer
    earlier (suc k) d before is = rest.earlier k d (omega (arith, before)) is

    each : (k d : ℕ) → at (Some e ∷ depths) k ≡ Some d → rest.depth ≤ d
    each zero d is = let same = some_is is in omega (arith, same, nearer)
    each (suc k) d is = rest.each k d is

within : (n e : ℕ) (depths : List (Option ℕ)) → IsNone (n + 1) depths ⊎ IsFirst (n + 1) depths → IsFirst n (Some e ∷ depths)
within n e depths (inl rest) = first_of n e depths (ap (lesser (Some e)) rest.least_is) (λ k d is. never (at depths k) (rest.none k) is)
within n e depths (inr rest) = by (either rest.depth e)
  where
    either : (a b : ℕ) → (b ≤ a) ⊎ (a < b)
    either a zero = inl (omega arith)
    either zero (suc b) = inr (omega arith)
    either (suc a) (suc b) = elim (either a b) [ inl h ↦ inl (omega (arith, h)) | inr h ↦ inr (omega (arith, h)) ]

    by : (e ≤ rest.depth) ⊎ (rest.depth < e) → IsFirst n (Some e ∷ depths)
    by (inl near) =
        first_of n e depths (least_here e rest.depth depths rest.least_is near)
        (λ k d is. let least_depth = rest.each k d is in omega (arith, near, least_depth))
    by (inr nearer) = later_first n e depths rest nearer

search_finds : (n : ℕ) (depths : List (Option ℕ)) → IsNone n depths ⊎ IsFirst n depths
search_finds n [] = inl (record { least_is = refl; first_is = refl; none = λ k. refl })
search_finds n (None ∷ depths) = without n depths (search_finds (n + 1) depths)
search_finds n (Some e ∷ depths) = inr (within n e depths (search_finds (n + 1) depths))

-- ---- among rules

joined : (f : Rule → Option ℕ) (o : Option Rule) → option_and_then (λ depth. depth) (option_map f o) ≡ option_and_then f o
joined f (Some rule) = refl
joined f None = refl

module _ (classes : List ClassDecl) (rules : List Rule) (thrown : ℕ) where
  depths : List (Option ℕ)
  depths = map (rule_depth classes thrown) rules

  at_rule : (k : ℕ) → at depths k ≡ depth_at classes rules thrown k
  unfolding depths
  at_rule k =
      ap (option_and_then (λ depth. depth)) (slice_get-map (rule_depth classes thrown) rules k)
      ∙ joined (rule_depth classes thrown) (slice_get rules k)

  wins : (place : ℕ) → IsNone 0 depths ⊎ IsFirst 0 depths → first_least_from 0 depths ≡ Some place → IsNearest classes rules thrown place
  wins place (inl none) is = never (first_least_from 0 depths) none.first_is is
  wins place (inr first) is =
      let same : first.place ≡ place = let said = some_is (sym first.first_is ∙ is) in omega (arith, said) in
      record {
        depth = first.depth;
        here = sym (at_rule place) ∙ ap (at depths) (sym same) ∙ first.here;
        earlier = λ k d before at_k. first.earlier k d (omega (arith, before, same)) (at_rule k ∙ at_k);
        later = λ k d after at_k. first.each k d (at_rule k ∙ at_k);
      }

  nearest : (place : ℕ) → IsNone 0 depths ⊎ IsFirst 0 depths → IsNearest classes rules thrown place → first_least_from 0 depths ≡ Some place
  nearest place (inl none) is = never (at depths place) (none.none place) (at_rule place ∙ is.here)
  nearest place (inr first) is =
      let not_after : (first.place < place) → ⊥ =
      λ before. let nearer = is.earlier first.place first.depth before (sym (at_rule first.place) ∙ first.here) in
      let far = first.each place is.depth (at_rule place ∙ is.here) in omega (arith, nearer, far) in
      let not_before : (place < first.place) → ⊥ =
      λ before. let nearer = first.earlier place is.depth before (at_rule place ∙ is.here) in
      let far = is.later first.place first.depth before (sym (at_rule first.place) ∙ first.here) in omega (arith, nearer, far) in
      let same : 0 + first.place ≡ place = omega (arith, not_after, not_before) in
      first.first_is ∙ ap Some same

  none_matches : IsNone 0 depths ⊎ IsFirst 0 depths → first_least_from 0 depths ≡ None → (place : ℕ) → depth_at classes rules thrown place ≡ None
  none_matches (inl none) is place = sym (at_rule place) ∙ none.none place
  none_matches (inr first) is place = never (first_least_from 0 depths) is first.first_is

  none_wins : IsNone 0 depths ⊎ IsFirst 0 depths → ((place : ℕ) → depth_at classes rules thrown place ≡ None) → first_least_from 0 depths ≡ None
  none_wins (inl none) each = none.first_is
  none_wins (inr first) each = never (at depths first.place) (at_rule first.place ∙ each first.place) first.here

pub winner_is_nearest : WinnerIsNearest
unfolding winner depths
winner_is_nearest classes rules thrown =
    let found = search_finds 0 (map (rule_depth classes thrown) rules) in
    (λ place. (wins classes rules thrown place found, nearest classes rules thrown place found), (none_matches classes rules thrown found, none_wins classes rules thrown found))
