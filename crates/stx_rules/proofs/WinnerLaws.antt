-- The search from the last rule to the first: what is found among the later rules, and one rule more.
use Rattle.std.proofs.Common.{◌≡◌, ℕ, ◌+◌, ◌-◌, ◌<◌, ◌≤◌, cond, List, [], ◌∷◌, Option, Some, None, map, drop, length, refl, sym, ap, subst, ◌∙◌, arith, eq-eqb, ne_eqb, slice_index_or}
use Rattle.std.specs.List.{position_from}
use Rattle.std.specs.Option.{option_map, option_and_then}
use Rattle.std.proofs.lemmas.Bool.{le-leb, lt-leb}
use Rattle.std.proofs.lemmas.List.{drop_more, drop-map}
use Rattle.std.proofs.Math.ListN.{drop_of_length-le}
use Rattle.stx_scenario.specs.declared.scenario.Rule.{Rule}
use Rattle.stx_base.specs.Rules.{lesser, least, is_at, first_least_from}
use Rattle.stx_rules.specs.declared.decision.Match.{Match}

-- the first match of least depth, among depths whose places are counted from n
pub record IsBest (n : ℕ) (depths : List (Option ℕ)) (best : Option Match) : Type 0 where
  pub at_depth : option_map (λ m. m.depth) best ≡ least depths
  pub at_place : option_map (λ m. m.place) best ≡ first_least_from n depths

-- ---- the least depth of one more

pub least_here : (e m : ℕ) (ds : List (Option ℕ)) → least ds ≡ Some m → e ≤ m → least (Some e ∷ ds) ≡ Some e
least_here e m ds is near = ap (lesser (Some e)) is ∙ ap (λ b. Some (cond b e m)) (le-leb e m near)

pub least_later : (e m : ℕ) (ds : List (Option ℕ)) → least ds ≡ Some m → m < e → least (Some e ∷ ds) ≡ Some m
least_later e m ds is nearer = ap (lesser (Some e)) is ∙ ap (λ b. Some (cond b e m)) (lt-leb e m nearer)

-- ---- and its first place

pub first_here : (n e : ℕ) (ds : List (Option ℕ)) → least (Some e ∷ ds) ≡ Some e → first_least_from n (Some e ∷ ds) ≡ Some n
first_here n e ds is =
    ap (option_and_then (λ depth. position_from (is_at depth) n (Some e ∷ ds))) is
    ∙ ap (λ b. cond b (Some n) (position_from (is_at e) (n + 1) ds)) (eq-eqb e e refl)

pub first_later : (n e m : ℕ) (ds : List (Option ℕ)) → least ds ≡ Some m → m < e
    → first_least_from n (Some e ∷ ds) ≡ first_least_from (n + 1) ds
first_later n e m ds is nearer =
    ap (option_and_then (λ depth. position_from (is_at depth) n (Some e ∷ ds))) (least_later e m ds is nearer)
    ∙ ap (λ b. cond b (Some n) (position_from (is_at m) (n + 1) ds)) (ne_eqb e m (omega arith))
    ∙ sym (ap (option_and_then (λ depth. position_from (is_at depth) (n + 1) ds)) is)

-- ---- one rule more, before those that were searched

pub without_match : (n : ℕ) (best : Option Match) (ds : List (Option ℕ)) → IsBest (n + 1) ds best → IsBest n (None ∷ ds) best
without_match n best ds later = record { at_depth = later.at_depth; at_place = later.at_place }

pub later_stays : (n e : ℕ) (m : Match) (ds : List (Option ℕ)) → m.depth < e → IsBest (n + 1) ds (Some m) → IsBest n (Some e ∷ ds) (Some m)
later_stays n e m ds nearer later = record {
  at_depth = sym (least_later e m.depth ds (sym later.at_depth) nearer);
  at_place = later.at_place ∙ sym (first_later n e m.depth ds (sym later.at_depth) nearer);
}

takes : (n e : ℕ) (ds : List (Option ℕ)) → least (Some e ∷ ds) ≡ Some e → IsBest n (Some e ∷ ds) (Some (record { place = n; depth = e }))
takes n e ds is = record { at_depth = sym is; at_place = sym (first_here n e ds is) }

pub earlier_wins : (n e : ℕ) (m : Match) (ds : List (Option ℕ)) → e ≤ m.depth → IsBest (n + 1) ds (Some m)
    → IsBest n (Some e ∷ ds) (Some (record { place = n; depth = e }))
earlier_wins n e m ds near later = takes n e ds (least_here e m.depth ds (sym later.at_depth) near)

pub only_match : (n e : ℕ) (ds : List (Option ℕ)) → IsBest (n + 1) ds None → IsBest n (Some e ∷ ds) (Some (record { place = n; depth = e }))
only_match n e ds later = takes n e ds (ap (lesser (Some e)) (sym later.at_depth))

-- ---- over the rules that are left

pub one_more : (f : Rule → Option ℕ) (rules : List Rule) (k : ℕ) (r : Rule) (d : Option ℕ) (best new : Option Match)
    → 0 < k → k ≤ length rules → r ≡ slice_index_or rules (k - 1) r → d ≡ f r
    → IsBest k (drop k (map f rules)) best
    → ((ds : List (Option ℕ)) → IsBest (k - 1 + 1) ds best → IsBest (k - 1) (d ∷ ds) new)
    → IsBest (k - 1) (drop (k - 1) (map f rules)) new
one_more f rules k r d best new more bound at is later step =
    let same : k - 1 + 1 ≡ k = omega arith in
    let in_range : k - 1 < length rules = omega arith in
    let next : drop (k - 1) (map f rules) ≡ d ∷ drop k (map f rules) =
    drop-map f (k - 1) rules
    ∙ ap (map f) (drop_more rules (k - 1) r in_range)
    ∙ ap (λ x. f x ∷ map f (drop (k - 1 + 1) rules)) (sym at)
    ∙ ap (λ x. x ∷ map f (drop (k - 1 + 1) rules)) (sym is)
    ∙ ap (λ j. d ∷ map f (drop j rules)) same
    ∙ ap (λ xs. d ∷ xs) (sym (drop-map f k rules)) in
    subst (λ ds. IsBest (k - 1) ds new) (sym next) (step (drop k (map f rules)) (subst (λ j. IsBest j (drop k (map f rules)) best) (sym same) later))

pub none_searched : (f : Rule → Option ℕ) (rules : List Rule) (k : ℕ) → length rules ≤ k → IsBest k (drop k (map f rules)) None
none_searched f rules k past =
    let none : drop k (map f rules) ≡ [] = drop-map f k rules ∙ ap (map f) (drop_of_length-le rules past) in
    subst (λ ds. IsBest k ds None) (sym none) (record { at_depth = refl; at_place = refl })

pub all_searched : (f : Rule → Option ℕ) (rules : List Rule) (k : ℕ) (best : Option Match) → k ≤ 0 → IsBest k (drop k (map f rules)) best
    → option_map (λ m. m.place) best ≡ first_least_from 0 (map f rules)
all_searched f rules k best first found =
    let start : k ≡ 0 = omega arith in
    subst (λ j. option_map (λ m. m.place) best ≡ first_least_from j (drop j (map f rules))) start found.at_place
