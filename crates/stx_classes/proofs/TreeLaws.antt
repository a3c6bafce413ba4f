-- The laws of the tree, from those of its ways.
use Rattle.std.proofs.Common.{◌≡◌, ◌⊎◌, ℕ, zero, suc, ◌+◌, ◌<◌, ◌≤◌, Bool, true, false, cond, List, Option, Some, None, length, refl, sym, ap, subst, ◌∙◌, inl, inr, arith}
use Rattle.std.specs.List.{find, range_with_len}
use Rattle.std.proofs.lemmas.Bool.{false≢true, cases_Bool, cases_eq, ltb-false, leb-false, eqb-true, not-false}
use Rattle.std.proofs.lemmas.Option.{none-some}
use Rattle.std.proofs.lemmas.List.{length-map}
use Rattle.stx_scenario.specs.declared.scenario.ClassDecl.{ClassDecl}
use Rattle.stx_scenario.specs.declared.classes.TheConstants.{THROWABLE}
use Rattle.stx_base.specs.Classes.{Parents, parent_in, above_in, depth_in, has_unknown_parent, is_own_ancestor, is_too_deep, is_unknown, is_over, parents_of, deepest, first_class}
use Rattle.stx_classes.specs.Laws.{DepthIsFewest, BelowIsAWay, OwnAncestorIsAWay, TreeReachesThrowable}
use Rattle.stx_classes.proofs.WayLaws.{way_on, way_back, ways_join, has_parent, NoReturn, way_short}
use Rattle.stx_classes.proofs.DepthLaws.{depth_fewest, fewest_depth, way_depth, below_way, way_below, own_way, way_own}

-- ---- a test that no class passes

find_none : (test : ℕ → Bool) (a n q : ℕ) → find test (range_with_len a n) ≡ None → a ≤ q → q < a + n → test q ≡ false
find_none test a zero q none low high = absurd (omega arith)
find_none test a (suc n) q none low high = elim (cases_Bool (test a)) [
  | inl here ↦ absurd (none-some a (sym none ∙ ap (λ b. cond b (Some a) (find test (range_with_len (a + 1) n))) here))
  | inr absent ↦ elim (cases_eq a q) [
    | inl same ↦ subst (λ k. test k ≡ false) same absent
    | inr other ↦ find_none test (a + 1) n q (ap (λ b. cond b (Some a) (find test (range_with_len (a + 1) n))) (sym absent) ∙ none) (omega arith) (omega arith)
  ]
]

none_of : (P : Parents) (test : ℕ → Bool) (q : ℕ) → first_class P test ≡ None → q < length P → test q ≡ false
none_of P test q none within = find_none test 0 (length P) q none (omega arith) (omega arith)

-- ---- the laws

size : (classes : List ClassDecl) → length (parents_of classes) ≡ length classes
size classes = length-map classes (λ class. class.parent)

in_parents : (classes : List ClassDecl) (b : ℕ) → b < length classes → b < length (parents_of classes)
in_parents classes b within = subst (λ k. b < k) (sym (size classes)) within

pub depth_fewest_steps : DepthIsFewest
depth_fewest_steps classes a b n within =
    let P = parents_of classes in (
      (λ found. let way = depth_fewest P a b n found in record { leads = way.leads; fewest = way.fewest }),
      (λ way. fewest_depth P a b n (in_parents classes b within) (record { leads = way.leads; fewest = way.fewest })),
    )

pub below_has_way : BelowIsAWay
below_has_way classes a b within =
    let P = parents_of classes in (
      (λ below. below_way P a b below),
      (λ way. way_below P a b way.0 (in_parents classes b within) way.1),
    )

returning : (P : Parents) (a n : ℕ) → a < length P → 0 < n → above_in n P a ≡ Some a → is_own_ancestor P a ≡ true
returning P a zero within some way = absurd (omega arith)
returning P a (suc n) within some way = way_own P a n within way

pub own_ancestor_has_way : OwnAncestorIsAWay
own_ancestor_has_way classes a within =
    let P = parents_of classes in (
      (λ own. own_way P a own),
      (λ way. returning P a way.0 (in_parents classes a within) way.1 way.2),
    )

-- ---- in a tree each way goes on up to Throwable

-- a class below Throwable that isn't Throwable has a parent in range
known : (P : Parents) (c : ℕ) (o : Option ℕ) → (c ≡ THROWABLE.0 → ⊥) → is_unknown (length P) c o ≡ false → (b : ℕ) × (o ≡ Some b) × (b < length P)
known P c None other is = absurd (other (eqb-true c THROWABLE.0 (not-false _ is)))
known P c (Some b) other is = (b, refl, leb-false (length P) b is)

-- where no way leads to Throwable, there is one of any length
endless : (P : Parents) (a : ℕ) → a < length P
    → ((c : ℕ) → c < length P → has_unknown_parent P c ≡ false)
    → ((k : ℕ) → above_in k P a ≡ Some THROWABLE.0 → ⊥)
    → (k : ℕ) → (c : ℕ) × (above_in k P a ≡ Some c) × (c < length P)
endless P a within parents never zero = (a, refl, within)
endless P a within parents never (suc k) =
    let before = endless P a within parents never k in
    let c = before.0 in
    let up = known P c (parent_in P c) (λ e. never k (before.1 ∙ ap Some e)) (parents c before.2) in
    let one = way_on P 0 c up.0 up.0 up.1 refl in
    let more : k + 1 ≡ suc k = omega arith in
    (up.0, subst (λ m. above_in m P a ≡ Some up.0) more (ways_join P k 1 a c up.0 before.1 one), up.2)

depth_cases : (o : Option ℕ) → (o ≡ None) ⊎ ((n : ℕ) × (o ≡ Some n))
depth_cases None = inl refl
depth_cases (Some n) = inr (n, refl)

reaches_throwable : (P : Parents) (a : ℕ) → a < length P
    → ((c : ℕ) → c < length P → has_unknown_parent P c ≡ false)
    → ((c : ℕ) → c < length P → is_own_ancestor P c ≡ false)
    → (n : ℕ) × (depth_in P a THROWABLE.0 ≡ Some n)
reaches_throwable P a within parents acyclic = elim (depth_cases (depth_in P a THROWABLE.0)) [
  | inr found ↦ found
  | inl none ↦
      let never : (k : ℕ) → above_in k P a ≡ Some THROWABLE.0 → ⊥ =
      λ k way. let found = way_depth P a THROWABLE.0 k (omega arith) way in none-some found.0 (sym none ∙ found.1) in
      let long = endless P a within parents never (length P) in
      let no_way_back : NoReturn P (length P) a =
      λ i j c few first back.
      let up = way_back P j c c back in
      let there = has_parent P c up.0 up.1 in
      false≢true (sym (acyclic c there) ∙ way_own P c j there back) in
      absurd (omega (arith, way_short P (length P) a long.0 long.1 long.2 no_way_back))
]

pub tree_reaches : TreeReachesThrowable
tree_reaches classes tree a within =
    let P = parents_of classes in
    let there = in_parents classes a within in
    let found = reaches_throwable P a there (λ c. none_of P (has_unknown_parent P) c tree.parents) (λ c. none_of P (is_own_ancestor P) c tree.acyclic) in
    let near : is_over (Some found.0) ≡ false = ap is_over (sym found.1) ∙ none_of P (is_too_deep P) a tree.near there in
    (found.0, ltb-false deepest found.0 near, found.1)
