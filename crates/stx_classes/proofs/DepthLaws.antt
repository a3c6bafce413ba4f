-- The depth is the fewest steps of a way up, and it is there wherever there is a way.
use Rattle.std.proofs.Common.{◌≡◌, ℕ, zero, suc, ◌+◌, ◌-◌, ◌<◌, ◌≤◌, Bool, true, false, ◌==◌, cond, Option, Some, None, length, refl, sym, ap, subst, ◌∙◌, inl, inr, arith, eqb-true, eq-eqb}
use Rattle.std.specs.Option.{is_some, option_and_then}
use Rattle.std.proofs.lemmas.Bool.{false≢true, cases_Bool, cases_lt}
use Rattle.std.proofs.lemmas.Option.{option_and_then_some, same_Some, none-some}
use Rattle.stx_base.specs.Classes.{Parents, parent_in, above_in, one_more, bounded_steps_in, depth_in, is_below_in, is_own_ancestor}
use Rattle.stx_classes.proofs.WayLaws.{way_on, way_back, ways_join, ways_split, NoReturn, way_short}

-- ---- what a count of steps says

-- k steps lead up to a class that is wanted, and none before it is
pub record Reaches (P : Parents) (wanted : ℕ → Bool) (a k : ℕ) : Type 0 where
  pub class : ℕ
  pub leads : above_in k P a ≡ Some class
  pub is_wanted : wanted class ≡ true
  pub none_before : (m d : ℕ) → m < k → above_in m P a ≡ Some d → wanted d ≡ false

one_fewer : (o : Option ℕ) (k : ℕ) → one_more o ≡ Some k → (j : ℕ) × (o ≡ Some j) × (k ≡ suc j)
one_fewer None k h = absurd (none-some k h)
one_fewer (Some j) k h = let same : j + 1 ≡ k = same_Some _ _ h in (j, refl, omega (arith, same))

later : (P : Parents) (wanted : ℕ → Bool) (a b j : ℕ) → wanted a ≡ false → parent_in P a ≡ Some b → Reaches P wanted b j
    → (m d : ℕ) → m < suc j → above_in m P a ≡ Some d → wanted d ≡ false
later P wanted a b j isn't up rest zero d few way = subst (λ x. wanted x ≡ false) (same_Some a d way) isn't
later P wanted a b j isn't up rest (suc m) d few way =
    let step = way_back P m a d way in
    let same : step.0 ≡ b = same_Some _ _ (sym step.1 ∙ up) in
    rest.none_before m d (omega arith) (subst (λ x. above_in m P x ≡ Some d) same step.2)

pub reaches : (n : ℕ) (P : Parents) (wanted : ℕ → Bool) (a k : ℕ) → bounded_steps_in n P wanted a ≡ Some k → Reaches P wanted a k
reaches zero P wanted a k found = absurd (none-some k found)
reaches (suc n) P wanted a k found =
    let above = one_more (option_and_then (bounded_steps_in n P wanted) (parent_in P a)) in
    elim (cases_Bool (wanted a)) [
      | inl is ↦
          let here : 0 ≡ k = same_Some 0 k (subst (λ b. cond b (Some 0) above ≡ Some k) is found) in
          subst (Reaches P wanted a) here (record {
            class = a;
            leads = refl;
            is_wanted = is;
            none_before = λ m d few way. absurd (omega arith);
          })
      | inr isn't ↦
          let fewer = one_fewer _ k (subst (λ b. cond b (Some 0) above ≡ Some k) isn't found) in
          option_and_then_some (bounded_steps_in n P wanted) (parent_in P a) fewer.0 fewer.1
          (λ b up rest. let there = reaches n P wanted b fewer.0 rest in subst (Reaches P wanted a) (sym fewer.2) (record {
            class = there.class;
            leads = way_on P fewer.0 a b there.class up there.leads;
            is_wanted = there.is_wanted;
            none_before = later P wanted a b fewer.0 isn't up there;
          }))
    ]

-- a way to a class that is wanted is found
pub found_on : (n : ℕ) (P : Parents) (wanted : ℕ → Bool) (a k c : ℕ) → above_in k P a ≡ Some c → wanted c ≡ true → k < n
    → (m : ℕ) × (bounded_steps_in n P wanted a ≡ Some m)
found_on zero P wanted a k c way is few = absurd (omega arith)
found_on (suc n) P wanted a zero c way is few = (0, rw (subst (λ x. wanted x ≡ true) (sym (same_Some a c way)) is) refl)
found_on (suc n) P wanted a (suc k) c way is few = elim (cases_Bool (wanted a)) [
  | inl here ↦ (0, rw here refl)
  | inr isn't ↦
      let step = way_back P k a c way in
      let rest = found_on n P wanted step.0 k c step.2 is (omega arith) in
      (rest.0 + 1, rw isn't (rw step.1 (rw rest.1 refl)))
]

-- ---- the depth

pub record Fewest (P : Parents) (a b n : ℕ) : Type 0 where
  pub leads : above_in n P a ≡ Some b
  pub fewest : (m : ℕ) → above_in m P a ≡ Some b → n ≤ m

reaches_fewest : (P : Parents) (a b n : ℕ) → Reaches P (λ c. c == b) a n → Fewest P a b n
reaches_fewest P a b n there = record {
  leads = subst (λ c. above_in n P a ≡ Some c) (eqb-true there.class b there.is_wanted) there.leads;
  fewest = λ m way. elim (cases_lt m n) [
    | inl before ↦ absurd (false≢true (sym (there.none_before m b before way) ∙ eq-eqb b b refl))
    | inr least ↦ least
  ];
}

pub depth_fewest : (P : Parents) (a b n : ℕ) → depth_in P a b ≡ Some n → Fewest P a b n
depth_fewest P a b n found = reaches_fewest P a b n (reaches (length P) P (λ c. c == b) a n found)

no_return : (P : Parents) (a b n : ℕ) → Fewest P a b n → NoReturn P n a
no_return P a b n way i j c few first back =
    let rest = n - (i + suc j) in
    let whole : n ≡ i + suc j + rest = omega arith in
    let parts = ways_split P (i + suc j) rest a b (subst (λ k. above_in k P a ≡ Some b) whole way.leads) in
    let same : parts.0 ≡ c = same_Some _ _ (sym parts.1 ∙ ways_join P i (suc j) a c c first back) in
    let short = ways_join P i rest a c b first (subst (λ x. above_in rest P x ≡ Some b) same parts.2) in
    omega (arith, way.fewest (i + rest) short)

pub fewest_depth : (P : Parents) (a b n : ℕ) → b < length P → Fewest P a b n → depth_in P a b ≡ Some n
fewest_depth P a b n within way =
    let few = way_short P n a b way.leads within (no_return P a b n way) in
    let found = found_on (length P) P (λ c. c == b) a n b way.leads (eq-eqb b b refl) few in
    let other = depth_fewest P a b found.0 found.1 in
    let same : found.0 ≡ n = omega (arith, way.fewest found.0 other.leads, other.fewest n way.leads) in
    found.1 ∙ ap Some same

pub way_depth : (P : Parents) (a b k : ℕ) → b < length P → above_in k P a ≡ Some b → (n : ℕ) × (depth_in P a b ≡ Some n)
way_depth P a b k within way =
    let found = found_on (suc k) P (λ c. c == b) a k b way (eq-eqb b b refl) (omega arith) in
    (found.0, fewest_depth P a b found.0 within (reaches_fewest P a b found.0 (reaches (suc k) P (λ c. c == b) a found.0 found.1)))

is_some_at : (o : Option ℕ) → is_some o ≡ true → (n : ℕ) × (o ≡ Some n)
is_some_at None h = absurd (false≢true h)
is_some_at (Some n) h = (n, refl)

pub below_way : (P : Parents) (a b : ℕ) → is_below_in P a b ≡ true → (n : ℕ) × (above_in n P a ≡ Some b)
below_way P a b below = let found = is_some_at (depth_in P a b) below in (found.0, (depth_fewest P a b found.0 found.1).leads)

pub way_below : (P : Parents) (a b n : ℕ) → b < length P → above_in n P a ≡ Some b → is_below_in P a b ≡ true
way_below P a b n within way = let found = way_depth P a b n within way in ap is_some found.1

-- ---- a class that is its own ancestor

reached : (P : Parents) (a : ℕ) (o : Option ℕ) → is_some (option_and_then (λ parent. depth_in P parent a) o) ≡ true
    → (b : ℕ) × (o ≡ Some b) × (is_below_in P b a ≡ true)
reached P a None h = absurd (false≢true h)
reached P a (Some b) h = (b, refl, h)

pub own_way : (P : Parents) (a : ℕ) → is_own_ancestor P a ≡ true → (n : ℕ) × (0 < n) × (above_in n P a ≡ Some a)
own_way P a own =
    let there = reached P a (parent_in P a) own in
    let way = below_way P there.0 a there.2 in
    (suc way.0, omega arith, way_on P way.0 a there.0 a there.1 way.1)

pub way_own : (P : Parents) (a n : ℕ) → a < length P → above_in (suc n) P a ≡ Some a → is_own_ancestor P a ≡ true
way_own P a n within way =
    let step = way_back P n a a way in
    rw step.1 (way_below P step.0 a n within step.2)
