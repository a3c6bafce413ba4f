-- A method leads to itself by the bounded search exactly where a way leads from it back to it.
use Rattle.std.proofs.Common.{◌≡◌, ◌⊎◌, ℕ, zero, suc, ◌<◌, ◌≤◌, Bool, true, false, ◌==◌, List, [], ◌∷◌, length, inl, inr, refl, sym, ◌∙◌, ap, subst, arith, eqb-true}
use Rattle.std.specs.List.{list_any, AllByRecursion, IsDistinct}
use Rattle.std.proofs.lemmas.Bool.{cases_Bool, or_cases, or_left, or_right, false≢true}
use Rattle.std.proofs.lemmas.Map.Keys.{IsDistinct-cons}
use Rattle.std.proofs.lemmas.Map.Steps.{length-le_from_distinct_below}
use Rattle.stx_scenario.specs.declared.numbers.MethodNo.{MethodNo}
use Rattle.stx_base.specs.Weight.{Next, Way, LeadsTo, leads, has_method}
use Rattle.stx_base.proofs.WayLaws.{numbered, same_method, has_itself}
use Rattle.stx_base.proofs.WeightLaws.{leads_below}
use Rattle.stx_judge.specs.Calls.{reaches, leads_to_itself}
use Rattle.stx_judge.specs.Laws.{CyclesAreWays}

-- ---- the search and ways of a bounded length

any_at : (p : MethodNo → Bool) (ms : List MethodNo) → list_any p ms ≡ true → (m : MethodNo) × (has_method ms m ≡ true) × (p m ≡ true)
any_at p [] h = absurd (false≢true h)
any_at p (n ∷ ms) h = elim (cases_Bool (p n)) [
  | inl here ↦ (n, has_itself n ms, here)
  | inr absent ↦ elim (or_cases _ _ h) [
    | inl here ↦ absurd (false≢true (sym absent ∙ here))
    | inr later ↦ let rest = any_at p ms later in (rest.0, or_right _ _ rest.1, rest.2)
  ]
]

at_any : (p : MethodNo → Bool) (ms : List MethodNo) (m : MethodNo) → has_method ms m ≡ true → p m ≡ true → list_any p ms ≡ true
at_any p [] m has passed = absurd (false≢true has)
at_any p (n ∷ ms) m has passed = elim (or_cases _ _ has) [
  | inl here ↦ or_left _ _ (ap p (same_method n m here) ∙ passed)
  | inr later ↦ or_right _ _ (at_any p ms m later passed)
]

-- a way of one step or more, and at most so many
abbrev ShortWay : ℕ → Next → MethodNo → MethodNo → Type 0
ShortWay most next m n = (steps : ℕ) × (steps < most) × Way next (suc steps) m n

reach_way : (most : ℕ) (next : Next) (m n : MethodNo) → reaches most next m n ≡ true → ShortWay most next m n
reach_way zero next m n h = absurd (false≢true h)
reach_way (suc most) next m n h = elim (or_cases _ _ h) [
  | inl once ↦ (0, omega arith, (n, once, refl))
  | inr more ↦
      let through = any_at (λ t. reaches most next t n) (next m) more in
      let rest = reach_way most next through.0 n through.2 in
      (suc rest.0, omega (arith, rest.1), (through.0, through.1, rest.2))
]

way_reach : (most steps : ℕ) (next : Next) (m n : MethodNo) → steps < most → Way next (suc steps) m n → reaches most next m n ≡ true
way_reach zero steps next m n few way = absurd (omega arith)
way_reach (suc most) zero next m n few way = or_left _ _ (subst (λ (t : MethodNo). has_method (next m) t ≡ true) way.2 way.1)
way_reach (suc most) (suc steps) next m n few way =
    or_right _ _ (at_any (λ t. reaches most next t n) (next m) way.0 way.1 (way_reach most steps next way.0 n (omega arith) way.2))

-- ---- a way that meets a method twice can be shortened

-- the methods that a way meets after its first
nodes : (next : Next) (steps : ℕ) (m n : MethodNo) → Way next steps m n → List ℕ
nodes next zero m n way = []
nodes next (suc steps) m n way = (way.0).0 ∷ nodes next steps way.0 n way.2

nodes_count : (next : Next) (steps : ℕ) (m n : MethodNo) (way : Way next steps m n) → length (nodes next steps m n way) ≡ steps
unfolding nodes
nodes_count next zero m n way = refl
nodes_count next (suc steps) m n way = ap suc (nodes_count next steps way.0 n way.2)

nodes_below : (next : Next) (count : ℕ) → ((m n : MethodNo) → LeadsTo next m n → n.0 < count)
    → (steps : ℕ) (m n : MethodNo) (way : Way next steps m n) (a : ℕ) → list_any (λ v. a == v) (nodes next steps m n way) ≡ true → a < count
unfolding nodes
nodes_below next count range zero m n way a h = absurd (false≢true h)
nodes_below next count range (suc steps) m n way a h = elim (or_cases _ _ h) [
  | inl here ↦ let e = eqb-true a (way.0).0 here in let below = range m way.0 way.1 in omega (arith, e, below)
  | inr later ↦ nodes_below next count range steps way.0 n way.2 a later
]

-- from a method that a way meets, fewer steps lead to its end
cut : (next : Next) (steps : ℕ) (m n : MethodNo) (way : Way next steps m n) (a : ℕ) → list_any (λ v. a == v) (nodes next steps m n way) ≡ true
    → (fewer : ℕ) × (fewer < steps) × Way next fewer (numbered a) n
unfolding nodes
cut next zero m n way a h = absurd (false≢true h)
cut next (suc steps) m n way a h = elim (or_cases _ _ h) [
  | inl here ↦ (steps, omega arith, subst (λ (b : MethodNo). Way next steps b n) (sym (same_method (numbered a) way.0 here)) way.2)
  | inr later ↦ let rest = cut next steps way.0 n way.2 a later in (rest.0, omega (arith, rest.1), rest.2)
]

none_equal : (n : ℕ) (ns : List ℕ) → list_any (λ v. n == v) ns ≡ false → AllByRecursion (λ v. (n == v) ≡ false) ns
none_equal n [] h = tt
none_equal n (v ∷ ns) h = (grind arith, none_equal n ns (grind arith))

-- a way meets no method twice, or can be shortened; its first step stays
abbrev Shortened : (next : Next) (steps : ℕ) (m n : MethodNo) → Way next steps m n → Type 0
Shortened next steps m n way =
    IsDistinct ◌==◌ (nodes next steps m n way) ⊎ ((fewer : ℕ) × (suc fewer < steps) × Way next (suc fewer) m n)

shorten : (next : Next) (steps : ℕ) (m n : MethodNo) (way : Way next steps m n) → Shortened next steps m n way
unfolding nodes IsDistinct
shorten next zero m n way = inl tt
shorten next (suc steps) m n way = elim (shorten next steps way.0 n way.2) [
  | inr fewer ↦ inr (suc fewer.0, omega (arith, fewer.1), (way.0, way.1, fewer.2))
  | inl distinct ↦ elim (cases_Bool (list_any (λ v. (way.0).0 == v) (nodes next steps way.0 n way.2))) [
    | inl again ↦ let rest = cut next steps way.0 n way.2 (way.0).0 again in inr (rest.0, omega (arith, rest.1), (way.0, way.1, rest.2))
    | inr fresh ↦ inl (IsDistinct-cons ◌==◌ (way.0).0 (nodes next steps way.0 n way.2) (none_equal _ _ fresh) distinct)
  ]
]

-- a way that is as short as it can be has at most as many steps as there are methods
short_enough : (next : Next) (count : ℕ) → ((m n : MethodNo) → LeadsTo next m n → n.0 < count)
    → (steps : ℕ) (m n : MethodNo) (way : Way next (suc steps) m n) → IsDistinct ◌==◌ (nodes next (suc steps) m n way) → steps < count
short_enough next count range steps m n way distinct =
    let few = length-le_from_distinct_below (nodes next (suc steps) m n way) count distinct (nodes_below next count range (suc steps) m n way) in
    let size = nodes_count next (suc steps) m n way in
    omega (arith, few, size)

-- where a way leads, one leads that has at most as many steps as there are methods
shortest : (next : Next) (count : ℕ) → ((m n : MethodNo) → LeadsTo next m n → n.0 < count)
    → (fuel steps : ℕ) (m n : MethodNo) → steps ≤ fuel → Way next (suc steps) m n → ShortWay count next m n
shortest next count range zero steps m n few way = elim (shorten next (suc steps) m n way) [
  | inl distinct ↦ (steps, short_enough next count range steps m n way distinct, way)
  | inr fewer ↦ absurd (omega (arith, few, fewer.1))
]
shortest next count range (suc fuel) steps m n few way = elim (shorten next (suc steps) m n way) [
  | inl distinct ↦ (steps, short_enough next count range steps m n way distinct, way)
  | inr fewer ↦ shortest next count range fuel fewer.0 m n (omega (arith, few, fewer.1)) fewer.2
]

pub cycles_are_ways : CyclesAreWays
unfolding leads_to_itself
cycles_are_ways S range m within = (
  (λ own. let way = reach_way (length S.methods) (leads S) m m own in (way.0, way.2)),
  (λ cycle.
      let short = shortest (leads S) (length S.methods) (λ a b h. leads_below S range a b h) cycle.0 cycle.0 m m (omega arith) cycle.1 in
      way_reach (length S.methods) short.0 (leads S) m m short.1 short.2),
)
