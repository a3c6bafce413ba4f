-- Laws of ways and of longest ways over any graph: what is above, how longest ways settle, and why they are short where
-- no method leads to itself.
use Rattle.std.proofs.Common.{◌≡◌, ℕ, zero, suc, ◌+◌, ◌<◌, ◌≤◌, true, false, ◌==◌, List, [], ◌∷◌, length, map, refl, sym, ◌∙◌, ap, subst, ⊎_elim, arith, eq-eqb, eqb-true, ◌⊎◌, inl, inr}
use Rattle.std.specs.List.{list_any, AllByRecursion, IsDistinct}
use Rattle.std.proofs.lemmas.Bool.{cases_lt, or_cases, or_left, or_right, false_from_ne_true, false≢true}
use Rattle.std.proofs.lemmas.Map.Keys.{IsDistinct-cons}
use Rattle.std.proofs.lemmas.Map.Steps.{length-le_from_distinct_below}
use Rattle.stx_scenario.specs.declared.numbers.MethodNo.{MethodNo}
use Rattle.stx_base.specs.Weight.{has_method, Next, LeadsTo, Way, HasNoCycle, above, longest, IsLongestWay}

abbrev pub numbered : ℕ → MethodNo
numbered n = record { 0 = n }

-- two methods of one number are one
pub same_method : (m n : MethodNo) → (m.0 == n.0) ≡ true → m ≡ n
same_method m n h = ap numbered (eqb-true m.0 n.0 h)

pub has_itself : (m : MethodNo) (ms : List MethodNo) → has_method (m ∷ ms) m ≡ true
has_itself m ms = or_left _ _ (eq-eqb m.0 m.0 refl)

-- ---- above

pub above_more : (f : MethodNo → ℕ) (ms : List MethodNo) (m : MethodNo) → has_method ms m ≡ true → f m < above (map f ms)
above_more f [] m h = absurd (false≢true h)
above_more f (n ∷ ms) m h =
    ⊎_elim
    (λ here. let e : f n ≡ f m = ap f (same_method n m here) in omega (arith, e))
    (λ later. let less = above_more f ms m later in omega (arith, less))
    (or_cases _ _ h)

pub above_most :
    (f : MethodNo → ℕ) (ms : List MethodNo) (bound : ℕ) → ((m : MethodNo) → has_method ms m ≡ true → f m < bound)
    → above (map f ms) ≤ bound
above_most f [] bound below = omega arith
above_most f (n ∷ ms) bound below =
    let here = below n (has_itself n ms) in
    let rest = above_most f ms bound (λ m h. below m (or_right _ _ h)) in
    omega (arith, here, rest)

pub map_same :
    {X : Type 0} (f g : MethodNo → X) (ms : List MethodNo) → ((m : MethodNo) → has_method ms m ≡ true → f m ≡ g m) → map f ms ≡ map g ms
map_same f g [] same = refl
map_same f g (n ∷ ms) same =
    let here = same n (has_itself n ms) in
    let rest = map_same f g ms (λ m h. same m (or_right _ _ h)) in
    cc

-- ---- longest ways

pub longest_within : (next : Next) (k : ℕ) (m : MethodNo) → longest next k m ≤ k
unfolding longest
longest_within next zero m = omega arith
longest_within next (suc k) m = above_most _ (next m) (suc k) (λ n h. let less = longest_within next k n in omega (arith, less))

pub longest_grows : (next : Next) (k : ℕ) (m : MethodNo) → longest next k m ≤ longest next (suc k) m
unfolding longest
longest_grows next zero m = omega arith
longest_grows next (suc k) m =
    above_most _ (next m) _ (λ n h.
    let more = above_more (longest next (suc k)) (next m) n h in
    let grows = longest_grows next k n in
    omega (arith, more, grows))

-- a longest way that is shorter than it may be stays the longest
pub longest_stays : (next : Next) (k : ℕ) (m : MethodNo) → longest next k m < k → longest next (suc k) m ≡ longest next k m
unfolding longest
longest_stays next zero m short = absurd (omega arith)
longest_stays next (suc k) m short =
    ap above (map_same _ _ (next m) (λ n h.
    longest_stays next k n (let more = above_more (longest next k) (next m) n h in omega (arith, more, short))))

pub longest_settled :
    (next : Next) (extra k j : ℕ) (m : MethodNo) → j ≡ k + extra → longest next k m < k → longest next j m ≡ longest next k m
longest_settled next zero k j m e short = let same : j ≡ k = omega (arith, e) in ap (λ i. longest next i m) same
longest_settled next (suc extra) k j m e short =
    let before = longest_settled next extra k (k + extra) m refl short in
    let one_more : j ≡ suc (k + extra) = omega (arith, e) in
    ap (λ i. longest next i m) one_more ∙ longest_stays next (k + extra) m (omega (arith, before, short)) ∙ before

pub longest_more : (next : Next) (extra k j : ℕ) (m : MethodNo) → j ≡ k + extra → longest next k m ≤ longest next j m
longest_more next zero k j m e = let same : j ≡ k = omega (arith, e) in let eq = ap (λ i. longest next i m) same in omega (arith, eq)
longest_more next (suc extra) k j m e =
    let before = longest_more next extra k (k + extra) m refl in
    let one_more : j ≡ suc (k + extra) = omega (arith, e) in
    let eq = ap (λ i. longest next i m) one_more in
    let grows = longest_grows next (k + extra) m in
    omega (arith, before, eq, grows)

-- ---- ways

pub way_more : (next : Next) (k : ℕ) (a m n : MethodNo) → Way next k a m → LeadsTo next m n → Way next (suc k) a n
way_more next zero a m n way leads = (n, subst (λ b. LeadsTo next b n) (sym way) leads, refl)
way_more next (suc k) a m n way leads = (way.0, way.1, way_more next k way.0 m n way.2 leads)

abbrev pub Leads : Next → MethodNo → MethodNo → Type 0
Leads next a m = (steps : ℕ) × Way next (suc steps) a m

pub leads_once : (next : Next) (a m : MethodNo) → LeadsTo next a m → Leads next a m
leads_once next a m leads = (0, (m, leads, refl))

pub leads_more : (next : Next) (a m n : MethodNo) → Leads next a m → LeadsTo next m n → Leads next a n
leads_more next a m n way leads = (suc way.0, way_more next (suc way.0) a m n way.1 leads)

-- ---- where no method leads to itself

-- methods below a number lead only to methods below it, and none of them leads to itself
pub record IsAcyclic (next : Next) (count : ℕ) : Type 0 where
  pub range : (m n : MethodNo) → m.0 < count → LeadsTo next m n → n.0 < count
  pub acyclic : HasNoCycle next count

-- different methods that all lead to m
record Visited (next : Next) (count : ℕ) (visited : List ℕ) (m : MethodNo) : Type 0 where
  distinct : IsDistinct ◌==◌ visited
  within : (n : ℕ) → list_any (λ v. n == v) visited ≡ true → n < count
  lead : (n : ℕ) → list_any (λ v. n == v) visited ≡ true → Leads next (numbered n) m

none_equal : (n : ℕ) (ns : List ℕ) → list_any (λ v. n == v) ns ≡ false → AllByRecursion (λ v. (n == v) ≡ false) ns
none_equal n [] h = tt
none_equal n (v ∷ ns) h = (grind arith, none_equal n ns (grind arith))

-- m isn't among those that lead to it, so it may be added
visit :
    (next : Next) (count : ℕ) (visited : List ℕ) (m : MethodNo) → IsAcyclic next count → Visited next count visited m → m.0 < count
    → IsDistinct ◌==◌ (m.0 ∷ visited)
visit next count visited m graph v below =
    IsDistinct-cons ◌==◌ m.0 visited
    (none_equal m.0 visited (false_from_ne_true _ (λ h. graph.acyclic m below (v.lead m.0 h))))
    v.distinct

visit_below :
    (next : Next) (count : ℕ) (visited : List ℕ) (m : MethodNo) → Visited next count visited m → m.0 < count
    → (n : ℕ) → list_any (λ v. n == v) (m.0 ∷ visited) ≡ true → n < count
visit_below next count visited m v below n h =
    ⊎_elim (λ here. let e = eqb-true n m.0 here in omega (arith, e, below)) (λ later. v.within n later) (or_cases _ _ h)

visit_next :
    (next : Next) (count : ℕ) (visited : List ℕ) (m n : MethodNo) → IsAcyclic next count → Visited next count visited m → m.0 < count
    → LeadsTo next m n → Visited next count (m.0 ∷ visited) n
visit_next next count visited m n graph v below leads = record {
  distinct = visit next count visited m graph v below;
  within = visit_below next count visited m v below;
  lead = λ a h.
      ⊎_elim
      (λ here. subst (λ b. Leads next (numbered b) n) (sym (eqb-true a m.0 here)) (leads_once next m n leads))
      (λ later. leads_more next (numbered a) m n (v.lead a later) leads)
      (or_cases _ _ h);
}

shallow_from :
    (next : Next) (count k : ℕ) (visited : List ℕ) (m : MethodNo) → IsAcyclic next count → Visited next count visited m → m.0 < count
    → length visited + k ≡ count → longest next k m < k
unfolding longest
shallow_from next count zero visited m graph v below e =
    let few = length-le_from_distinct_below (m.0 ∷ visited) count (visit next count visited m graph v below) (visit_below next count visited m v below) in
    absurd (omega (arith, few, e))
shallow_from next count (suc k) visited m graph v below e =
    let most = above_most (longest next k) (next m) k (λ n leads.
    shallow_from next count k (m.0 ∷ visited) n graph (visit_next next count visited m n graph v below leads)
    (graph.range m n below leads) (omega (arith, e))) in
    omega (arith, most)

-- where no method leads to itself, a way has fewer steps than there are methods
pub shallow : (next : Next) (count : ℕ) (m : MethodNo) → IsAcyclic next count → m.0 < count → longest next count m < count
unfolding IsDistinct
shallow next count m graph below =
    shallow_from next count count [] m graph
    (record { distinct = tt; within = λ n h. absurd (false≢true h); lead = λ n h. absurd (false≢true h) })
    below (omega arith)

-- more steps than there are methods make no way longer
pub longest_all :
    (next : Next) (count : ℕ) (m : MethodNo) → IsAcyclic next count → m.0 < count
    → longest next count m ≡ above (map (longest next count) (next m))
unfolding longest
longest_all next count m graph below = sym (longest_stays next count m (shallow next count m graph below))

-- ---- the longest way is one, and none is longer

above_at : (f : MethodNo → ℕ) (ms : List MethodNo)
    → (above (map f ms) ≡ 0) ⊎ ((n : MethodNo) × (has_method ms n ≡ true) × (above (map f ms) ≡ suc (f n)))
above_at f [] = inl refl
above_at f (n ∷ ms) = elim (cases_lt (f n + 1) (above (map f ms))) [
  | inl less ↦ elim (above_at f ms) [
    | inl none ↦ absurd (omega (arith, less, none))
    | inr at ↦ inr (at.0, or_right _ _ at.1, omega (arith, less, at.2))
  ]
  | inr most ↦ inr (n, has_itself n ms, omega (arith, most))
]

pub way_of_longest : (next : Next) (k : ℕ) (m : MethodNo) → (n : MethodNo) × Way next (longest next k m) m n
unfolding longest
way_of_longest next zero m = (m, refl)
way_of_longest next (suc k) m = elim (above_at (longest next k) (next m)) [
  | inl none ↦ (m, subst (λ steps. Way next steps m m) (sym none) refl)
  | inr at ↦
      let rest = way_of_longest next k at.0 in
      (rest.0, subst (λ steps. Way next steps m rest.0) (sym at.2) (at.0, at.1, rest.1))
]

way_within : (next : Next) (steps k : ℕ) (m n : MethodNo) → steps ≤ k → Way next steps m n → steps ≤ longest next k m
unfolding longest
way_within next zero k m n few way = omega arith
way_within next (suc steps) zero m n few way = absurd (omega arith)
way_within next (suc steps) (suc k) m n few way =
    let rest = way_within next steps k way.0 n (omega arith) way.2 in
    let more = above_more (longest next k) (next m) way.0 way.1 in
    omega (arith, rest, more)

pub longest_way : (next : Next) (count : ℕ) (m : MethodNo) → IsAcyclic next count → m.0 < count → IsLongestWay next m (longest next count m)
longest_way next count m graph below = record {
  is_way = way_of_longest next count m;
  none_longer = λ steps n way.
      let settled = longest_settled next steps count (count + steps) m refl (shallow next count m graph below) in
      let within = way_within next steps (count + steps) m n (omega arith) way in
      omega (arith, settled, within);
}
