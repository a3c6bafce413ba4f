-- Laws of the whole: what the rows, the rounds and the search tell of the scenario itself.
use Rattle.std.proofs.Common.{◌≡◌, ℕ, zero, suc, ◌+◌, ◌-◌, ◌<◌, ◌≤◌, false, List, [], ◌∷◌, length, map, min, refl, sym, ◌∙◌, ap, subst, arith, ⊎_elim, ◌⊎◌, inl, inr}
use Rattle.std.specs.List.{All, flat_map, range_with_len, sum}
use Rattle.std.proofs.lemmas.Bool.{cases_lt, false≢true}
use Rattle.std.proofs.lemmas.List.Elements.{All-head, All-tail}
use Rattle.std.proofs.lemmas.List.FromFn.{fill_by_all}
use Rattle.std.proofs.lemmas.Option.{slice_get_past}
use Rattle.std.proofs.Math.ListN.{get_or-eq_default}
use Rattle.stx_scenario.specs.declared.numbers.MethodNo.{MethodNo}
use Rattle.stx_scenario.specs.declared.scenario.Scenario.{Scenario}
use Rattle.stx_base.specs.declared.cost.Cost.{Cost}
use Rattle.stx_base.specs.Weight.{body_in, led, leads, has_method, Next, LeadsTo, Way, IsOnCycle, above, longest, rank, cost, cost_within, total, client_weight, weight_of, weight, MethodsInRange, InRange}
use Rattle.stx_base.proofs.WayLaws.{above_more, above_most, map_same, longest_settled, longest_more, shallow, IsAcyclic}
use Rattle.stx_base.proofs.WeightLaws.{acyclic_from, cost_settled}
use Rattle.stx_base.specs.Weight.{HasNoCycle}
use Rattle.stx_graph.specs.inner.Rows.{next_in, Same, MethodRows}
use Rattle.stx_graph.specs.Ranks.{IsFirst}
use Rattle.stx_graph.specs.inner.Rounds.{rank_at, AreLongest}
use Rattle.stx_graph.specs.inner.Cycles.{AreReached}
use Rattle.stx_graph.specs.inner.Costs.{cap}
use Rattle.stx_graph.specs.Graph.{LeadsToItself, IsTooDeep, NoCycle, NoneTooDeep, IsDue}
use Rattle.stx_graph.specs.inner.Cycles.{IsDepthFault}
use Rattle.stx_graph.specs.declared.graph.GraphFault.{GraphFault}
use Rattle.stx_graph.proofs.RankLaws.{row_below}

abbrev numbered : ℕ → MethodNo
numbered n = record { 0 = n }

-- ---- the search over all methods

pub none_more :
    (next : Next) (n : ℕ) (order : List MethodNo) → HasNoCycle next n → AreReached next (record { 0 = n }) order
    → has_method order (record { 0 = n }) ≡ false → HasNoCycle next (n + 1)
none_more next n order none reached missing m below cycle =
    ⊎_elim
    (λ less. none m less cycle)
    (λ more.
    let here : m.0 ≡ n = omega arith in
    let at_n = subst (λ (k : ℕ). IsOnCycle next (numbered k)) here cycle in
    false≢true (sym missing ∙ reached.whole (numbered n) at_n.0 at_n.1))
    (cases_lt m.0 n)

-- ---- two graphs with the same methods led to

abbrev Alike : Next → Next → Type 0
Alike f g = (m : MethodNo) → Same (f m) (g m)

alike_back : (f g : Next) → Alike f g → Alike g f
alike_back f g alike m = record { tells = λ n. sym ((alike m).tells n) }

above_within : (h : MethodNo → ℕ) (ms ns : List MethodNo) → Same ms ns → above (map h ms) ≤ above (map h ns)
above_within h ms ns same = above_most h ms (above (map h ns)) (λ m has. above_more h ns m (sym (same.tells m) ∙ has))

above_alike : (h : MethodNo → ℕ) (ms ns : List MethodNo) → Same ms ns → above (map h ms) ≡ above (map h ns)
above_alike h ms ns same =
    let there = above_within h ms ns same in
    let back = above_within h ns ms (record { tells = λ m. sym (same.tells m) }) in
    omega (arith, there, back)

longest_alike : (f g : Next) → Alike f g → (k : ℕ) (m : MethodNo) → longest f k m ≡ longest g k m
unfolding longest
longest_alike f g alike zero m = refl
longest_alike f g alike (suc k) m =
    ap above (map_same (longest f k) (longest g k) (f m) (λ n has. longest_alike f g alike k n)) ∙ above_alike (longest g k) (f m) (g m) (alike m)

way_alike : (f g : Next) → Alike f g → (k : ℕ) (m n : MethodNo) → Way f k m n → Way g k m n
way_alike f g alike zero m n way = way
way_alike f g alike (suc k) m n way = (way.0, sym ((alike m).tells way.0) ∙ way.1, way_alike f g alike k way.0 n way.2)

cycle_alike : (f g : Next) → Alike f g → (m : MethodNo) → IsOnCycle f m → IsOnCycle g m
cycle_alike f g alike m cycle = (cycle.0, way_alike f g alike (suc cycle.0) m m cycle.1)

-- ---- the rows are the scenario's graph

past_rows : (rows : List (List MethodNo)) (m : MethodNo) → length rows ≤ m.0 → next_in rows m ≡ []
past_rows rows m h = get_or-eq_default rows [] h

past_leads : (S : Scenario) (m : MethodNo) → length S.methods ≤ m.0 → leads S m ≡ []
unfolding leads
past_leads S m h = ap (λ o. flat_map (led S) (body_in o)) (slice_get_past S.methods m.0 h)

pub rows_alike : (S : Scenario) (rows : List (List MethodNo)) → MethodRows S rows → Alike (next_in rows) (leads S)
rows_alike S rows are m = step (cases_lt m.0 (length S.methods))
  where
    step : (m.0 < length S.methods) ⊎ (length S.methods ≤ m.0) → Same (next_in rows m) (leads S m)
    step (inl within) = are.same m.0 within
    step (inr past) = record {
      tells = λ n.
          ap (λ ms. has_method ms n) (past_rows rows m (let e = are.whole in omega (arith, e, past)))
          ∙ sym (ap (λ ms. has_method ms n) (past_leads S m past));
    }

-- a method that leads anywhere is there
leads_within : (S : Scenario) (m n : MethodNo) → LeadsTo (leads S) m n → m.0 < length S.methods
leads_within S m n h =
    ⊎_elim (λ within. within) (λ past. absurd (false≢true (ap (λ ms. has_method ms n) (sym (past_leads S m past)) ∙ h))) (cases_lt m.0 (length S.methods))

-- ---- cycles make ways of any length

endless : (next : Next) (m : MethodNo) → IsOnCycle next m → (k j : ℕ) (a : MethodNo) → Way next j a m → k ≤ longest next k a
unfolding longest
endless next m cycle zero j a way = omega arith
endless next m cycle (suc k) zero a way =
    let round = subst (λ b. Way next (suc cycle.0) b m) (sym way) cycle.1 in
    let far = endless next m cycle k cycle.0 round.0 round.2 in
    let more = above_more (longest next k) (next a) round.0 round.1 in
    omega (arith, far, more)
endless next m cycle (suc k) (suc j) a way =
    let far = endless next m cycle k j way.0 way.2 in
    let more = above_more (longest next k) (next a) way.0 way.1 in
    omega (arith, far, more)

-- ---- ranks

-- where the rounds stay below 65, no method leads to itself
abbrev pub Short : Scenario → Type 0
Short S = (m : MethodNo) → m.0 < length S.methods → longest (leads S) 65 m < 65

pub short_acyclic : (S : Scenario) → InRange S → Short S → IsAcyclic (leads S) (length S.methods)
short_acyclic S range short =
    acyclic_from S range (λ m below cycle.
    let far = endless (leads S) m cycle 65 0 m refl in
    let less = short m below in
    omega (arith, far, less))

pub rank_least : (S : Scenario) → IsAcyclic (leads S) (length S.methods) → (m : MethodNo) → m.0 < length S.methods → longest (leads S) 65 m ≤ rank S m
rank_least S graph m below =
    ⊎_elim
    (λ few.
    let e = longest_settled (leads S) (65 - length S.methods) (length S.methods) 65 m (omega arith) (shallow (leads S) (length S.methods) m graph below) in
    omega (arith, e))
    (λ many. longest_more (leads S) (length S.methods - 65) 65 (length S.methods) m (omega arith))
    (cases_lt (length S.methods) 65)

pub rank_short :
    (S : Scenario) → IsAcyclic (leads S) (length S.methods) → (m : MethodNo) → m.0 < length S.methods → longest (leads S) 65 m < 65
    → rank S m ≡ longest (leads S) 65 m
rank_short S graph m below short =
    ⊎_elim
    (λ few. sym (longest_settled (leads S) (65 - length S.methods) (length S.methods) 65 m (omega arith) (shallow (leads S) (length S.methods) m graph below)))
    (λ many. longest_settled (leads S) (length S.methods - 65) 65 (length S.methods) m (omega arith) short)
    (cases_lt (length S.methods) 65)

pub cost_short :
    (S : Scenario) → IsAcyclic (leads S) (length S.methods) → (m : MethodNo) → m.0 < length S.methods → longest (leads S) 65 m < 65
    → cost_within S 65 m ≡ cost S m
cost_short S graph m below short =
    ⊎_elim
    (λ few. cost_settled S (65 - length S.methods) (length S.methods) 65 m (omega arith) (shallow (leads S) (length S.methods) m graph below))
    (λ many. sym (cost_settled S (length S.methods - 65) 65 (length S.methods) m (omega arith) short))
    (cases_lt (length S.methods) 65)

-- what the rounds found is the scenario's
pub found_longest :
    (S : Scenario) (rows : List (List MethodNo)) (ranks : List ℕ) → MethodRows S rows → AreLongest rows 65 ranks → (m : MethodNo)
    → m.0 < length S.methods → rank_at ranks m ≡ longest (leads S) 65 m
found_longest S rows ranks are found m below =
    found.ways m (let e = are.whole in omega (arith, e, below)) ∙ longest_alike (next_in rows) (leads S) (rows_alike S rows are) 65 m

count_is : (S : Scenario) (rows : List (List MethodNo)) (ranks : List ℕ) → MethodRows S rows → AreLongest rows 65 ranks → length ranks ≡ length S.methods
count_is S rows ranks are found = found.count ∙ are.whole

pub short_from :
    (S : Scenario) (rows : List (List MethodNo)) (ranks : List ℕ) → MethodRows S rows → AreLongest rows 65 ranks → All (λ rank. rank ≤ 64) ranks → Short S
short_from S rows ranks are found low m below =
    let e = found_longest S rows ranks are found m below in
    let least = low m.0 0 (let count = count_is S rows ranks are found in omega (arith, count, below)) in
    omega (arith, e, least)

-- ---- weight

clients_same :
    (count : ℕ) (f g : MethodNo → Cost) → ((m : MethodNo) → m.0 < count → f m ≡ g m) → (clients : List (List MethodNo))
    → All (MethodsInRange count) clients → map (client_weight f) clients ≡ map (client_weight g) clients
clients_same count f g same [] h = refl
clients_same count f g same (calls ∷ clients) h =
    let here = ap (λ costs. weight_of (total costs)) (map_same f g calls (λ m has. same m (row_below count calls (All-head (MethodsInRange count) calls clients h) m has))) in
    let rest = clients_same count f g same clients (All-tail (MethodsInRange count) calls clients h) in
    cc

weight_short :
    (S : Scenario) → InRange S → Short S → sum (map (client_weight (cost_within S 65)) S.clients) ≡ weight S
weight_short S range short =
    ap sum
    (clients_same (length S.methods) (cost_within S 65) (cost S)
    (λ m below. cost_short S (short_acyclic S range short) m below (short m below))
    S.clients range.clients)

-- each way is shorter than this
abbrev pub Within : Scenario → ℕ → Type 0
Within S levels = (m : MethodNo) → m.0 < length S.methods → longest (leads S) 65 m < levels

pub within_from :
    (S : Scenario) (rows : List (List MethodNo)) (ranks : List ℕ) (levels : ℕ) → MethodRows S rows → AreLongest rows 65 ranks
    → All (λ rank. rank < levels) ranks → Within S levels
within_from S rows ranks levels are found low m below =
    let e = found_longest S rows ranks are found m below in
    let less = low m.0 0 (let count = count_is S rows ranks are found in omega (arith, count, below)) in
    omega (arith, e, less)

-- as many levels as there are tell what the methods cost
weight_within :
    (S : Scenario) (levels : ℕ) → InRange S → levels ≤ 65 → Within S levels
    → sum (map (client_weight (cost_within S levels)) S.clients) ≡ sum (map (client_weight (cost_within S 65)) S.clients)
weight_within S levels range few within =
    ap sum
    (clients_same (length S.methods) (cost_within S levels) (cost_within S 65)
    (λ m below.
    let least = longest_more (leads S) (65 - levels) levels 65 m (omega (arith, few)) in
    let less = within m below in
    sym (cost_settled S (65 - levels) levels 65 m (omega (arith, few)) (omega (arith, least, less))))
    S.clients range.clients)

pub weight_of_levels :
    (S : Scenario) (levels : ℕ) → InRange S → levels ≤ 65 → Within S levels
    → sum (map (client_weight (cost_within S levels)) S.clients) ≡ weight S
weight_of_levels S levels range few within =
    weight_within S levels range few within ∙ weight_short S range (λ m below. let less = within m below in omega (arith, few, less))

-- ---- what comes of it

pub no_cycle : (S : Scenario) → IsAcyclic (leads S) (length S.methods) → NoCycle S
no_cycle S graph m cycle = graph.acyclic m cycle.method cycle.cycle

pub none_too_deep : (S : Scenario) → InRange S → Short S → NoneTooDeep S
none_too_deep S range short m deep =
    let e = rank_short S (short_acyclic S range short) m deep.method (short m deep.method) in
    let less = short m deep.method in
    let more = deep.deep in
    omega (arith, e, less, more)

pub ranks_are :
    (S : Scenario) (rows : List (List MethodNo)) (ranks : List ℕ) → InRange S → MethodRows S rows → AreLongest rows 65 ranks → Short S
    → ranks ≡ map (λ n. rank S (record { 0 = n })) (range_with_len 0 (length S.methods))
ranks_are S rows ranks range are found short =
    fill_by_all (λ n. rank S (numbered n)) ranks (length S.methods) 0 (count_is S rows ranks are found)
    (λ n below. found_longest S rows ranks are found (numbered n) below ∙ sym (rank_short S (short_acyclic S range short) (numbered n) below (short (numbered n) below)))

-- a cycle's first method
pub first_cycle :
    (S : Scenario) (rows : List (List MethodNo)) (m : MethodNo) → MethodRows S rows → IsFirst (IsOnCycle (next_in rows)) m → IsFirst (LeadsToItself S) m
first_cycle S rows m are first =
    let alike = rows_alike S rows are in
    let cycle = cycle_alike (next_in rows) (leads S) alike m first.here in
    record {
      here = record { method = leads_within S m cycle.1.0 cycle.1.1; cycle = cycle };
      first = λ n less itself. first.first n less (cycle_alike (leads S) (next_in rows) (alike_back (next_in rows) (leads S) alike) n itself.cycle);
    }

pub none_acyclic :
    (S : Scenario) (rows : List (List MethodNo)) → InRange S → MethodRows S rows → HasNoCycle (next_in rows) (length rows)
    → IsAcyclic (leads S) (length S.methods)
none_acyclic S rows range are none =
    acyclic_from S range (λ m below cycle.
    none m (let e = are.whole in omega (arith, e, below))
    (cycle_alike (leads S) (next_in rows) (alike_back (next_in rows) (leads S) (rows_alike S rows are)) m cycle))

-- the first method that is too deep, where no method leads to itself
pub first_deep :
    (S : Scenario) (rows : List (List MethodNo)) (ranks : List ℕ) (m : MethodNo) → MethodRows S rows → AreLongest rows 65 ranks
    → IsAcyclic (leads S) (length S.methods) → IsFirst (λ m. 64 < rank_at ranks m) m → IsFirst (IsTooDeep S) m
first_deep S rows ranks m are found graph first = record {
  here = record { method = within; deep = deep };
  first = λ n less too_deep.
      let low = not_over n less in
      let e = found_longest S rows ranks are found n too_deep.method in
      let eq = rank_short S graph n too_deep.method (omega (arith, e, low)) in
      let more = too_deep.deep in
      omega (arith, e, low, eq, more);
}
  where
    over : 64 < rank_at ranks m
    over = first.here

    within : m.0 < length S.methods
    within =
        ⊎_elim (λ h. h)
        (λ past.
        let none = get_or-eq_default ranks 0 {n = m.0} (let e = count_is S rows ranks are found in omega (arith, e, past)) in
        let more = over in
        absurd (omega (arith, none, more)))
        (cases_lt m.0 (length S.methods))

    deep : 64 < rank S m
    deep =
        let least = rank_least S graph m within in
        let e = found_longest S rows ranks are found m within in
        let more = over in
        omega (arith, least, e, more)

    not_over : (n : MethodNo) → n.0 < m.0 → rank_at ranks n ≤ 64
    not_over n less = ⊎_elim (λ h. absurd (first.first n less h)) (λ h. h) (cases_lt 64 (rank_at ranks n))

pub due :
    (S : Scenario) (rows : List (List MethodNo)) (ranks : List ℕ) (m : MethodNo) (fault : GraphFault) → InRange S → MethodRows S rows
    → AreLongest rows 65 ranks → IsFirst (λ m. 64 < rank_at ranks m) m → IsDepthFault (next_in rows) (length rows) m fault → IsDue S fault
due S rows ranks m (GraphFault.CallCycle n) range are found first fault = first_cycle S rows n are fault
due S rows ranks m (GraphFault.TooDeep n) range are found first fault =
    let graph = none_acyclic S rows range are fault.0 in
    let here = first_deep S rows ranks m are found graph first in
    (no_cycle S graph, subst (λ n. IsFirst (IsTooDeep S) n) (sym fault.1) here)
due S rows ranks m GraphFault.TooLarge range are found first fault = absurd fault
due S rows ranks m (GraphFault.NoMemory _) range are found first fault = tt

-- the weight, stopped at the cap
pub light :
    (S : Scenario) (w levels : ℕ) → InRange S → levels ≤ 65 → Within S levels
    → w ≡ min (sum (map (client_weight (cost_within S levels)) S.clients)) cap → w ≤ 200000 → w ≡ weight S
light S w levels range few within e low = let same = weight_of_levels S levels range few within in omega (arith, e, low, same)

pub heavy :
    (S : Scenario) (w levels : ℕ) → InRange S → levels ≤ 65 → Within S levels
    → w ≡ min (sum (map (client_weight (cost_within S levels)) S.clients)) cap → 200000 < w → 200000 < weight S
heavy S w levels range few within e high = let same = weight_of_levels S levels range few within in omega (arith, e, high, same)
