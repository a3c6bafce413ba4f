-- Laws of ranks by rounds.
use Rattle.std.proofs.Common.{◌≡◌, ℕ, suc, ◌+◌, ◌<◌, ◌≤◌, true, max, List, [], ◌∷◌, length, map, replicate, sym, ◌∙◌, ap, subst, arith, fold, ⊎_elim, eqb-true}
use Rattle.std.specs.List.{All}
use Rattle.std.proofs.lemmas.Bool.{or_cases, false≢true}
use Rattle.std.proofs.lemmas.List.{get_or-map, get_or-replicate, length-map, length-replicate}
use Rattle.std.proofs.lemmas.List.Elements.{All-head, All-tail, All-from_get_or}
use Rattle.stx_base.proofs.WayLaws.{map_same, longest_within}
use Rattle.stx_scenario.specs.declared.numbers.MethodNo.{MethodNo}
use Rattle.stx_base.specs.Weight.{above, longest, has_method, MethodsInRange}
use Rattle.stx_graph.specs.inner.Rows.{next_in, row_at, RowsInRange}
use Rattle.stx_graph.specs.inner.Rounds.{rank_at, raised, AreLongest}

max_more : (a r t : ℕ) → max (max a (r + 1)) t ≡ max a (max (r + 1) t)
max_more a r t = omega arith

max_none : (a : ℕ) → a ≡ max a 0
max_none a = omega arith

above_from : (f : MethodNo → ℕ) (a : ℕ) (ms : List MethodNo) → fold (λ rank m. max rank (f m + 1)) a ms ≡ max a (above (map f ms))
above_from f a [] = max_none a
above_from f a (m ∷ ms) = above_from f (max a (f m + 1)) ms ∙ max_more a (f m) (above (map f ms))

-- what a loop finds
pub above_all : (f : MethodNo → ℕ) (ms : List MethodNo) → fold (λ rank m. max rank (f m + 1)) 0 ms ≡ above (map f ms)
above_all f ms = above_from f 0 ms ∙ (omega arith)

-- ---- rounds

pub row_below : (bound : ℕ) (row : List MethodNo) → MethodsInRange bound row → (m : MethodNo) → has_method row m ≡ true → m.0 < bound
row_below bound [] h m has = absurd (false≢true has)
row_below bound (n ∷ row) h m has =
    ⊎_elim
    (λ here. let e = eqb-true n.0 m.0 here in let below = All-head (λ m. m.0 < bound) n row h in omega (arith, e, below))
    (λ later. row_below bound row (All-tail (λ m. m.0 < bound) n row h) m later)
    (or_cases _ _ has)

pub first_round : (rows : List (List MethodNo)) (ranks : List ℕ) → ranks ≡ replicate (length rows) 0 → AreLongest rows 0 ranks
unfolding longest
first_round rows ranks e = record {
  count = ap length e ∙ length-replicate (length rows) 0;
  ways = λ m h. ap (λ ranks. rank_at ranks m) e ∙ get_or-replicate (length rows) m.0 0 0 h;
}

pub round_more :
    (rows : List (List MethodNo)) (steps : ℕ) (ranks next : List ℕ) → RowsInRange (length rows) rows → AreLongest rows steps ranks
    → next ≡ map (raised ranks) rows → AreLongest rows (steps + 1) next
unfolding longest
round_more rows steps ranks next range are e =
    let one_more : steps + 1 ≡ suc steps = omega arith in
    subst (λ steps. AreLongest rows steps next) (sym one_more) (record {
      count = ap length e ∙ length-map rows (raised ranks);
      ways = λ m h.
          ap (λ ranks. rank_at ranks m) e ∙ get_or-map (raised ranks) rows m.0 [] 0 h
          ∙ ap above (map_same (rank_at ranks) (longest (next_in rows) steps) (row_at rows m.0) (λ n has.
          are.ways n (row_below (length rows) (row_at rows m.0) (range m.0 [] h) n has)));
    })

-- after few rounds the ranks are low
pub ranks_low : (rows : List (List MethodNo)) (steps : ℕ) (ranks : List ℕ) → steps ≤ 64 → AreLongest rows steps ranks → All (λ rank. rank ≤ 64) ranks
ranks_low rows steps ranks few are =
    All-from_get_or (λ rank. rank ≤ 64) ranks 0 (λ n h.
    let way = are.ways (record { 0 = n }) (let e = are.count in omega (arith, e, h)) in
    let most = longest_within (next_in rows) steps (record { 0 = n }) in
    omega (arith, way, most, few))
