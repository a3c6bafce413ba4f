use Rattle.std.proofs.Common.{ℕ, ◌<◌, ◌≤◌, List, All, map, length, ap, ◌∙◌, subst, arith}
use Rattle.std.specs.List.{range_with_len}
use Rattle.stx_base.specs.Weight.{rank}
use Rattle.stx_graph.specs.Ranks.{IsFirst}
use Rattle.stx_graph.specs.inner.Rounds.{rank_at}
use Rattle.stx_graph.specs.Graph.{Weighed}
use Rattle.stx_base.proofs.WeightLaws.{rank_is, cost_is}
use Rattle.stx_graph.proofs.GraphLaws.{due, short_from, within_from, short_acyclic, no_cycle, none_too_deep, ranks_are, light, heavy}
use Rattle.stx_graph.proofs.graph.Graph.of.Goals as goal

pub returns-in-Some-clause-refused : goal.returns-in-Some-clause-refused
returns-in-Some-clause-refused c =
    due c.args.scenario.now c.in_ok-rows.rows c.in_ok-ranks.ranks c.in-Some.method c.fault_of_depth.result c.requires c.in_ok-rows.ensures
    c.in_ok-ranks.ensures
    (subst (λ (ranks : List ℕ). IsFirst (λ m. 64 < rank_at ranks m) c.in-Some.method) c.as_slice.ensures c.in-Some.ensures)
    c.fault_of_depth.ensures

pub returns-then-weight-gt-GREATEST_WEIGHT-clause-refused : goal.returns-then-weight-gt-GREATEST_WEIGHT-clause-refused
returns-then-weight-gt-GREATEST_WEIGHT-clause-refused c =
    let S = c.args.scenario.now in
    let low = subst (λ (ranks : List ℕ). All (λ rank. rank ≤ 64) ranks) c.as_slice.ensures c.in_default.ensures in
    let short = short_from S c.in_ok-rows.rows c.in_ok-ranks.ranks c.in_ok-rows.ensures c.in_ok-ranks.ensures low in
    let within = within_from S c.in_ok-rows.rows c.in_ok-ranks.ranks c.levels-levels.result c.in_ok-rows.ensures c.in_ok-ranks.ensures
    (subst (λ (ranks : List ℕ). All (λ rank. rank < c.levels-levels.result) ranks) c.as_slice-2.ensures c.levels-levels.ensures.above) in (
      no_cycle S (short_acyclic S c.requires short),
      none_too_deep S c.requires short,
      heavy S c.in_ok-weight.weight c.levels-levels.result c.requires c.levels-levels.ensures.few within c.in_ok-weight.ensures c.if-weight-gt-GREATEST_WEIGHT.true,
    )

pub returns-clause-graph : goal.returns-clause-graph
returns-clause-graph c =
    let S = c.args.scenario.now in
    let low = subst (λ (ranks : List ℕ). All (λ rank. rank ≤ 64) ranks) c.as_slice.ensures c.in_default.ensures in
    let short = short_from S c.in_ok-rows.rows c.in_ok-ranks.ranks c.in_ok-rows.ensures c.in_ok-ranks.ensures low in
    let ranks = ranks_are S c.in_ok-rows.rows c.in_ok-ranks.ranks c.requires c.in_ok-rows.ensures c.in_ok-ranks.ensures short in
    let within = within_from S c.in_ok-rows.rows c.in_ok-ranks.ranks c.levels-levels.result c.in_ok-rows.ensures c.in_ok-ranks.ensures
    (subst (λ (ranks : List ℕ). All (λ rank. rank < c.levels-levels.result) ranks) c.as_slice-2.ensures c.levels-levels.ensures.above) in
    let weight = light S c.in_ok-weight.weight c.levels-levels.result c.requires c.levels-levels.ensures.few within c.in_ok-weight.ensures c.if-weight-gt-GREATEST_WEIGHT.false in
    let made : List ℕ → ℕ → Weighed = λ ranks weight. record { ranks = ranks; weight = weight } in
    ap (λ ranks. made ranks c.in_ok-weight.weight) ranks
    ∙ ap (made (map (λ n. rank S (record { 0 = n })) (range_with_len 0 (length S.methods)))) weight

pub returns-clause-accepted : goal.returns-clause-accepted
returns-clause-accepted c =
    let S = c.args.scenario.now in
    let low = subst (λ (ranks : List ℕ). All (λ rank. rank ≤ 64) ranks) c.as_slice.ensures c.in_default.ensures in
    let short = short_from S c.in_ok-rows.rows c.in_ok-ranks.ranks c.in_ok-rows.ensures c.in_ok-ranks.ensures low in
    let within = within_from S c.in_ok-rows.rows c.in_ok-ranks.ranks c.levels-levels.result c.in_ok-rows.ensures c.in_ok-ranks.ensures
    (subst (λ (ranks : List ℕ). All (λ rank. rank < c.levels-levels.result) ranks) c.as_slice-2.ensures c.levels-levels.ensures.above) in
    let weight = light S c.in_ok-weight.weight c.levels-levels.result c.requires c.levels-levels.ensures.few within c.in_ok-weight.ensures c.if-weight-gt-GREATEST_WEIGHT.false in
    record {
      no_cycle = no_cycle S (short_acyclic S c.requires short);
      none_too_deep = none_too_deep S c.requires short;
      ranks = λ m below. rank_is S m (short_acyclic S c.requires short) below;
      costs = λ m below. cost_is S m (short_acyclic S c.requires short) below;
      light = let few = c.if-weight-gt-GREATEST_WEIGHT.false in omega (arith, few, weight);
    }
