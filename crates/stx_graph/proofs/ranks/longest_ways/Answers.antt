use Rattle.std.proofs.Common.{◌≤◌, List, ℕ, All, arith, ap, sym, ◌∙◌, map, replicate, subst}
use Rattle.stx_graph.specs.inner.Rounds.{raised}
use Rattle.stx_graph.proofs.RankLaws.{first_round, round_more, ranks_low}
use Rattle.stx_graph.proofs.ranks.longest_ways.Goals as goal

pub loop-round-init : goal.loop-round-init
loop-round-init c =
    first_round c.args.rows.now c.in_ok-ranks.ranks.items
    (c.in_ok-ranks.ensures.items_if_clones_equal (λ _ e. e) ∙ ap (λ n. replicate n 0) c.len.ensures)

pub next_round-requires-clause-low : goal.next_round-requires-clause-low
next_round-requires-clause-low c =
    let low = ranks_low c.args.rows.now c.loop-round._round c.loop-round.ranks.items (omega arith) c.loop-round.invariant in
    subst (λ (ranks : List ℕ). All (λ rank. rank ≤ 64) ranks) (sym c.deref.ensures.value) low

pub loop-round-preserved : goal.loop-round-preserved
loop-round-preserved c =
    round_more c.args.rows.now c.loop-round._round c.loop-round.ranks.items c.in_ok-ranks-2.ranks.items c.requires c.loop-round.invariant
    (c.in_ok-ranks-2.ensures ∙ ap (λ ranks. map (raised ranks) c.args.rows.now) c.deref.ensures.value)
