use Rattle.std.proofs.Common.{◌∙◌}
use Rattle.stx_graph.specs.inner.Rounds.{rank_at}
use Rattle.stx_graph.proofs.CostLaws.{all_turns}
use Rattle.stx_graph.proofs.RankLaws.{above_all}
use Rattle.stx_graph.proofs.ranks.rank_above.Goals as goal

pub returns : goal.returns
returns c =
    c.loop-method.invariant ∙ all_turns _ _ _ _ c.loop-method-test.false ∙ above_all (rank_at c.args.ranks.now) c.args.row.now
