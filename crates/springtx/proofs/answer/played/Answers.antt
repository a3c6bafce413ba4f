use Rattle.std.proofs.Common.{sym, subst}
use Rattle.stx_model.specs.Playable.{IsPlayable}
use Rattle.stx_tool.proofs.PlayableLaws.{playable}
use Rattle.springtx.proofs.ValidLaws.{in_order, turns_named}
use Rattle.springtx.proofs.answer.played.Goals as goal

pub new-requires-clause-tree : goal.new-requires-clause-tree
new-requires-clause-tree c = (in_order c.args.scenario c.requires).tree

pub play-requires-clause-playable : goal.play-requires-clause-playable
play-requires-clause-playable c = subst IsPlayable (sym c.in_ok-setup.ensures) (playable c.args.scenario c.requires)

pub play-requires-clause-schedule : goal.play-requires-clause-schedule
play-requires-clause-schedule c =
    turns_named c.args.scenario c.in_ok-setup.setup.scenario c.as_slice.result.now c.as_slice.ensures (sym c.in_ok-setup.ensures)
    (in_order c.args.scenario c.requires)
