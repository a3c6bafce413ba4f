use Rattle.std.proofs.Common.{sym, subst}
use Rattle.stx_model.specs.Playable.{IsPlayable}
use Rattle.stx_tool.proofs.PlayableLaws.{playable}
use Rattle.springtx_run.proofs.answer.ran.Goals as goal

pub new-requires-clause-tree : goal.new-requires-clause-tree
new-requires-clause-tree g c = (playable c.args.scenario c.requires).order.tree

pub run-requires-after_bounds : goal.run-requires-after_bounds
run-requires-after_bounds g c = λ _ _. subst IsPlayable (sym c.in_ok-setup.ensures) (playable c.args.scenario c.requires)
