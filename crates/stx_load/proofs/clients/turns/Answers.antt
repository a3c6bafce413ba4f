-- One turn more, after one draw more.
use Rattle.std.proofs.Common.{◌∙◌, ap}
use Rattle.stx_load.specs.Draws.{after, draw}
use Rattle.stx_load.proofs.DrawLaws.{after_none, next_one, one_more}
use Rattle.stx_load.proofs.clients.turns.Goals as goal

pub loop-turn-init : goal.loop-turn-init
loop-turn-init c = (c.new-turns.ensures, after_none c.args.draws.now.state)

pub loop-turn-preserved : goal.loop-turn-preserved
loop-turn-preserved c =
    one_more (λ k. draw (after c.args.draws.now.state k) c.args.clients) c.args.draws.now.state (λ n. n) c.loop-turn._turn c.loop-turn.invariant c.in_ok-push.ensures.ok
    (λ at. c.draw.ensures.number ∙ ap (λ s. draw s c.args.clients) at) (λ at. c.draw.ensures.state ∙ next_one _ _ c.loop-turn._turn at)
