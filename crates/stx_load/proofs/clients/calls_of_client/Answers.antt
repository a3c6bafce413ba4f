-- One call more, after one draw more.
use Rattle.std.proofs.Common.{◌∙◌, ap}
use Rattle.stx_load.specs.Draws.{after, draw}
use Rattle.stx_load.specs.Generated.{method_no}
use Rattle.stx_load.proofs.DrawLaws.{after_none, next_one, one_more}
use Rattle.stx_load.proofs.clients.calls_of_client.Goals as goal

pub loop-call-init : goal.loop-call-init
loop-call-init c = (c.new-calls.ensures, after_none c.args.draws.now.state)

pub loop-call-preserved : goal.loop-call-preserved
loop-call-preserved c =
    one_more (λ k. method_no (draw (after c.args.draws.now.state k) 64)) c.args.draws.now.state (λ n. n) c.loop-call._call c.loop-call.invariant c.in_ok-push.ensures.ok
    (λ at. ap method_no (c.draw.ensures.number ∙ ap (λ s. draw s 64) at)) (λ at. c.draw.ensures.state ∙ next_one _ _ c.loop-call._call at)
