-- One client more, after eight draws more.
use Rattle.std.proofs.Common.{◌*◌, ◌∙◌, ap}
use Rattle.stx_load.specs.Draws.{after}
use Rattle.stx_load.specs.Generated.{calls_from}
use Rattle.stx_load.proofs.DrawLaws.{after_none, after_group, one_more}
use Rattle.stx_load.proofs.clients.calls_of_clients.Goals as goal

pub loop-client-init : goal.loop-client-init
loop-client-init c = (c.new-clients.ensures, after_none c.args.draws.now.state)

pub loop-client-preserved : goal.loop-client-preserved
loop-client-preserved c =
    one_more (λ k. calls_from (after c.args.draws.now.state (8 * k))) c.args.draws.now.state (λ n. 8 * n) c.loop-client._client c.loop-client.invariant c.in_ok-push.ensures.ok
    (λ at. c.in_ok-calls_of_client.ensures.calls ∙ ap calls_from at) (λ at. c.in_ok-calls_of_client.ensures.state ∙ after_group _ _ 8 c.loop-client._client at)
