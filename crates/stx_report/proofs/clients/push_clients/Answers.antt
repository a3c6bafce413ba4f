-- One client more, and none left.
use Rattle.std.proofs.Common.{◌<◌, length, ◌++◌, ◌∙◌, ap, arith}
use Rattle.stx_base.specs.Report.{clients_text, pool_places, store_places}
use Rattle.stx_report.specs.inner.Places.{client_words}
use Rattle.stx_report.proofs.PlaceLaws.{each_at}
use Rattle.stx_report.proofs.TextLaws.{clients_step, clients_end}
use Rattle.stx_report.proofs.clients.push_clients.Goals as goal

pub loop-client-preserved : goal.loop-client-preserved
loop-client-preserved c =
    let scenario = c.args.scenario.now in
    let outcome = c.args.outcome.now in
    let client = c.loop-client.client in
    let below : client < c.len-clients.result = omega (arith, c.loop-client-test.true, c.len-clients.ensures, ap length c.as_slice-lines-items.ensures) in
    let pool = c.as_slice-pool.ensures
    ∙ each_at _ c.len-clients.result c.in_ok-pool.pool.items client _ _ c.in_ok-pool.ensures below c.index.ensures
    ∙ ap (λ history. pool_places history client) c.as_slice.ensures in
    let store = c.as_slice-store.ensures
    ∙ each_at _ c.len-clients.result c.in_ok-store.store.items client _ _ c.in_ok-store.ensures below c.index-in-loop-client.ensures
    ∙ ap (λ history. store_places history client) c.as_slice-2.ensures in
    clients_step scenario outcome c.as_slice-lines-items.result.now client c.lines-item.result _ _ _
    c.loop-client-test.true c.lines-item.is
    (c.in_ok-push_client.ensures
    ∙ ap (λ places. c.loop-client.out.items ++ client_words scenario client places c.as_slice-store.result.now c.lines-item.result) pool
    ∙ ap (λ places. c.loop-client.out.items ++ client_words scenario client (pool_places outcome.pool client) places c.lines-item.result) store)
    c.loop-client.invariant

pub returns : goal.returns
returns c =
    clients_end c.args.scenario.now c.args.outcome.now c.as_slice-lines-items.result.now c.loop-client.client _ _
    c.loop-client-test.false c.loop-client.invariant
    ∙ ap (λ clients. c.args.out.now.items ++ clients_text c.args.scenario.now c.args.outcome.now 0 clients) c.as_slice-lines-items.ensures
