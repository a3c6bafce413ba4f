-- Nothing was called and nothing read.
use Rattle.stx_play.proofs.NewLaws.{new_keeps}
use Rattle.stx_play.proofs.played.Played.new.Goals as goal

pub invariant_of-result : goal.invariant_of-result
invariant_of-result c =
    new_keeps c.args.setup.now.scenario c.in_ok-pool.pool c.in_ok-store.store c.in_ok-clients.clients.items c.requires c.in_ok-pool.ensures c.in_ok-store.ensures c.in_ok-clients.ensures.clients c.in_ok-clients.ensures.read
