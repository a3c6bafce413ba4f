-- One shared call of one client.
use Rattle.std.proofs.Common.{◌<◌, sym, subst}
use Rattle.stx_play.proofs.PlayedLaws.{at_client, ready_at, going_after, within}
use Rattle.stx_play.proofs.played.Played.make_call.Goals as goal

pub index_mut-requires : goal.index_mut-requires
index_mut-requires c =
    let at = at_client c.self.invariant c.args.self.now c.self.view_is c.requires.going c.args.client c.requires.client in
    subst (λ n. c.args.client < n) (sym c.self.inside.clients.ok.0) at.inside

pub take_turn-requires-clause-ready : goal.take_turn-requires-clause-ready
take_turn-requires-clause-ready c =
    let i = c.self.inside in
    let S = i.setup.now.scenario in
    let at = at_client c.self.invariant c.args.self.now c.self.view_is c.requires.going c.args.client c.requires.client in
    ready_at S i.pool i.store i.clients.items at.going c.self.invariant.playable c.args.client c.index_mut.result.now at.below c.index_mut.ensures.value

pub invariant_of-self-2 : goal.invariant_of-self-2
invariant_of-self-2 c =
    let i = c.self.inside in
    let S = i.setup.now.scenario in
    let at = at_client c.self.invariant c.args.self.now c.self.view_is c.requires.going c.args.client c.requires.client in
    record {
      playable = c.self.invariant.playable;
      going = λ _. going_after S i.pool i.store i.clients.items at.going c.args.client c.take_turn.new.pool c.take_turn.new.store c.take_turn.new.machine at.below c.in_ok-take_turn.ensures;
    }

pub returns-clause-one_more : goal.returns-clause-one_more
returns-clause-one_more c =
    let i = c.self.inside in
    let S = i.setup.now.scenario in
    let at = at_client c.self.invariant c.args.self.now c.self.view_is c.requires.going c.args.client c.requires.client in
    let after = going_after S i.pool i.store i.clients.items at.going c.args.client c.take_turn.new.pool c.take_turn.new.store c.take_turn.new.machine at.below c.in_ok-take_turn.ensures in
    rw (← c.self.view_is) (record { one_more = c.in_ok-take_turn.ensures.one_more; within = within S c.take_turn.new.pool c.take_turn.new.store _ after c.self.invariant.playable })
