-- The call is proper, and its reply is the next entry.
use Rattle.std.proofs.Common.{◌∙◌, ap}
use Rattle.stx_base.proofs.Results.{on_ok_two}
use Rattle.stx_base.specs.Notes.{is_reply}
use Rattle.stx_client.specs.View.{fed}
use Rattle.stx_play.proofs.TurnLaws.{below, proper_call, after_call, suits_call}
use Rattle.stx_play.proofs.turn.take_turn.Goals as goal

pub ask-requires-clause-client : goal.ask-requires-clause-client
ask-requires-clause-client c = below c.args.scenario.now c.args.machine.now c.args.number c.args.pool.now c.args.store.now c.requires.ready

pub ask-requires-clause-proper : goal.ask-requires-clause-proper
ask-requires-clause-proper c = proper_call c.args.scenario.now c.args.machine.now c.args.number c.args.pool.now c.args.store.now c.requires.ready c.next-call.result c.next-call.ensures.want

pub feed-requires-clause-reply : goal.feed-requires-clause-reply
feed-requires-clause-reply c =
    ap (λ v. is_reply v.out c.in_ok-reply.reply) c.next-call.ensures.out
    ∙ suits_call c.args.pool.now c.args.store.now c.ask.new.pool c.ask.new.store c.args.number c.next-call.result c.in_ok-reply.reply c.in_ok-reply.ensures

pub returns : goal.returns
returns c =
    on_ok_two c.feed.result (λ is_fed read.
    after_call c.args.scenario.now c.args.machine.now c.args.number c.args.pool.now c.args.store.now c.requires.ready c.next-call.result c.in_ok-reply.reply
    c.ask.new.pool c.ask.new.store c.feed.new.self c.next-call.ensures.want c.in_ok-reply.ensures
    (is_fed ∙ ap (λ v. fed v c.in_ok-reply.reply) c.next-call.ensures.out) read)
    c.feed.ensures.ok c.feed.ensures.read
